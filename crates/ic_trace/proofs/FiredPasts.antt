-- What is kept of a past once an event was fired.
use Rattle.std.proofs.Common.{◌≡◌, ℕ, ◌≤◌, true, List, [], ◌∷◌, ◌++◌, ◌⊎◌, inl, inr, refl, sym, ap, arith, subst, ◌∙◌}
use Rattle.ic_name.specs.Names.{Name}
use Rattle.ic_name.specs.Events.{Event, Pair, pair}
use Rattle.ic_name.specs.declared.ids.EventId.{EventId}
use Rattle.ic_path.specs.Orders.{IsIn, Alike}
use Rattle.ic_path.proofs.Alikes.{alike_self, alike_back, alike_then, alike_more, alike_past, alike-append, alike-map, alike-in, append-alike-comm}
use Rattle.ic_path.proofs.Picks.{in_more, in-cons_cases, none_in, pick_before}
use Rattle.ic_theory.specs.Active.{IsActive}
use Rattle.ic_theory.specs.Causes.{IsCause}
use Rattle.ic_theory.specs.Future.{Includes}
use Rattle.ic_theory.specs.Machine.{IsDeep}
use Rattle.ic_theory.specs.Sets.{consumed_times}
use Rattle.ic_theory.specs.Sound.{IsSound}
use Rattle.ic_theory.proofs.Future.{consumed_in, loose_agent, pick_part}
use Rattle.ic_theory.proofs.Machines.{fire_sound}
use Rattle.ic_theory.proofs.Ranks.{cause_in, cause_included, sound-alike}
use Rattle.ic_path.proofs.InLists.{in-map, map_cases}
use Rattle.ic_path.proofs.OnceLists.{each_once_so}
use Rattle.ic_roster.specs.Rosters.{Stander}
use Rattle.ic_set.specs.Admission.{AreCausesOf}
use Rattle.ic_set.specs.Changes.{Admits, IsSame}
use Rattle.ic_set.specs.Pairs.{IsPairOf}
use Rattle.ic_set.specs.Sets.{IsStandingSet}
use Rattle.ic_set.specs.declared.pairs.ActivePair.{ActivePair}
use Rattle.ic_set.specs.Views.{SetView, standing}
use Rattle.ic_set.proofs.Namings.{same_member}
use Rattle.ic_trace.specs.declared.past.deep.DeepEvent.{DeepEvent}
use Rattle.ic_trace.specs.DeepEvents.{IsShallow, AreShallow, deep_events, KeepsDeep}
use Rattle.ic_trace.specs.Pasts.{PastView, IsSamePast, Fires}
use Rattle.ic_trace.proofs.WithoutDeep.{active_shallow, active_whole, cause_shallow, deep_active}

-- the events beside the set
pub are_deep : (v : SetView) (ds : List DeepEvent) → KeepsDeep v ds → (d : Event) → IsIn d (deep_events ds) → IsDeep d
are_deep v ds k d i = let x = map_cases (λ (y : DeepEvent). y.event) ds i in subst IsDeep x.2 (k.deep x.0 x.1)

-- all events of a past
abbrev pub past_of : SetView → List DeepEvent → PastView
past_of v ds = record { start = v.start; events = deep_events ds ++ standing v }

-- a pair is of one event
pub one_event : (v : SetView) → IsStandingSet v → (p : ActivePair) (e f : Event) → IsPairOf v e p → IsPairOf v f p → e ≡ f
one_event v set p e f a b =
    let lead = same_member v.agents _ _ set.own_names a.lead b.lead (inl refl) in
    let other = same_member v.agents _ _ set.own_names a.other b.other (inl refl) in
    λ u. record { lead = (lead u).name; lead_kind = (lead u).kind; other = (other u).name; other_kind = (other u).kind }

-- a past is the same as it was
pub same_past : (p : PastView) → IsSamePast p p
same_past p = record { start = refl; events = alike_self p.events }

-- so it is where its set is the same
pub same_set_past : (v v' : SetView) (ds : List DeepEvent) → IsSame v v' → IsSamePast (past_of v ds) (past_of v' ds)
same_set_past v v' ds same = record { start = same.start; events = alike_more (deep_events ds) (alike-map (λ (x : Stander). x.event) same.events) }

-- direct causes by ids are those in another set where each event is a cause in both or in neither
pub causes_kept : (v v' : SetView) (d : Event) (ids : List EventId)
    → ((y : Stander) → IsIn y v.events → IsCause v.start (standing v) d y.event → IsIn y v'.events × IsCause v'.start (standing v') d y.event)
    → ((y : Stander) → IsIn y v'.events → IsCause v'.start (standing v') d y.event → IsIn y v.events × IsCause v.start (standing v) d y.event)
    → AreCausesOf v d ids → AreCausesOf v' d ids
causes_kept v v' d ids to from are =
    each_once_so
    {P = λ i. (y : Stander) × IsIn y v.events × (y.id ≡ i) × IsCause v.start (standing v) d y.event}
    {Q = λ i. (y : Stander) × IsIn y v'.events × (y.id ≡ i) × IsCause v'.start (standing v') d y.event}
    (λ i w. (let t = to w.0 w.1 w.3 in (w.0, t.0, w.2, t.1))) (λ i w. (let t = from w.0 w.1 w.3 in (w.0, t.0, w.2, t.1))) are

-- what is kept is kept where the set is the same
pub keeps_same : (v v' : SetView) (ds : List DeepEvent) → IsSame v v' → KeepsDeep v ds → KeepsDeep v' ds
keeps_same v v' ds same k = record {
  sound = rw same.start (sound-alike v.start all k.sound);
  shallow = λ e i. k.shallow e (alike-in (alike_back all) i);
  deep = k.deep;
  causes = λ d i. causes_kept v v' d.event d.causes.items
      (λ y j q. (alike-in same.events j, rw same.start (cause_included v.start (record { others = []; alike = events }) q)))
      (λ y j q. (alike-in (alike_back same.events) j, cause_included v.start (record { others = []; alike = alike_back events }) (rw same.start at q)))
      (k.causes d i);
}
  where
    events : Alike (standing v) (standing v')
    events = alike-map (λ (x : Stander). x.event) same.events

    all : Alike (deep_events ds ++ standing v) (deep_events ds ++ standing v')
    all = alike_more (deep_events ds) events

module _ (v : SetView) (set : IsStandingSet v) (ds : List DeepEvent) (k : KeepsDeep v ds) where
  -- an event that isn't active in the set isn't active
  pub not_active : (e : Event) → IsShallow e → (IsActive v.start (standing v) e → ⊥) → IsActive v.start (deep_events ds ++ standing v) e → ⊥
  not_active e short none active = none (active_shallow v.start set.proper (deep_events ds) (standing v) (are_deep v ds k) k.sound set.sound e shallow active)
    where
      shallow : AreShallow (e ∷ (deep_events ds ++ standing v))
      shallow f i = elim (in-cons_cases i) [ inl q ↦ subst IsShallow (sym q) short | inr j ↦ k.shallow f j ]

  -- nor is one of the others
  pub not_again : (e : Event) (d : DeepEvent) → IsIn d ds → pair d.event ≡ pair e → IsActive v.start (deep_events ds ++ standing v) e → ⊥
  not_again e d i q active =
      let none = loose_agent v.start (deep_events ds ++ standing v) e.lead active.wire.from_loose in
      let there : IsIn d.event (deep_events ds ++ standing v) = (_, pick_before (standing v) (in-map (λ (y : DeepEvent). y.event) i).1) in
      let some = consumed_in there.1 in
      let same = ap (λ (p : Pair). consumed_times p.lead (deep_events ds ++ standing v)) q in
      omega (arith, none, some, same)

  -- each of the others is active in the set
  pub deep_is_active : (d : DeepEvent) → IsIn d ds → IsActive v.start (standing v) d.event
  deep_is_active d i = deep_active v.start set.proper (deep_events ds) (standing v) (are_deep v ds k) k.sound set.sound d.event (in-map (λ (y : DeepEvent). y.event) i) k.shallow

  module _ (e : Event) (short : IsShallow e) (active : IsActive v.start (standing v) e) (new : (d : DeepEvent) → IsIn d ds → pair d.event ≡ pair e → ⊥) where
    -- an event that is active in the set, and isn't one of the others, is active
    pub active_now : IsActive v.start (deep_events ds ++ standing v) e
    active_now = active_whole v.start set.proper (deep_events ds) (standing v) (are_deep v ds k) k.sound set.sound e other active
      where
        other : IsIn e (deep_events ds) → ⊥
        other i = let d = map_cases (λ (y : DeepEvent). y.event) ds i in new d.0 d.1 (ap pair d.2)

    -- all are sound with it
    sound_more : IsSound v.start (e ∷ (deep_events ds ++ standing v))
    sound_more = fire_sound v.start set.proper k.sound active_now

    -- and of agents with few digits
    shallow_more : AreShallow (e ∷ (deep_events ds ++ standing v))
    shallow_more f i = elim (in-cons_cases i) [ inl q ↦ subst IsShallow (sym q) short | inr j ↦ k.shallow f j ]

    module _ (v' : SetView) (line : ℕ) (id : EventId) (t : Admits v e line id v') where
      -- the events of the set
      events : Alike (e ∷ standing v) (standing v')
      events = rw t.event at (alike-map (λ (x : Stander). x.event) t.events)

      -- all events
      all : Alike (e ∷ (deep_events ds ++ standing v)) (deep_events ds ++ standing v')
      all = alike_then (alike_past (e ∷ []) (deep_events ds) (standing v)) (alike_more (deep_events ds) events)

      -- the set with the event has the set
      more : Includes (standing v') (standing v)
      more = record { others = e ∷ []; alike = events }

      -- in the set no agent is in two events
      apart : (n : Name) → consumed_times n (standing v') ≤ 1
      apart n = (sound-alike v.start events (fire_sound v.start set.proper set.sound active)).apart n

      -- causes are those of before
      cause_back : (d : DeepEvent) → IsIn d ds → (y : Stander) → IsIn y v'.events → IsCause v.start (standing v') d.event y.event → IsIn y v.events × IsCause v.start (standing v) d.event y.event
      cause_back d i y j q = (by (in-cons_cases (alike-in (alike_back t.events) j)), was)
        where
          was : IsCause v.start (standing v) d.event y.event
          was = cause_shallow v.start set.proper apart more (deep_is_active d i) q

          no_event : y.event ≡ e → ⊥
          no_event same =
              let none = loose_agent v.start (standing v) e.lead active.wire.from_loose in
              let some = consumed_in (cause_in v.start was).1 in
              let equal = ap (λ (f : Event). consumed_times f.lead (standing v)) same in
              omega (arith, none, some, equal)

          by : (y ≡ t.entry) ⊎ IsIn y v.events → IsIn y v.events
          by (inl same) = absurd (no_event (ap (λ (x : Stander). x.event) same ∙ t.event))
          by (inr there) = there

      -- what is kept with the event in the set
      pub keeps_more : KeepsDeep v' ds
      keeps_more = record {
        sound = rw t.start (sound-alike v.start all sound_more);
        shallow = λ f i. shallow_more f (alike-in (alike_back all) i);
        deep = k.deep;
        causes = λ d i. causes_kept v v' d.event d.causes.items
            (λ y j q. (alike-in t.events (in_more t.entry j), rw t.start (cause_included v.start more q)))
            (λ y j q. cause_back d i y j (rw t.start at q)) (k.causes d i);
      }

      -- and what firing it did
      pub fires_more : Fires (past_of v ds) e true (past_of v' ds)
      fires_more = (active_now, record { start = t.start; events = all })

    module _ (deep : IsDeep e) (d : DeepEvent) (same : d.event ≡ e) (causes : AreCausesOf v e d.causes.items) (ds' : List DeepEvent) (pushed : ds' ≡ ds ++ d ∷ []) where
      -- all events
      all_beside : Alike (e ∷ (deep_events ds ++ standing v)) (deep_events ds' ++ standing v)
      all_beside =
          let moved : Alike (d ∷ ds) ds' = rw pushed (append-alike-comm (d ∷ []) ds) in
          alike-append (rw same at (alike-map (λ (x : DeepEvent). x.event) moved)) (alike_self (standing v))

      -- what is kept with the event beside the set
      pub keeps_beside : KeepsDeep v ds'
      keeps_beside = record {
        sound = sound-alike v.start all_beside sound_more;
        shallow = λ f i. shallow_more f (alike-in (alike_back all_beside) i);
        deep = λ x i. by_deep x (parts x i);
        causes = λ x i. by_causes x (parts x i);
      }
        where
          last : (x : DeepEvent) → (x ≡ d) ⊎ IsIn x [] → x ≡ d
          last x (inl q) = q
          last x (inr i) = absurd (none_in i)

          parts : (x : DeepEvent) → IsIn x ds' → IsIn x ds ⊎ IsIn x (d ∷ [])
          parts x i = let j : IsIn x (ds ++ d ∷ []) = rw pushed at i in pick_part ds (d ∷ []) j.1

          by_deep : (x : DeepEvent) → IsIn x ds ⊎ IsIn x (d ∷ []) → IsDeep x.event
          by_deep x (inl i) = k.deep x i
          by_deep x (inr i) = subst (λ (y : DeepEvent). IsDeep y.event) (sym (last x (in-cons_cases i))) (subst IsDeep (sym same) deep)

          by_causes : (x : DeepEvent) → IsIn x ds ⊎ IsIn x (d ∷ []) → AreCausesOf v x.event x.causes.items
          by_causes x (inl i) = k.causes x i
          by_causes x (inr i) = subst (λ (y : DeepEvent). AreCausesOf v y.event y.causes.items) (sym (last x (in-cons_cases i))) (subst (λ f. AreCausesOf v f d.causes.items) (sym same) causes)

      -- and what firing it did
      pub fires_beside : Fires (past_of v ds) e true (past_of v ds')
      fires_beside = (active_now, record { start = refl; events = all_beside })
