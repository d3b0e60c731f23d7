-- What is kept of a past once an event was undone, and which events can't be.
use Rattle.std.proofs.Common.{◌≡◌, true, false, List, [], ◌∷◌, ◌++◌, ◌⊎◌, inl, inr, refl, sym, ap, subst, ◌∙◌}
use Rattle.ic_name.specs.Events.{Event, Pair, pair}
use Rattle.ic_name.specs.declared.ids.EventId.{EventId}
use Rattle.ic_path.specs.Orders.{here, IsIn, Alike}
use Rattle.ic_path.proofs.Alikes.{alike_self, alike_back, alike_then, alike_more, alike_past, alike-append, alike-map, alike-in}
use Rattle.ic_path.proofs.Picks.{in_first, in_more, in-cons_cases, pick_before, pick_behind}
use Rattle.ic_theory.specs.Active.{IsActive}
use Rattle.ic_theory.specs.Causes.{IsCause, IsDependent}
use Rattle.ic_theory.specs.Future.{Includes}
use Rattle.ic_theory.specs.Sound.{IsSound}
use Rattle.ic_theory.proofs.Closed.{cause_stays}
use Rattle.ic_theory.proofs.Future.{pick_part}
use Rattle.ic_theory.proofs.Ranks.{cause_included, sound-alike}
use Rattle.ic_theory.proofs.Swaps.{undo_sound}
use Rattle.ic_path.proofs.InLists.{in-map, map_cases}
use Rattle.ic_roster.specs.Rosters.{Stander}
use Rattle.ic_set.specs.Changes.{TakesOut}
use Rattle.ic_set.specs.Removal.{IsFree, IsLeast}
use Rattle.ic_set.specs.Sets.{IsStandingSet}
use Rattle.ic_set.specs.Views.{SetView, standing}
use Rattle.ic_set.proofs.Namings.{same_lead, same_stander}
use Rattle.ic_trace.specs.declared.past.deep.DeepEvent.{DeepEvent}
use Rattle.ic_trace.specs.DeepEvents.{AreShallow, deep_events, KeepsDeep}
use Rattle.ic_trace.specs.Pasts.{Undoes}
use Rattle.ic_trace.proofs.DeepLinks.{deep_free}
use Rattle.ic_trace.proofs.FiredPasts.{are_deep, past_of, same_past, causes_kept, deep_is_active}
use Rattle.ic_trace.proofs.WithoutDeep.{cause_shallow, deep_active, without_deep}

module _ (v : SetView) (set : IsStandingSet v) (ds : List DeepEvent) (k : KeepsDeep v ds) where
  -- all events have those of the set
  pub whole : Includes (deep_events ds ++ standing v) (standing v)
  whole = record { others = deep_events ds; alike = alike_self (deep_events ds ++ standing v) }

  -- an event beside the set
  pub beside : (d : DeepEvent) → IsIn d ds → IsIn d.event (deep_events ds ++ standing v)
  beside d i = (_, pick_before (standing v) (in-map (λ (y : DeepEvent). y.event) i).1)

  -- an event of the set
  pub inside : (x : Stander) → IsIn x v.events → IsIn x.event (deep_events ds ++ standing v)
  inside x i = (_, pick_behind (deep_events ds) (in-map (λ (y : Stander). y.event) i).1)

  -- nothing depends on an event beside the set
  deep_alone : (d : DeepEvent) → IsIn d ds → (f : Event) → IsDependent v.start (deep_events ds ++ standing v) d.event f → ⊥
  deep_alone d i f q = deep_free v.start set.proper (deep_events ds ++ standing v) k.sound k.shallow d.event (k.deep d i) f q.0 q.1

  module _ (d : DeepEvent) (ds' : List DeepEvent) (left : Alike ds (d ∷ ds')) where
    -- it is there
    there : IsIn d ds
    there = alike-in (alike_back left) (in_first d ds')

    -- the others are there
    up : (x : DeepEvent) → IsIn x ds' → IsIn x ds
    up x i = alike-in (alike_back left) (in_more d i)

    -- all events
    all_left : Alike (deep_events ds ++ standing v) (d.event ∷ (deep_events ds' ++ standing v))
    all_left = alike-append (alike-map (λ (x : DeepEvent). x.event) left) (alike_self (standing v))

    -- what is kept without it
    pub keeps_fewer : KeepsDeep v ds'
    keeps_fewer = record {
      sound = undo_sound v.start set.proper (sound-alike v.start all_left k.sound) here
          (λ f i q. deep_alone d there f (alike-in (alike_back all_left) i, cause_included v.start (record { others = []; alike = alike_back all_left }) q));
      shallow = λ f i. k.shallow f (alike-in (alike_back all_left) (in_more d.event i));
      deep = λ x i. k.deep x (up x i);
      causes = λ x i. k.causes x (up x i);
    }

    -- and what undoing it did
    pub undoes_deep : (p : Pair) → pair d.event ≡ p → Undoes (past_of v ds) p true (past_of v ds')
    undoes_deep p q = (d.event, q, deep_alone d there, record { start = refl; events = alike_back all_left })

  module _ (p : Pair) (new : (d : DeepEvent) → IsIn d ds → pair d.event ≡ p → ⊥) where
    -- where no event has the name nothing is undone
    pub undoes_none : ((x : Stander) → IsIn x v.events → pair x.event ≡ p → ⊥) → Undoes (past_of v ds) p false (past_of v ds)
    undoes_none none = (λ e i q. absurd (by e q (pick_part (deep_events ds) (standing v) i.1)), same_past (past_of v ds))
      where
        by : (e : Event) → pair e ≡ p → IsIn e (deep_events ds) ⊎ IsIn e (standing v) → ⊥
        by e q (inl i) = let d = map_cases (λ (y : DeepEvent). y.event) ds i in new d.0 d.1 (ap pair d.2 ∙ q)
        by e q (inr i) = let x = map_cases (λ (y : Stander). y.event) v.events i in none x.0 x.1 (ap pair x.2 ∙ q)

    module _ (x : Stander) (i : IsIn x v.events) (q : pair x.event ≡ p) where
      -- the event of the name is the set's
      pub one_named : (e : Event) → IsIn e (deep_events ds ++ standing v) → pair e ≡ p → e ≡ x.event
      one_named e j r = by (pick_part (deep_events ds) (standing v) j.1)
        where
          by : IsIn e (deep_events ds) ⊎ IsIn e (standing v) → e ≡ x.event
          by (inl l) = let d = map_cases (λ (y : DeepEvent). y.event) ds l in absurd (new d.0 d.1 (ap pair d.2 ∙ r))
          by (inr l) =
              let y = map_cases (λ (y : Stander). y.event) v.events l in
              let lead = ap (λ (n : Pair). n.lead) (ap pair y.2 ∙ r ∙ sym q) in
              sym y.2 ∙ ap (λ (z : Stander). z.event) (same_lead v.events y.0 x set.own_lines y.1 i lead)

      -- it isn't undone where something depends on it
      held_by : (f : Event) → IsDependent v.start (deep_events ds ++ standing v) x.event f → Undoes (past_of v ds) p false (past_of v ds)
      held_by f w = (
        λ e j r. (f, subst (λ g. IsDependent v.start (deep_events ds ++ standing v) g f) (sym (one_named e j r)) w),
        same_past (past_of v ds),
      )

      -- as an event beside the set that has it among its causes
      pub undoes_rested : (d : DeepEvent) → IsIn d ds → IsIn x.id d.causes.items → Undoes (past_of v ds) p false (past_of v ds)
      undoes_rested d j c =
          let y = (k.causes d j).only x.id c in
          let same : y.0 ≡ x = same_stander v.events y.0 x set.own_lines y.1 i (inl y.2) in
          held_by d.event (beside d j, cause_included v.start whole (subst (λ (z : Stander). IsCause v.start (standing v) d.event z.event) same y.3))

      -- or one of the set
      pub undoes_held : (e : EventId) → IsLeast v x.id e → Undoes (past_of v ds) p false (past_of v ds)
      undoes_held e l =
          let same : l.held ≡ x = same_stander v.events l.held x set.own_lines l.held_there i (inl l.held_id) in
          let w = l.least.dependent in
          held_by l.holder.event (
            inside l.holder l.holder_there,
            cause_included v.start whole (subst (λ (z : Stander). IsCause v.start (standing v) l.holder.event z.event) same w.1),
          )

      module _ (v' : SetView) (t : TakesOut v x.id v') (free : IsFree v x.id) (rests : ((d : DeepEvent) × IsIn d ds × IsIn x.id d.causes.items) → ⊥) where
        -- the event that goes
        gone : t.entry ≡ x
        gone = same_stander v.events t.entry x set.own_lines (alike-in (alike_back t.events) (in_first t.entry v'.events)) i (inl t.under)

        -- the events of the set
        events : Alike (standing v) (x.event ∷ standing v')
        events = rw gone at (alike-map (λ (y : Stander). y.event) t.events)

        -- all events
        all : Alike (deep_events ds ++ standing v) (x.event ∷ (deep_events ds ++ standing v'))
        all = alike_then (alike_more (deep_events ds) events) (alike_back (alike_past (x.event ∷ []) (deep_events ds) (standing v')))

        -- nothing depends on it
        alone : (f : Event) → IsDependent v.start (deep_events ds ++ standing v) x.event f → ⊥
        alone f w = by (pick_part (deep_events ds) (standing v) w.0.1)
          where
            by : IsIn f (deep_events ds) ⊎ IsIn f (standing v) → ⊥
            by (inl j) =
                let d = map_cases (λ (y : DeepEvent). y.event) ds j in
                let c = cause_shallow v.start set.proper k.sound.apart whole (deep_is_active v set ds k d.0 d.1) (subst (λ g. IsCause v.start (deep_events ds ++ standing v) g x.event) (sym d.2) w.1) in
                rests (d.0, d.1, (k.causes d.0 d.1).each x.id (x, i, refl, c))
            by (inr j) = free x i refl f (j, cause_stays v.start set.proper k.sound.apart whole set.sound j w.1)

        -- the others are sound
        sound : IsSound v.start (deep_events ds ++ standing v')
        sound =
            undo_sound v.start set.proper (sound-alike v.start all k.sound) here
            (λ f j c. alone f (alike-in (alike_back all) j, cause_included v.start (record { others = []; alike = alike_back all }) c))

        -- of agents with few digits
        shallow : AreShallow (deep_events ds ++ standing v')
        shallow f j = k.shallow f (alike-in (alike_back all) (in_more x.event j))

        -- those beside the set are active in what is left of it
        active : (d : DeepEvent) → IsIn d ds → IsActive v.start (standing v') d.event
        active d j =
            deep_active v.start set.proper (deep_events ds) (standing v') (are_deep v ds k) sound
            (without_deep v.start set.proper (deep_events ds) (standing v') (are_deep v ds k) shallow sound) d.event (in-map (λ (y : DeepEvent). y.event) j) shallow

        -- causes stay
        cause_left : (d : DeepEvent) → IsIn d ds → (y : Stander) → IsIn y v.events → IsCause v.start (standing v) d.event y.event → IsIn y v'.events × IsCause v.start (standing v') d.event y.event
        cause_left d j y l c = (
          by (in-cons_cases (alike-in t.events l)),
          cause_shallow v.start set.proper set.sound.apart (record { others = x.event ∷ []; alike = alike_back events }) (active d j) c,
        )
          where
            by : (y ≡ t.entry) ⊎ IsIn y v'.events → IsIn y v'.events
            by (inl same) = absurd (rests (d, j, subst (λ (z : Stander). IsIn z.id d.causes.items) (same ∙ gone) ((k.causes d j).each y.id (y, l, refl, c))))
            by (inr there) = there

        -- what is kept without it
        pub keeps_left : KeepsDeep v' ds
        keeps_left = record {
          sound = rw t.start sound;
          shallow = shallow;
          deep = k.deep;
          causes = λ d j. causes_kept v v' d.event d.causes.items
              (λ y l c. (let w = cause_left d j y l c in (w.0, rw t.start w.1)))
              (λ y l c. (
                alike-in (alike_back t.events) (in_more t.entry l),
                cause_included v.start (record { others = x.event ∷ []; alike = alike_back events }) (rw t.start at c),
              )) (k.causes d j);
        }

        -- and what undoing it did
        pub undoes_left : Undoes (past_of v ds) p true (past_of v' ds)
        undoes_left = (x.event, q, alone, record { start = sym t.start; events = alike_back all })
