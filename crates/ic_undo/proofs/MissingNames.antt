-- The listed names of which no event stands.
use Rattle.std.proofs.Common.{◌≡◌, ℕ, ◌+◌, ◌≤◌, Bool, true, false, cond, arith, Option, Some, None, List, [], ◌∷◌, ◌++◌, ◌⊎◌, inl, inr, refl, sym, ap, subst, ◌∙◌}
use Rattle.std.specs.BTreeMap.{is_at}
use Rattle.std.specs.Prelude.{is_some, IfSome, IfNone, if◌then◌else◌}
use Rattle.std.specs.Ordering.{is_gt}
use Rattle.ic_name.specs.Events.{Event, Pair, pair, pair_cmp}
use Rattle.ic_name.specs.declared.ids.EventId.{EventId}
use Rattle.ic_path.specs.Orders.{IsIn}
use Rattle.ic_path.proofs.Alikes.{alike_back, alike-in}
use Rattle.ic_path.proofs.Picks.{none_in, in_first, in_more, in-cons_cases, pick_before}
use Rattle.ic_theory.specs.Active.{IsActive}
use Rattle.ic_theory.specs.Sound.{IsSound}
use Rattle.ic_roster.specs.Rosters.{Stander}
use Rattle.ic_set.specs.Changes.{Admits}
use Rattle.ic_set.specs.Views.{SetView, standing}
use Rattle.ic_journal.specs.Benches.{IsBench}
use Rattle.ic_journal.specs.Views.{BenchView, set_of}
use Rattle.ic_undo.specs.Absorbing.{IsWithin, IsNever, IsLeastNever}
use Rattle.ic_undo.specs.Coming.{Comes, NoneListed}
use Rattle.ic_undo.specs.Ready.{IsMissingName, TellsMissing}
use Rattle.ic_path.proofs.InLists.{in_behind, in-map, map_cases}
use Rattle.ic_undo.proofs.ComingEvents.{stood_or_listed, stands_still}
use Rattle.ic_undo.proofs.PairTests.{pair_only, pair_fails, stands_or_missing}
use Rattle.ic_undo.proofs.Places.{parts}
use Rattle.ic_undo.proofs.WithinSets.{active_absent, sound_within}

-- the test that tells none
pub missing_none : (v : SetView) (test : Pair → Bool) → ((p : Pair) → test p ≡ false) → TellsMissing v [] test
missing_none v test none p = (λ t. (let f = none p in absurd cc), λ m. absurd (none_in m.0))

-- the event that was found stands
pub found_stands : (v : SetView) (r : Option EventId) (n : Pair) → is_some r ≡ true → IfSome r (λ id. (x : Stander) × IsIn x v.events × (x.id ≡ id) × (pair x.event ≡ n)) → (x : Stander) × IsIn x v.events × (pair x.event ≡ n)
found_stands v None n h f = cc
found_stands v (Some id) n h f = (f.0, f.1, f.3)

-- where none was found none stands
pub none_stands : (v : SetView) (r : Option EventId) (n : Pair) → is_some r ≡ false → IfNone r (IsMissingName v n) → IsMissingName v n
none_stands v None n h f = f
none_stands v (Some id) n h f = cc

-- with one more at most there is one more at most
pub one_at_most : (b : Bool) (n m k : ℕ) → n ≡ m + (if b then 1 else 0) → m ≤ k → n ≤ k + 1
one_at_most true n m k h l = omega (arith, h, l)
one_at_most false n m k h l = omega (arith, h, l)

-- one name more, of which no event stands
pub missing_more : (v : SetView) (names : List Pair) (old new : Pair → Bool) (n key : Pair) → key ≡ n → IsMissingName v n → TellsMissing v names old
    → ((q : Pair) → new q ≡ cond (is_at (pair_cmp key) q) true (old q)) → TellsMissing v (names ++ n ∷ []) new
missing_more v names old new n key is missing tells put p = (λ t. to (is_at (pair_cmp key) p) refl (sym (put p) ∙ t), λ m. put p ∙ from m (is_at (pair_cmp key) p) refl)
  where
    to : (b : Bool) → is_at (pair_cmp key) p ≡ b → cond b true (old p) ≡ true → IsIn p (names ++ n ∷ []) × IsMissingName v p
    to true h t =
        let same : n ≡ p = sym is ∙ sym (pair_only key p h) in
        (subst (λ q. IsIn q (names ++ n ∷ [])) same (in_behind names (in_first n [])), subst (IsMissingName v) same missing)
    to false h t = let m = (tells p).0 t in ((m.0.0 ++ n ∷ [], pick_before (n ∷ []) m.0.1), m.1)

    from : IsIn p (names ++ n ∷ []) × IsMissingName v p → (b : Bool) → is_at (pair_cmp key) p ≡ b → cond b true (old p) ≡ true
    from m true h = refl
    from m false h = elim (parts names m.0) [
      | inl i ↦ (tells p).1 (i, m.1)
      | inr r ↦ elim r [ inl q ↦ absurd (pair_fails key p h (q ∙ sym is)) | inr j ↦ absurd (none_in j) ]
    ]

-- one name more, of which an event stands
pub missing_same : (v : SetView) (names : List Pair) (test : Pair → Bool) (n : Pair) (x : Stander) → IsIn x v.events → pair x.event ≡ n → TellsMissing v names test → TellsMissing v (names ++ n ∷ []) test
missing_same v names test n x there named tells p = (λ t. (let m = (tells p).0 t in ((m.0.0 ++ n ∷ [], pick_before (n ∷ []) m.0.1), m.1)), λ m. from m)
  where
    from : IsIn p (names ++ n ∷ []) × IsMissingName v p → test p ≡ true
    from m = elim (parts names m.0) [
      | inl i ↦ (tells p).1 (i, m.1)
      | inr r ↦ elim r [ inl q ↦ absurd (m.1 x there (named ∙ sym q)) | inr j ↦ absurd (none_in j) ]
    ]

-- no event of an active event's name stands
pub active_missing : (v : SetView) (e : Event) → IsActive v.start (standing v) e → IsMissingName v (pair e)
active_missing v e a x i same = active_absent v.start (standing v) e x.event a (in-map (λ (y : Stander). y.event) i) same

-- where an event has come to stand its name is missing no more
pub missing_after : (v w : SetView) (names : List Pair) (old new : Pair → Bool) (e : Event) (line : ℕ) (d : EventId) → Admits v e line d w → TellsMissing v names old
    → ((q : Pair) → new q ≡ cond (is_at (pair_cmp (pair e)) q) false (old q)) → TellsMissing w names new
missing_after v w names old new e line d a tells put p = (λ t. to (is_at (pair_cmp (pair e)) p) refl (sym (put p) ∙ t), λ m. put p ∙ from m (is_at (pair_cmp (pair e)) p) refl)
  where
    to : (b : Bool) → is_at (pair_cmp (pair e)) p ≡ b → cond b false (old p) ≡ true → IsIn p names × IsMissingName w p
    to true h t = absurd cc
    to false h t =
        let m = (tells p).0 t in (
          m.0,
          λ x i same. elim (in-cons_cases (alike-in (alike_back a.events) i)) [
            | inl q ↦ pair_fails (pair e) p h (sym same ∙ ap (λ (y : Stander). pair y.event) q ∙ ap pair a.event)
            | inr j ↦ m.1 x j same
          ],
        )

    from : IsIn p names × IsMissingName w p → (b : Bool) → is_at (pair_cmp (pair e)) p ≡ b → cond b false (old p) ≡ true
    from m true h = absurd (m.1 a.entry (alike-in a.events (in_first a.entry v.events)) (ap pair a.event ∙ sym (pair_only (pair e) p h)))
    from m false h = (tells p).1 (m.0, λ x i. m.1 x (alike-in a.events (in_more a.entry i)))

-- where no listed name is missing no listed event is active
pub none_missing : (v : BenchView) (names : List Pair) (test : Pair → Bool) → TellsMissing (set_of v) names test → ((p : Pair) → test p ≡ false) → NoneListed v names
none_missing v names test tells none e a i =
    let t : test (pair e) ≡ true = (tells (pair e)).1 (i, active_missing (set_of v) e a) in
    let f = none (pair e) in
    absurd cc

-- and an event of each listed name stands
pub all_stand : (v : BenchView) (names : List Pair) (test : Pair → Bool) → TellsMissing (set_of v) names test → ((p : Pair) → test p ≡ false) → (p : Pair) → IsIn p names → (e : Event) × IsIn e (standing (set_of v)) × (pair e ≡ p)
all_stand v names test tells none p i = elim (stands_or_missing v.events p) [
  | inl s ↦ (s.0.event, in-map (λ (x : Stander). x.event) s.1, s.2)
  | inr m ↦ (let t : test p ≡ true = (tells p).1 (i, m) in let f = none p in absurd cc)
]

module _ (old mid : BenchView) (names : List Pair) (ids : List EventId) (lawful : IsBench mid) (c : Comes old names ids mid) (test : Pair → Bool) (tells : TellsMissing (set_of mid) names test) (none : NoneListed mid names) where
  -- an event of a sound set of what stood and what is listed stands
  within_stands : (es : List Event) → IsWithin old.start (standing (set_of old)) names es → (e : Event) → IsIn e es → IsIn e (standing (set_of mid))
  within_stands es w = sound_within mid.start lawful.set.proper names (standing (set_of mid)) es lawful.set.sound none (subst (λ s. IsSound s es) (sym c.fired.start) w.sound) (λ e i. there e (w.each e i))
    where
      there : (e : Event) → IsIn e (standing (set_of old)) ⊎ IsIn (pair e) names → IsIn e (standing (set_of mid)) ⊎ IsIn (pair e) names
      there e (inl i) = inl (stands_still old mid names ids c e i)
      there e (inr i) = inr i

  -- what stands is such a set
  all_within : IsWithin old.start (standing (set_of old)) names (standing (set_of mid))
  all_within = record { sound = subst (λ s. IsSound s (standing (set_of mid))) c.fired.start lawful.set.sound; each = stood_or_listed old mid names ids c }

  -- a name of which no event stands is in none
  missing_never : (p : Pair) → IsMissingName (set_of mid) p → IsNever old.start (standing (set_of old)) names p
  missing_never p missing es w e i same =
      let x = map_cases (λ (x : Stander). x.event) mid.events (within_stands es w e i) in
      missing x.0 x.1 (ap pair x.2 ∙ same)

  -- and a name that is in none is missing
  never_missing : (p : Pair) → IsNever old.start (standing (set_of old)) names p → IsMissingName (set_of mid) p
  never_missing p never x i = never (standing (set_of mid)) all_within x.event (in-map (λ (y : Stander). y.event) i)

  -- so the least missing name is the least one that is in none
  pub least_never : (p : Pair) → test p ≡ true → ((q : Pair) → test q ≡ true → is_gt (pair_cmp p q) ≡ false) → IsLeastNever old.start (standing (set_of old)) names p
  least_never p there least = record {
    listed = ((tells p).0 there).0;
    never = missing_never p ((tells p).0 there).1;
    least = λ q i never. least q ((tells q).1 (i, never_missing q never));
  }
