-- Events of a mark that don't stand, found by leads and put in the mark's order by their places.
use Rattle.std.proofs.Common.{◌≡◌, ◌↔◌, ◌<◌, ℕ, List, [], ◌∷◌, ◌++◌, Bor, map, Some, slice_get, length, inl, inr, sym, ap, subst, ◌∙◌}
use Rattle.std.specs.List.{AllByRecursion}
use Rattle.std.specs.List.Sorted.{IsStrictlySortedBy}
use Rattle.std.specs.Ordering.{nat_cmp}
use Rattle.std.specs.declared.cmp.Ordering.{Ordering}
use Rattle.std.specs.declared.cmp.Ordering.TheVariants.{Less}
use Rattle.std.proofs.lemmas.Cmp.{ranked, tied_itself}
use Rattle.std.proofs.lemmas.List.{map-id, map-append}
use Rattle.std.proofs.lemmas.Map.Keys.{Less-from_sorted}
use Rattle.std.proofs.lemmas.Option.{slice_get_within, get_or_from_slice_get}
use Rattle.ic_name.specs.Names.{Name}
use Rattle.ic_name.specs.Events.{Event}
use Rattle.ic_path.specs.Orders.{IsIn}
use Rattle.ic_path.proofs.Picks.{none_in, pick_before}
use Rattle.ic_theory.specs.Causes.{canonical_cmp}
use Rattle.ic_theory.proofs.Replies.{canonical_total}
use Rattle.ic_roster.specs.Rosters.{Stander}
use Rattle.ic_set.specs.Sets.{IsStandingSet}
use Rattle.ic_set.specs.Views.{standing}
use Rattle.ic_journal.specs.Views.{BenchView, set_of}
use Rattle.ic_undo.specs.Among.{AreMissingPlaces}
use Rattle.ic_undo.specs.GoingBack.{AreMissing, IsMissing}
use Rattle.ic_undo.specs.Marks.{MarkView, IsMark}
use Rattle.ic_path.proofs.InLists.{in-map, map_cases}
use Rattle.ic_undo.proofs.LedPlaces.{in_at}
use Rattle.ic_undo.proofs.MarkedEvents.{one_led, stands_led, led_stands}
use Rattle.ic_undo.proofs.Places.{once_sorted, parts, in_part}

-- one value is held
one_value : {X : Type 0} {x y : X} → Some x ≡ Some y → x ≡ y
one_value h = cc

-- what is read at ascending places of a sorted list is sorted
sorted_read : {X : Type 0} (cmp : X → X → Ordering) (xs : List X) → IsStrictlySortedBy cmp xs → (ps : List ℕ) → IsStrictlySortedBy nat_cmp ps → (ys : List X) → map (slice_get xs) ps ≡ map Some ys → IsStrictlySortedBy cmp ys
unfolding IsStrictlySortedBy
sorted_read cmp xs sorted [] up [] read = tt
sorted_read cmp xs sorted [] up (y ∷ ys) read = absurd cc
sorted_read cmp xs sorted (p ∷ ps) up [] read = absurd cc
sorted_read {X} cmp xs sorted (p ∷ ps) up (y ∷ ys) read =
    let at : slice_get xs p ≡ Some y = cc in
    let rest : map (slice_get xs) ps ≡ map Some ys = cc in
    (first at ps up.0 ys rest, sorted_read cmp xs sorted ps up.1 ys rest)
  where
    first : slice_get xs p ≡ Some y → (qs : List ℕ) → AllByRecursion (λ q. nat_cmp p q ≡ Less) qs → (zs : List X) → map (slice_get xs) qs ≡ map Some zs → AllByRecursion (λ z. cmp y z ≡ Less) zs
    first at [] all [] read = tt
    first at [] all (z ∷ zs) read = absurd cc
    first at (q ∷ qs) all [] read = absurd cc
    first at (q ∷ qs) all (z ∷ zs) read =
        let here : slice_get xs q ≡ Some z = cc in
        let rest : map (slice_get xs) qs ≡ map Some zs = cc in
        let one = get_or_from_slice_get xs p y y at in
        let two = get_or_from_slice_get xs q z y here in
        ((λ i. cmp (sym one i) (sym two i)) ∙ Less-from_sorted cmp xs p q y sorted (ranked p q Less (sym all.0)) (slice_get_within xs q z here), first at qs all.1 zs rest)

module _ (v : BenchView) (set : IsStandingSet (set_of v)) (m : MarkView) (k : IsMark (record { start = v.start; events = m.events })) where
  -- events of the mark that one agent leads are one
  pub one_marked : (e f : Event) → IsIn e m.events → IsIn f m.events → e.lead ≡ f.lead → e ≡ f
  one_marked e f i j same = one_led v.start set.proper k.sound k.sound e f i j same

  -- no lead leads any
  pub missing_none : AreMissingPlaces v m [] []
  missing_none = record { each = λ e i j. absurd (none_in j); only = λ p j. absurd (none_in j) }

  -- one lead more, which leads none that is missing
  pub missing_same : (ns : List Name) (n : Name) (places : List ℕ) → ((e : Event) → IsMissing v m e → e.lead ≡ n → ⊥) → AreMissingPlaces v m ns places → AreMissingPlaces v m (ns ++ n ∷ []) places
  missing_same ns n places not h = record {
    each = λ e i j. elim (parts ns j) [
      | inl k ↦ h.each e i k
      | inr r ↦ elim r [ inl q ↦ absurd (not e i q) | inr k ↦ absurd (none_in k) ]
    ];
    only = h.only;
  }

  -- one lead more, which leads an event of the mark that stands
  pub missing_stands : (ns : List Name) (n : Name) (places : List ℕ) (e : Event) (x : Stander) → IsIn e m.events → e.lead ≡ n → IsIn x v.events → x.event.lead ≡ n → AreMissingPlaces v m ns places → AreMissingPlaces v m (ns ++ n ∷ []) places
  missing_stands ns n places e x i led j stands h = missing_same ns n places (λ f missing q.
      missing.1 (subst (λ (g : Event). IsIn g (standing (set_of v))) (one_marked e f i missing.0 (led ∙ sym q)) (stands_led v set m.events k e i (x, j, stands ∙ sym led)))) h

  -- one lead more, which leads an event of the mark that doesn't stand
  pub missing_more : (ns : List Name) (n : Name) (places : List ℕ) (p : ℕ) (e : Event) → slice_get m.events p ≡ Some e → e.lead ≡ n → ((x : Stander) → IsIn x v.events → x.event.lead ≡ n → ⊥)
      → AreMissingPlaces v m ns places → AreMissingPlaces v m (ns ++ n ∷ []) (places ++ p ∷ [])
  missing_more ns n places p e at led none h = record {
    each = λ f i j. elim (parts ns j) [
      | inl l ↦ (let q = h.each f i l in (q.0, (q.1.0 ++ p ∷ [], pick_before (p ∷ []) q.1.1), q.2))
      | inr r ↦ elim r [
        | inl q ↦ (p, in_part places p [], at ∙ ap Some (one_marked e f (in_at m.events p e at) i.0 (led ∙ sym q)))
        | inr l ↦ absurd (none_in l)
      ]
    ];
    only = λ q j. elim (parts places j) [
      | inl l ↦ h.only q l
      | inr r ↦ elim r [
        | inl s ↦ (e, ap (slice_get m.events) s ∙ at, (in_at m.events p e at, absent))
        | inr l ↦ absurd (none_in l)
      ]
    ];
  }
    where
      absent : IsIn e (standing (set_of v)) → ⊥
      absent i = let x = led_stands v set m.events k e i in none x.0 x.1 (x.2 ∙ led)

  module _ (ns : List Name) (found places : List ℕ) (h : AreMissingPlaces v m ns found) (same : (p : ℕ) → IsIn p places ↔ IsIn p found) where
    -- the same places are within the mark
    pub places_within : (p : ℕ) → IsIn p places → p < length m.events
    places_within p i = let e = h.only p ((same p).0 i) in slice_get_within m.events p e.0 e.1

    -- in order the events at them are all that are missing, in canonical order
    pub missing_in_order : m.start ≡ v.start → IsMark m → IsStrictlySortedBy nat_cmp places → ((e : Event) → IsMissing v m e → IsIn e.lead ns) → (came : List Event) → map (slice_get m.events) places ≡ map Some came → AreMissing v m came
    missing_in_order start marked ordered among came read = record {
      each = record { each = there; only = missing; once = once_sorted (canonical_cmp k.sound.rank) (λ e. e) apart came (subst (IsStrictlySortedBy (canonical_cmp k.sound.rank)) (sym (map-id came)) (sorted_read (canonical_cmp k.sound.rank) m.events (k.canonical k.sound.rank k.sound.ranked) places ordered came read)) };
      canonical = λ rank r. sorted_read (canonical_cmp rank) m.events (marked.canonical rank r) places ordered came read;
    }
      where
        apart : (e : Event) → canonical_cmp k.sound.rank e e ≡ Less → ⊥
        apart e l = let t = tied_itself (canonical_total k.sound.rank) e in absurd cc

        there : (e : Event) → IsMissing v m e → IsIn e came
        there e i =
            let p = h.each e i (among e i) in
            let j = (same p.0).1 p.1 in
            let x = map_cases Some came (subst (λ os. IsIn (Some e) os) read (subst (λ o. IsIn o (map (slice_get m.events) places)) p.2 (in-map (slice_get m.events) j))) in
            subst (λ f. IsIn f came) (one_value x.2) x.1

        missing : (e : Event) → IsIn e came → IsMissing v m e
        missing e i =
            let p = map_cases (slice_get m.events) places (subst (λ os. IsIn (Some e) os) (sym read) (in-map Some i)) in
            let f = h.only p.0 ((same p.0).0 p.1) in
            subst (λ g. IsMissing v m g) (one_value (sym f.1 ∙ p.2)) f.2
