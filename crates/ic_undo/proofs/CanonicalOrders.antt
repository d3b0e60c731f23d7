-- Standing events listed in canonical order.
use Rattle.std.proofs.Common.{◌≡◌, ℕ, Bool, List, [], ◌∷◌, map, false, refl, sym, ap, subst, ◌∙◌}
use Rattle.std.specs.List.{AllByRecursion}
use Rattle.std.specs.List.Sorted.{IsStrictlySortedBy}
use Rattle.std.specs.Ordering.{is_lt, nat_cmp, ordering_then, ordering_reverse}
use Rattle.std.specs.declared.cmp.Ordering.{Ordering}
use Rattle.std.specs.declared.cmp.Ordering.TheVariants.{Less, Equal, Greater}
use Rattle.std.proofs.lemmas.Cmp.{tied_itself}
use Rattle.ic_name.specs.Events.{Event}
use Rattle.ic_name.specs.declared.ids.EventId.{EventId}
use Rattle.ic_path.specs.Orders.{here, IsIn, IsOnce}
use Rattle.ic_path.specs.Rings.{IsOrder}
use Rattle.ic_path.proofs.Alikes.{alike_back, alike-in}
use Rattle.ic_path.proofs.EachOnce.{once_rest}
use Rattle.ic_path.proofs.Picks.{in_first, in_more}
use Rattle.ic_path.proofs.Sorts.{Ascends, sorted}
use Rattle.ic_theory.specs.Causes.{IsRank, canonical_cmp}
use Rattle.ic_theory.specs.Seals.{event_cmp}
use Rattle.ic_theory.proofs.Ranks.{rank_one}
use Rattle.ic_theory.proofs.Replies.{canonical_total, canonical_tied}
use Rattle.ic_path.proofs.OnceLists.{once-alike}
use Rattle.ic_roster.specs.Rosters.{Stander}
use Rattle.ic_set.specs.Orders.{AreInOrder, IsAny}
use Rattle.ic_set.specs.Sets.{IsStandingSet}
use Rattle.ic_set.specs.Views.{SetView, standing, events_of}
use Rattle.ic_set.proofs.Namings.{same_lead}
use Rattle.ic_path.proofs.InLists.{in-map}
use Rattle.ic_name.proofs.Orderings.{lt_less, neither_less}

-- where two differ and the second isn't less the first is
less_than : (a b : Ordering) → a ≡ ordering_reverse b → (a ≡ Equal → ⊥) → is_lt b ≡ false → a ≡ Less
less_than Less b r h k = refl
less_than Equal b r h k = absurd (h refl)
less_than Greater Less r h k = cc
less_than Greater Equal r h k = cc
less_than Greater Greater r h k = cc

module _ (v : SetView) (set : IsStandingSet v) where
  -- an event comes before another one
  abbrev before : Stander → Stander → Bool
  before x y = is_lt (canonical_cmp set.sound.rank x.event y.event)

  -- this puts the standing events in order
  orders : IsOrder before v.events
  orders = record {
    not_below_itself = λ x. ap is_lt (tied_itself (canonical_total set.sound.rank) x.event);
    passes_on = λ x y z h i. ap is_lt ((canonical_total set.sound.rank).trans x.event y.event z.event (lt_less _ h) (lt_less _ i));
    equal_if_neither = λ x y i j h k. same_lead v.events x y set.own_lines i j
        (canonical_tied set.sound.rank x.event y.event (neither_less _ _ ((canonical_total set.sound.rank).antisymm x.event y.event) h k));
  }

  -- all ranks order them the same way
  same_order : (rank : Event → ℕ) → IsRank v.start (standing v) rank → (x y : Stander) → IsIn x v.events → IsIn y v.events → canonical_cmp set.sound.rank x.event y.event ≡ canonical_cmp rank x.event y.event
  same_order rank r x y i j =
      let p = rank_one v.start (standing v) set.sound.rank rank set.sound.ranked r x.event (in-map (λ (z : Stander). z.event) i) in
      let q = rank_one v.start (standing v) set.sound.rank rank set.sound.ranked r y.event (in-map (λ (z : Stander). z.event) j) in
      λ u. ordering_then (nat_cmp (p u) (q u)) (event_cmp x.event y.event)

  -- of two events the one that doesn't come later comes first
  comes_first : (x y : Stander) → IsIn x v.events → IsIn y v.events → (x ≡ y → ⊥) → before y x ≡ false → canonical_cmp set.sound.rank x.event y.event ≡ Less
  comes_first x y i j other later =
      less_than _ _ ((canonical_total set.sound.rank).antisymm x.event y.event) (λ e. other (same_lead v.events x y set.own_lines i j (canonical_tied set.sound.rank x.event y.event e))) later

  -- what ascends is in canonical order
  in_canonical : (rank : Event → ℕ) → IsRank v.start (standing v) rank → (xs : List Stander) → IsOnce xs → ((x : Stander) → IsIn x xs → IsIn x v.events) → Ascends before xs → IsStrictlySortedBy (canonical_cmp rank) (events_of xs)
  unfolding IsStrictlySortedBy
  in_canonical rank r [] once stand up = tt
  in_canonical rank r (x ∷ xs) once stand up = (
    first xs (λ y i. stand y (in_more x i)) (λ y i e. once x xs here (subst (λ z. IsIn z xs) (sym e) i)) up.0,
    in_canonical rank r xs (once_rest once here) (λ y i. stand y (in_more x i)) up.1,
  )
    where
      first : (ys : List Stander) → ((y : Stander) → IsIn y ys → IsIn y v.events) → ((y : Stander) → IsIn y ys → x ≡ y → ⊥) → ((y : Stander) → IsIn y ys → before y x ≡ false) → AllByRecursion (λ f. canonical_cmp rank x.event f ≡ Less) (events_of ys)
      first [] there other later = tt
      first (y ∷ ys) there other later = (
        sym (same_order rank r x y (stand x (in_first x xs)) (there y (in_first y ys))) ∙ comes_first x y (stand x (in_first x xs)) (there y (in_first y ys)) (other y (in_first y ys)) (later y (in_first y ys)),
        first ys (λ z i. there z (in_more y i)) (λ z i. other z (in_more y i)) (λ z i. later z (in_more y i)),
      )

  -- they can be listed in canonical order
  pub listed_in_order : (ids : List EventId) × AreInOrder v IsAny ids
  listed_in_order =
      let s = sorted before orders v.events in
      let once = once-alike s.alike (λ x rest k i. set.own_lines.lines x x rest k i refl) in (
        map (λ (x : Stander). x.id) s.links,
        record {
          order = s.links;
          each = record { each = λ x h. alike-in s.alike h.0; only = λ x i. (alike-in (alike_back s.alike) i, tt); once = once };
          canonical = λ rank r. in_canonical rank r s.links once (λ x i. alike-in (alike_back s.alike) i) s.ascends;
          named = refl;
        },
      )
