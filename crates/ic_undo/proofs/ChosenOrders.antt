-- Standing events with a property, chosen from all in canonical order.
use Rattle.std.proofs.Common.{◌≡◌, ◌+◌, ◌≤◌, ◌<◌, ℕ, List, [], ◌∷◌, ◌++◌, map, length, take, get_or, ◌⊎◌, inl, inr, refl, sym, ap, subst, arith, ◌∙◌}
use Rattle.std.proofs.lemmas.List.{length-map, map-append, take_all}
use Rattle.ic_name.specs.declared.ids.EventId.{EventId}
use Rattle.ic_path.specs.Orders.{IsIn}
use Rattle.ic_path.proofs.Picks.{in_first, in_more}
use Rattle.ic_theory.specs.Causes.{canonical_cmp}
use Rattle.ic_roster.specs.Rosters.{Stander}
use Rattle.ic_set.specs.Orders.{AreInOrder, IsAny}
use Rattle.ic_set.specs.Views.{SetView}
use Rattle.ic_journal.specs.Reads.{StandsIn}
use Rattle.ic_journal.specs.Views.{BenchView, set_of}
use Rattle.ic_undo.proofs.ChosenLists.{Chosen, nothing, taken, left, chosen_more, chosen_same, chosen_from, chosen_in, chosen_once, chosen_sorted}
use Rattle.ic_undo.proofs.Places.{At, at, in_part}

-- where each element has the property or hasn't, those that have it can be chosen
pub choose : {X : Type 0} (P : X → Type 0) (xs : List X) → ((x : X) → IsIn x xs → P x ⊎ (P x → ⊥)) → (ks : List X) × Chosen P xs ks
choose P [] has = ([], nothing)
choose P (x ∷ xs) has =
    let c = choose P xs (λ y i. has y (in_more x i)) in
    elim (has x (in_first x xs)) [ inl p ↦ (x ∷ c.0, taken p c.1) | inr q ↦ (c.0, left q c.1) ]

-- those that have it, chosen from all in order, are in order
pub chosen_in_order : (v : SetView) (P : Stander → Type 0) {all ids : List EventId} (h : AreInOrder v IsAny all) {those : List Stander} → Chosen P h.order those → map (λ x. x.id) those ≡ ids → AreInOrder v P ids
chosen_in_order v P h {those} chosen named = record {
  order = those;
  each = record {
    each = λ x i. chosen_in chosen (h.each.each x (i.0, tt)) i.1;
    only = λ x i. (let c = chosen_from chosen i in ((h.each.only x c.0).0, c.1));
    once = chosen_once chosen h.each.once;
  };
  canonical = λ rank r. chosen_sorted (canonical_cmp rank) (λ (x : Stander). x.event) chosen (h.canonical rank r);
  named = named;
}

-- of the first events, those that have the property are chosen, with their ids
pub record ChosenIds (P : Stander → Type 0) (first : List Stander) (ids : List EventId) : Type 0 where
  pub those : List Stander
  pub chosen : Chosen P first those
  pub named : map (λ x. x.id) those ≡ ids

-- none of none
pub chosen_none : (P : Stander → Type 0) → ChosenIds P [] []
chosen_none P = record { those = []; chosen = nothing; named = refl }

module _ (v : BenchView) (all : List EventId) (h : AreInOrder (set_of v) IsAny all) (k : ℕ) (d : EventId) (below : k < length all) where
  -- the event at the next place
  pub place : At (λ (x : Stander). x.id) h.order k d
  place = at (λ (x : Stander). x.id) h.order k d (subst (λ es. k < length es) (sym h.named) below)

  -- its id
  under : get_or all k d ≡ place.item.id
  under = ap (λ es. get_or es k d) (sym h.named) ∙ place.image

  -- it stands
  pub item_stands : StandsIn v (get_or all k d) place.item
  item_stands = (
    (h.each.only place.item (subst (λ xs. IsIn place.item xs) (sym place.whole) (in_part (take k h.order) place.item place.behind))).0,
    ap (λ (e : EventId). e.line) (sym under),
  )

  module _ (P : Stander → Type 0) (ids : List EventId) (c : ChosenIds P (take k h.order) ids) where
    -- it is chosen where it has the property
    pub chosen_next : P place.item → ChosenIds P (take (k + 1) h.order) (ids ++ get_or all k d ∷ [])
    chosen_next p = subst (λ xs. ChosenIds P xs (ids ++ get_or all k d ∷ [])) (sym place.next) (record {
      those = c.those ++ place.item ∷ [];
      chosen = chosen_more place.item p c.chosen;
      named = map-append (λ (x : Stander). x.id) c.those (place.item ∷ []) ∙ ap (λ es. es ++ place.item.id ∷ []) c.named ∙ ap (λ e. ids ++ e ∷ []) (sym under);
    })

    -- and left out where it hasn't
    pub left_next : (P place.item → ⊥) → ChosenIds P (take (k + 1) h.order) ids
    left_next q = subst (λ xs. ChosenIds P xs ids) (sym place.next) (record { those = c.those; chosen = chosen_same place.item q c.chosen; named = c.named })

-- where all events have been looked at, those that have the property are in order
pub all_chosen : (v : SetView) (P : Stander → Type 0) (all : List EventId) (h : AreInOrder v IsAny all) (k : ℕ) → length all ≤ k → (ids : List EventId) → ChosenIds P (take k h.order) ids → AreInOrder v P ids
all_chosen v P all h k past ids c = chosen_in_order v P h (subst (λ xs. Chosen P xs c.those) (take_all k h.order long) c.chosen) c.named
  where
    long : length h.order ≤ k
    long = let a = length-map h.order (λ (x : Stander). x.id) in let b = ap length h.named in omega (arith, a, b, past)
