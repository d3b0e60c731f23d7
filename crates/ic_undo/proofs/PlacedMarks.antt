-- The events at places of a list.
use Rattle.std.proofs.Common.{◌≡◌, ◌+◌, ◌<◌, ◌≤◌, ℕ, zero, suc, List, [], ◌∷◌, ◌++◌, map, Option, Some, None, slice_get, length, drop, take, get_or, refl, sym, ap, subst, ◌∙◌, arith}
use Rattle.std.specs.List.{cons_option}
use Rattle.std.proofs.lemmas.List.{drop_more, take_more, take-append-drop, length-take-le}
use Rattle.std.proofs.lemmas.List.Elements.{filter_map-append}
use Rattle.ic_name.specs.Events.{Event}
use Rattle.ic_path.specs.Orders.{IsIn}
use Rattle.ic_path.proofs.InLists.{in_behind}
use Rattle.ic_path.proofs.Picks.{in_first, in_more, pick_before}
use Rattle.ic_undo.specs.GoingBack.{events_at}

module _ (es : List Event) where
  -- one place more in front
  pub first_at : (p : ℕ) (ps : List ℕ) (e : Event) → slice_get es p ≡ Some e → events_at es (p ∷ ps) ≡ e ∷ events_at es ps
  first_at p ps e at = ap (λ o. cons_option o (events_at es ps)) at

  -- some places and others
  pub parts_at : (ps qs : List ℕ) → events_at es (ps ++ qs) ≡ events_at es ps ++ events_at es qs
  parts_at ps qs = filter_map-append (slice_get es) ps qs

  -- one place more behind
  pub more_at : (ps : List ℕ) (p : ℕ) (e : Event) → slice_get es p ≡ Some e → events_at es (ps ++ p ∷ []) ≡ events_at es ps ++ e ∷ []
  more_at ps p e at = parts_at ps (p ∷ []) ∙ ap (λ fs. events_at es ps ++ fs) (first_at p [] e at)

  -- there is an event at each place within
  pub is_at : (p : ℕ) → p < length es → (e : Event) × (slice_get es p ≡ Some e)
  is_at p within = by es p within
    where
      by : (fs : List Event) (q : ℕ) → q < length fs → (e : Event) × (slice_get fs q ≡ Some e)
      by [] q w = absurd (omega (arith, w))
      by (f ∷ fs) zero w = (f, refl)
      by (f ∷ fs) (suc q) w = by fs q (omega (arith, w))

  -- so they are as many as the places
  pub length_at : (ps : List ℕ) → ((p : ℕ) → IsIn p ps → p < length es) → length (events_at es ps) ≡ length ps
  length_at [] within = refl
  length_at (p ∷ ps) within =
      let e = is_at p (within p (in_first p ps)) in
      ap length (first_at p ps e.0 e.1) ∙ ap suc (length_at ps (λ q i. within q (in_more p i)))

  -- and each is read at its place
  pub read_at : (ps : List ℕ) → ((p : ℕ) → IsIn p ps → p < length es) → map (slice_get es) ps ≡ map Some (events_at es ps)
  read_at [] within = refl
  read_at (p ∷ ps) within =
      let e = is_at p (within p (in_first p ps)) in
      (λ i. e.1 i ∷ read_at ps (λ q j. within q (in_more p j)) i) ∙ ap (map Some) (sym (first_at p ps e.0 e.1))

  module _ (ps : List ℕ) (k : ℕ) where
    -- those at the first places and those at the others are all
    pub all_at : events_at es (take k ps) ++ events_at es (drop k ps) ≡ events_at es ps
    all_at = sym (parts_at (take k ps) (drop k ps)) ∙ ap (events_at es) (take-append-drop k ps)

    -- of the first ones there are as many as places
    pub length_first : ((p : ℕ) → IsIn p ps → p < length es) → k ≤ length ps → length (events_at es (take k ps)) ≡ k
    length_first within low =
        length_at (take k ps) (λ p i. within p (subst (λ qs. IsIn p qs) (take-append-drop k ps) (i.0 ++ drop k ps, pick_before (drop k ps) i.1))) ∙ length-take-le k ps low

    -- and of the others as many as are left
    pub length_rest : ((p : ℕ) → IsIn p ps → p < length es) → length (events_at es (drop k ps)) ≡ length (drop k ps)
    length_rest within = length_at (drop k ps) (λ p i. within p (subst (λ qs. IsIn p qs) (take-append-drop k ps) (in_behind (take k ps) i)))

    module _ (e : Event) (inside : k < length ps) (at : slice_get es (get_or ps k 0) ≡ Some e) where
      -- the event at the next place comes behind the first ones
      pub next_at : events_at es (take (k + 1) ps) ≡ events_at es (take k ps) ++ e ∷ []
      next_at = ap (events_at es) (take_more ps k 0 inside) ∙ more_at (take k ps) (get_or ps k 0) e at

      -- and is the first of the others
      pub rest_at : events_at es (drop k ps) ≡ e ∷ events_at es (drop (k + 1) ps)
      rest_at = ap (events_at es) (drop_more ps k 0 inside) ∙ first_at (get_or ps k 0) (drop (k + 1) ps) e at
