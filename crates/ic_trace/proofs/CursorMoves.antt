-- What a move makes of the letters of a cursor.
use Rattle.std.proofs.Common.{◌≡◌, ℕ, ◌+◌, ◌<◌, List, [], ◌∷◌, ◌++◌, length, reverse, inl, inr, refl, ap, arith, ◌∙◌}
use Rattle.std.proofs.lemmas.List.{map-append, length-map, reverse-append}
use Rattle.ic_path.specs.Orders.{here, there}
use Rattle.ic_path.proofs.Picks.{pick_before, in-cons_cases}
use Rattle.ic_path.proofs.InLists.{in-append_cases, in_behind}
use Rattle.ic_theory.specs.Starts.{Start}
use Rattle.ic_theory.specs.Letters as theory
use Rattle.ic_trace.specs.declared.known.Known.{Known}
use Rattle.ic_trace.specs.declared.moving.Move.{Move}
use Rattle.ic_trace.specs.declared.moving.Move.TheVariants.{Swap, Cancel}
use Rattle.ic_trace.specs.declared.reading.Step.{Step}
use Rattle.ic_trace.specs.declared.reading.Step.TheVariants.{Fire, Undo}
use Rattle.ic_trace.specs.Known.{event_at, AreKnown}
use Rattle.ic_trace.specs.Moves.{Makes}
use Rattle.ic_trace.specs.Readings.{number_of, letter_in, letters_in, AreInside, AreInverse}
use Rattle.ic_trace.proofs.KnownEvents.{one_number}
use Rattle.ic_trace.proofs.Places.{AreOpposite, exchanged, cancelled, no_exchange, no_cancellation, long_enough, place_in}

-- the event of a letter is that of its number
event_of_letter : (ks : List Known) (x : Step) → theory.event_of (letter_in ks x) ≡ event_at ks (number_of x)
event_of_letter ks (Fire i) = refl
event_of_letter ks (Undo i) = refl

-- the letters of a list with two at a place
two_letters : (ks : List Known) (before behind : List Step) (x y : Step) → letters_in ks (before ++ x ∷ y ∷ behind) ≡ letters_in ks before ++ letter_in ks x ∷ letter_in ks y ∷ letters_in ks behind
two_letters ks before behind x y = map-append (letter_in ks) before (x ∷ y ∷ behind)

-- they are letters of the list
pub first_inside : (ks : List Known) {xs : List Step} (before behind : List Step) (x y : Step) → xs ≡ before ++ x ∷ y ∷ behind → AreInside ks xs → number_of x < length ks
first_inside ks before behind x y e h = h x (rw e (in_behind before (_, here)))

pub second_inside : (ks : List Known) {xs : List Step} (before behind : List Step) (x y : Step) → xs ≡ before ++ x ∷ y ∷ behind → AreInside ks xs → number_of y < length ks
second_inside ks before behind x y e h = h y (rw e (in_behind before (_, there here)))

-- the others are, too
pub others_inside : (ks : List Known) {xs : List Step} (before behind : List Step) (x y : Step) → xs ≡ before ++ x ∷ y ∷ behind → AreInside ks xs → AreInside ks (before ++ behind)
others_inside ks before behind x y e h z i = h z (rw e (elim (in-append_cases before i) [ inl j ↦ (_, pick_before (x ∷ y ∷ behind) j.1) | inr j ↦ in_behind before (_, there (there j.1)) ]))

pub swapped_inside : (ks : List Known) {xs : List Step} (before behind : List Step) (x y : Step) → xs ≡ before ++ x ∷ y ∷ behind → AreInside ks xs → AreInside ks (before ++ y ∷ x ∷ behind)
swapped_inside ks before behind x y e h z i = elim (in-append_cases before i) [
  | inl j ↦ others_inside ks before behind x y e h z (_, pick_before behind j.1)
  | inr j ↦
      elim (in-cons_cases j) [
        | inl q ↦ rw q (second_inside ks before behind x y e h)
        | inr k ↦ elim (in-cons_cases k) [ inl q ↦ rw q (first_inside ks before behind x y e h) | inr m ↦ others_inside ks before behind x y e h z (in_behind before m) ]
      ]
]

-- two letters put behind the place, the nearest last
pub put_back : (behind : List Step) (x y : Step) → reverse ((behind ++ x ∷ []) ++ y ∷ []) ≡ y ∷ x ∷ reverse behind
put_back behind x y = reverse-append (behind ++ x ∷ []) (y ∷ []) ∙ ap (λ xs. y ∷ xs) (reverse-append behind (x ∷ []))

module _ (s : Start) (ks : List Known) where
  -- where there are no two letters there is no move
  pub no_two : {m : Move} {js : List theory.Letter} (xs : List Step) → length xs < place_in m + 2 → ¬ (Makes s m (letters_in ks xs) js)
  no_two xs short h = let l = long_enough h in let n = length-map xs (letter_in ks) in absurd (omega arith)

  module _ (xs before behind : List Step) (i : ℕ) (x y : Step) (at : length before ≡ i) (is : xs ≡ before ++ x ∷ y ∷ behind) where
    from : letters_in ks xs ≡ letters_in ks before ++ letter_in ks x ∷ letter_in ks y ∷ letters_in ks behind
    from = ap (letters_in ks) is ∙ two_letters ks before behind x y

    place : length (letters_in ks before) ≡ i
    place = length-map before (letter_in ks) ∙ at

    -- concurrent ones change places
    pub swap_made : theory.AreConcurrent s (event_at ks (number_of x)) (event_at ks (number_of y)) → Makes s (Swap i) (letters_in ks xs) (letters_in ks (before ++ y ∷ x ∷ behind))
    swap_made c =
        let c' : theory.AreConcurrent s (theory.event_of (letter_in ks x)) (theory.event_of (letter_in ks y)) = rw (event_of_letter ks x, event_of_letter ks y) c in
        rw (from, two_letters ks before behind y x) (exchanged (letters_in ks before) (letters_in ks behind) (letter_in ks x) (letter_in ks y) place c')

    -- others don't
    pub swap_refused : {js : List theory.Letter} → ¬ (theory.AreConcurrent s (event_at ks (number_of x)) (event_at ks (number_of y))) → ¬ (Makes s (Swap i) (letters_in ks xs) js)
    swap_refused n h =
        let n' : ¬ (theory.AreConcurrent s (theory.event_of (letter_in ks x)) (theory.event_of (letter_in ks y))) = rw (event_of_letter ks x, event_of_letter ks y) n in
        no_exchange (letters_in ks before) (letters_in ks behind) (letter_in ks x) (letter_in ks y) place n' (rw from at h)

    -- a letter and its inverse go
    pub cancel_made : AreInverse x y → Makes s (Cancel i) (letters_in ks xs) (letters_in ks (before ++ behind))
    cancel_made h = rw (from, map-append (letter_in ks) before behind) (cancelled (letters_in ks before) (letters_in ks behind) (letter_in ks x) (letter_in ks y) place (opposite x y h))
      where
        opposite : (x y : Step) → AreInverse x y → AreOpposite (letter_in ks x) (letter_in ks y)
        opposite (Fire i) (Undo j) e = ap (event_at ks) e
        opposite (Undo i) (Fire j) e = ap (event_at ks) e
        opposite (Fire i) (Fire j) e = e
        opposite (Undo i) (Undo j) e = e

    -- others don't
    pub cancel_refused : {js : List theory.Letter} → AreKnown s ks → AreInside ks xs → ¬ (AreInverse x y) → ¬ (Makes s (Cancel i) (letters_in ks xs) js)
    cancel_refused known inside n h =
        no_cancellation (letters_in ks before) (letters_in ks behind) (letter_in ks x) (letter_in ks y) place
        (λ o. n (inverse x y (first_inside ks before behind x y is inside) (second_inside ks before behind x y is inside) o)) (rw from at h)
      where
        inverse : (x y : Step) → number_of x < length ks → number_of y < length ks → AreOpposite (letter_in ks x) (letter_in ks y) → AreInverse x y
        inverse (Fire i) (Undo j) l m e = one_number ks known.sound i j l m e
        inverse (Undo i) (Fire j) l m e = one_number ks known.sound i j l m e
        inverse (Fire i) (Fire j) l m e = e
        inverse (Undo i) (Undo j) l m e = e
