-- The slots of a record, which are those of children, of causes and of dependents.
use Rattle.std.proofs.Common.{◌≡◌, ℕ, suc, ◌+◌, ◌==◌, ◌<◌, ◌≤◌, false, List, [], ◌∷◌, ◌++◌, length, get_or, take, drop, Some, None, sym, ap, ◌∙◌, subst, arith}
use Rattle.std.specs.Prelude.{position, is_some}
use Rattle.std.proofs.lemmas.Bool.{eqb-true}
use Rattle.std.proofs.lemmas.List.Quantifiers.{position-Some}
use Rattle.ic_path.specs.Orders.{Alike}
use Rattle.ic_path.proofs.Alikes.{picked_alike}
use Rattle.ic_path.proofs.ListTests.{found_any}
use Rattle.ic_path.proofs.OnceLists.{pick_at}
use Rattle.ic_roster.specs.Records.{has}
use Rattle.std.specs.List.{remove}
use Rattle.ic_roster.specs.KeptEvents.{KeptEvent}
use Rattle.ic_roster.specs.declared.interaction.Interaction.{Interaction}
use Rattle.std.proofs.lemmas.List.{take-append-le, drop-append-le, take-take, drop-take, drop-drop, length-take-le, length-drop}

-- what comes behind leaves the front
module _ (xs ys : List ℕ) (b c : ℕ) (fits : b + c ≤ length xs) where
  -- the front is the same
  pub front_kept : take b (xs ++ ys) ≡ take b xs
  front_kept = take-append-le b xs ys (omega arith)

  -- so is the middle
  pub middle_kept : take c (drop b (xs ++ ys)) ≡ take c (drop b xs)
  middle_kept =
      let long = length-drop b xs in
      ap (take c) (drop-append-le b xs ys (omega arith)) ∙ take-append-le c (drop b xs) ys (omega arith)

  -- and the end is longer
  pub end_longer : drop (b + c) (xs ++ ys) ≡ drop (b + c) xs ++ ys
  end_longer = drop-append-le (b + c) xs ys fits

-- what goes behind the front and the middle
module _ (xs : List ℕ) (b c i : ℕ) (inside : b + c + i < length xs) where
  -- they lie before it
  fits : b + c ≤ length (take (b + c + i) xs)
  fits = let long = length-take-le (b + c + i) xs (omega arith) in omega arith

  -- the front is the same
  pub front_left : take b (remove xs (b + c + i)) ≡ take b xs
  front_left = front_kept (take (b + c + i) xs) (drop (suc (b + c + i)) xs) b c fits ∙ take-take b (b + c + i) xs (omega arith)

  -- so is the middle
  pub middle_left : take c (drop b (remove xs (b + c + i))) ≡ take c (drop b xs)
  middle_left =
      let number : b + c + i ≡ b + (c + i) = omega arith in
      middle_kept (take (b + c + i) xs) (drop (suc (b + c + i)) xs) b c fits
      ∙ ap (λ n. take c (drop b (take n xs))) number ∙ ap (take c) (drop-take b (c + i) xs) ∙ take-take c (c + i) (drop b xs) (omega arith)

  -- and it goes from the end
  pub end_left : drop (b + c) (remove xs (b + c + i)) ≡ remove (drop (b + c) xs) i
  end_left =
      let number : b + c + suc i ≡ suc (b + c + i) = omega arith in
      end_longer (take (b + c + i) xs) (drop (suc (b + c + i)) xs) b c fits
      ∙ ap (λ ys. ys ++ drop (suc (b + c + i)) xs) (drop-take (b + c) i xs)
      ∙ ap (λ ys. take i (drop (b + c) xs) ++ ys) (ap (λ n. drop n xs) (sym number) ∙ sym (drop-drop (suc i) (b + c) xs))

-- a record without dependents, by its parts
abbrev pub lone_of : Interaction → ℕ → ℕ → List ℕ → List ℕ → KeptEvent
lone_of interaction line rank born causes = record { interaction = interaction; line = line; rank = rank; born = born; causes = causes; dependents = []; spare = 0 }

-- is the same where its children and its causes are
pub lone_same : (interaction : Interaction) (line rank : ℕ) {born born' causes causes' : List ℕ} → born' ≡ born → causes' ≡ causes → lone_of interaction line rank born' causes' ≡ lone_of interaction line rank born causes
lone_same interaction line rank born causes u = lone_of interaction line rank (born u) (causes u)

-- a slot that is found can be taken out there
pub found_at : (ds : List ℕ) (slot at : ℕ) → position (λ x. slot == x) ds ≡ Some at → (at < length ds) × Alike ds (slot ∷ remove ds at)
found_at ds slot at h =
    let p = position-Some (λ x. slot == x) ds at slot h in
    (p.0, subst (λ k. Alike ds (k ∷ remove ds at)) (sym (eqb-true slot (get_or ds at slot) p.1)) (picked_alike (pick_at ds at slot p.0)))

-- one that is not found is not there
pub not_found : (ds : List ℕ) (slot : ℕ) → position (λ x. slot == x) ds ≡ None → has slot ds ≡ false
not_found ds slot h = sym (found_any (λ x. slot == x) ds) ∙ ap is_some h
