-- A slot or none, in four bytes.
use Rattle.std.specs.Prelude.{◌≡◌, ℕ, Bool, true, false, Option, Some, None, if◌then◌else◌, ◌==◌, refl}
use Rattle.std.proofs.Common.{sym, ap}
use Rattle.std.proofs.lemmas.Bool.{eqb-true}

-- the slot that a number stands for, where the greatest number stands for none
abbrev pub slot_shown : ℕ → Option ℕ
slot_shown n = if n == 4294967295 then None else Some n

-- the number that stands for a slot
abbrev pub number_of : Option ℕ → ℕ
number_of None = 4294967295
number_of (Some n) = n

-- the number is kept
same_number : (n : ℕ) → number_of (slot_shown n) ≡ n
same_number n = by (n == 4294967295) refl
  where
    by : (b : Bool) → n == 4294967295 ≡ b → number_of (if b then None else Some n) ≡ n
    by true h = sym (eqb-true _ _ h)
    by false h = refl

-- and what is made of it
pub number_kept : (n : ℕ) {X : Type 0} (f : ℕ → X) → f (number_of (slot_shown n)) ≡ f n
number_kept n f = ap f (same_number n)
