-- Which serial number is one more than a line.
use Rattle.std.proofs.Common.{◌≡◌, ◌≢◌, ℕ, ◌+◌, ◌-◌, ◌≤◌, Bool, true, false, Option, Some, None, sym, ◌∙◌, arith}
use Rattle.std.specs.Prelude.{SomeIff, nat_eq}
use Rattle.std.specs.Option.{option_eq}
use Rattle.std.proofs.lemmas.Bool.{eqb-true, eq-eqb}

-- the one that is the line once it is less by one
pub serial_of : (serial line : ℕ) (o : Option ℕ) → SomeIff o (1 ≤ serial) (serial - 1) → {b : Bool} → option_eq nat_eq o (Some line) ≡ b → b ≡ true → serial ≡ line + 1
serial_of serial line None h e t = let none : false ≡ true = e ∙ t in absurd cc
serial_of serial line (Some x) h e t = let same : x ≡ line = eqb-true x line (e ∙ t) in let less = h.0 in let value = h.1 in omega (arith, same, less, value)

-- any other is not
pub serial_other : (serial line : ℕ) (o : Option ℕ) → SomeIff o (1 ≤ serial) (serial - 1) → {b : Bool} → option_eq nat_eq o (Some line) ≡ b → b ≡ false → serial ≢ line + 1
serial_other serial line None h e f same = absurd (h (omega (arith, same)))
serial_other serial line (Some x) h e f same =
    let value = h.1 in
    let is : x ≡ line = omega (arith, same, value) in
    let found = eq-eqb x line is in
    let both : false ≡ true = sym (e ∙ f) ∙ found in
    absurd cc
