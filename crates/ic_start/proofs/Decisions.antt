-- Two tests, one after the other.
use Rattle.std.proofs.Common.{◌≡◌, Bool, true, false, sym, ◌∙◌}
use Rattle.std.specs.Bool.{Decides}

-- the test after a test that passed, and that after one that failed
pub decides_then : {P Q : Type 0} (r s v : Bool) → r ≡ true → v ≡ s → Decides r P → Decides s Q → Decides v (P × Q)
decides_then r s v e f d g = (λ h. (d.0 e, g.0 (sym f ∙ h)), λ h. f ∙ g.1 h.1)

pub decides_else : {P Q : Type 0} (r v : Bool) → r ≡ false → v ≡ false → Decides r P → Decides v (P × Q)
decides_else r v e f d = (λ h. let k : true ≡ false = sym h ∙ f in cc, λ h. let k : true ≡ false = sym (d.1 h.0) ∙ e in cc)
