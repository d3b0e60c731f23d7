-- Tests for equal names and equal ports.
use Rattle.std.specs.Prelude.{ℕ, ◌&&◌, Bool, true, false, List, [], ◌∷◌, eqb}
use Rattle.ic_name.specs.Names.{Name}
use Rattle.ic_name.specs.declared.ports.Port.{Port}
use Rattle.ic_name.specs.declared.ports.Port.TheVariants as port

abbrev pub same_digits : List ℕ → List ℕ → Bool
same_digits [] [] = true
same_digits (i ∷ is) (j ∷ js) = eqb i j && same_digits is js
same_digits _ _ = false

abbrev pub same_name : Name → Name → Bool
same_name m n = eqb m.start n.start && same_digits m.digits n.digits

abbrev pub same_port : Port → Port → Bool
same_port (port.Of m i) (port.Of n j) = eqb i j && same_name m n
same_port (port.Name i) (port.Name j) = eqb i j
same_port _ _ = false
