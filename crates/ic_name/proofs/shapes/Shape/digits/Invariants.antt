use Rattle.std.proofs.Common.{◌≡◌, ℕ, List, take}
use Rattle.ic_name.specs.NameTexts.{digits_text}
use Rattle.ic_name.proofs.shapes.Shape.digits.Given as goal

abbrev pub invariant-loop-generation : goal.invariant-loop-generation
invariant-loop-generation l = (ds : List ℕ) → l.dotted ≡ digits_text ds → l.digits.items ≡ take l.generation ds
