use Rattle.std.proofs.Common.{◌≡◌, rules, true, false, sym, ◌∙◌}
use Rattle.std.specs.Bool.{Decides}
use Rattle.std.proofs.lemmas.Slice.Eq.{slice_eq-Decides}
use Rattle.ic_start.specs.Texts.{cut}
use Rattle.ic_start.proofs.TextFacts.{same_texts}
use Rattle.ic_start.proofs.texts.Texts.same.Goals as goal

pub returns-then-eq : goal.returns-then-eq
returns-then-eq c =
    let ends : Decides c.eq.result (c.self.inside.ends.items ≡ c.other.inside.ends.items) = slice_eq-Decides (λ a b. search rules) _ _ _ c.eq.ensures in
    let bytes : Decides c.eq-then-eq.result (c.self.inside.bytes.items ≡ c.other.inside.bytes.items) = slice_eq-Decides (λ a b. search rules) _ _ _ c.eq-then-eq.ensures in
    let first = ends.0 c.if-eq.true in
    rw (← c.self.view_is, ← c.other.view_is)
    ((λ t. let second = bytes.0 t in λ i. cut (second i) 0 (first i)), (λ e. bytes.1 (same_texts c.self.inside.bytes.items c.other.inside.bytes.items c.self.inside.ends.items c.other.inside.ends.items c.self.invariant c.other.invariant e).1))

pub returns-else-eq : goal.returns-else-eq
returns-else-eq c =
    let ends : Decides c.eq.result (c.self.inside.ends.items ≡ c.other.inside.ends.items) = slice_eq-Decides (λ a b. search rules) _ _ _ c.eq.ensures in
    rw (← c.self.view_is, ← c.other.view_is)
    ((λ t. let no : true ≡ false = sym t ∙ c.if-eq.false in cc), (λ e. ends.1 (same_texts c.self.inside.bytes.items c.other.inside.bytes.items c.self.inside.ends.items c.other.inside.ends.items c.self.invariant c.other.invariant e).0))
