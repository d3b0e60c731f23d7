use Rattle.std.proofs.Common.{◌≡◌, ℕ, List, ◌≤◌, length, arith, sym, ap, ◌∙◌}
use Rattle.std.specs.Prelude.{min}
use Rattle.ic_name.specs.Names.{Name}
use Rattle.ic_names.specs.declared.entry.Origin.{Origin}
use Rattle.ic_names.specs.Known.{names_told}
use Rattle.ic_names.proofs.KnownOrigins.{names_told-length}
use Rattle.ic_names.proofs.known.KnownNames.same.Goals as goal

-- At most so many places are compared as there are known names.
at_most : (known : List Name) (os : List Origin) (here then most : ℕ) → names_told os ≡ known → then ≡ length os → most ≡ min here then → most ≤ length known
at_most known os here then most told count least =
    let all : length os ≡ length known = sym (names_told-length os) ∙ ap length told in
    omega (arith, all, count, least)

pub origin-requires-in-loop-place : goal.origin-requires-in-loop-place
origin-requires-in-loop-place c =
    let m = at_most _ c.self.inside.origins.items _ _ _ c.self.view_is (c.len.ensures ∙ c.self.inside.origins.ok.0) c.min-most.ensures in
    omega (arith, m, c.loop-place-test.true)

pub returns-then-ne-clause-then : goal.returns-then-ne-clause-then
returns-then-ne-clause-then c =
    let m = at_most _ c.self.inside.origins.items _ _ _ c.self.view_is (c.len.ensures ∙ c.self.inside.origins.ok.0) c.min-most.ensures in
    omega (arith, m, c.loop-place-test.true)

pub returns-clause-then : goal.returns-clause-then
returns-clause-then c = at_most _ c.self.inside.origins.items _ _ _ c.self.view_is (c.len.ensures ∙ c.self.inside.origins.ok.0) c.min-most.ensures
