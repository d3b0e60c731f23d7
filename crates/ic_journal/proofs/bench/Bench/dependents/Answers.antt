use Rattle.std.proofs.Common.{sym, subst, ap, ◌∙◌}
use Rattle.ic_name.specs.declared.ids.EventId.{EventId}
use Rattle.ic_path.specs.Orders.{IsIn}
use Rattle.ic_set.specs.Orders.{AreInOrder, DependsOn}
use Rattle.ic_journal.proofs.bench.Bench.dependents.Goals as goal

pub returns-in_ok-dependents-in-Some : goal.returns-in_ok-dependents-in-Some
returns-in_ok-dependents-in-Some g c =
    let x = c.in-Some.ensures.found in
    let there : IsIn x.0 c.self.inside.set.set.events = rw (← c.self.view_is) at x.1 in
    rw (← c.self.view_is, ← c.bare.ensures) (x.0, (rw c.bare.ensures there, ap (λ (d : EventId). d.line) x.2 ∙ x.3), subst (λ d. AreInOrder c.bare.result.now.set (DependsOn c.bare.result.now.set d) c.in_ok-dependents-in-Some.field-0.items) (sym x.2) c.in_ok-dependents-in-Some.ensures)
