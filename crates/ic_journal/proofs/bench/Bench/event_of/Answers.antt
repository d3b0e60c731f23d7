use Rattle.std.proofs.Common.{List, sym, ap, subst, ◌∙◌}
use Rattle.ic_name.specs.declared.ids.EventId.{EventId}
use Rattle.ic_path.specs.Orders.{IsIn}
use Rattle.ic_roster.specs.Rosters.{Stander}
use Rattle.ic_journal.proofs.bench.Bench.event_of.Goals as goal

pub unreachable-requires : goal.unreachable-requires
unreachable-requires g c =
    let x = c.in-Some.ensures.found in
    let there : IsIn x.0 c.self.inside.set.set.events = rw (← c.self.view_is) at x.1 in
    c.in_default-event.ensures.absent x.0 (rw (c.roster-roster.ensures.events, c.bare.ensures) there) x.2

pub returns : goal.returns
returns g c =
    let x = c.in-Some-event.ensures.found in
    let there : IsIn x.0 c.bare.result.now.set.events = subst (λ (xs : List Stander). IsIn x.0 xs) c.roster-roster.ensures.events x.1 in
    rw (← c.self.view_is, ← c.bare.ensures) (x.0, (there, ap (λ (d : EventId). d.line) x.2 ∙ c.in-Some.ensures.found.3), x.3 ∙ sym c.in_ok-read.ensures)
