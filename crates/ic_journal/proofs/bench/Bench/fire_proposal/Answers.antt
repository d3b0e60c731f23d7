use Rattle.std.proofs.Common.{Err, refl, subst}
use Rattle.ic_set.specs.Pairs.{IsPairOf}
use Rattle.ic_journal.specs.Views.{set_of}
use Rattle.ic_journal.specs.Calls.{FiresPair}
use Rattle.ic_journal.proofs.bench.Bench.fire_proposal.Goals as goal

pub returns-in-Ok-clause-awoken : goal.returns-in-Ok-clause-awoken
returns-in-Ok-clause-awoken g c =
    let e = c.args.proposal in
    let p : IsPairOf (set_of c.args.self.now) e c.in-Some.pair = rw (← c.self.view_is) (rw (c.bare.ensures, c.event.ensures) at c.in-Some.ensures.found) in
    (c.in-Ok.ensures e p).1

pub returns-in-Err-HistoryFull-clause-fires : goal.returns-in-Err-HistoryFull-clause-fires
returns-in-Err-HistoryFull-clause-fires g c =
    let e = c.args.proposal in
    let p : IsPairOf (set_of c.args.self.now) e c.in-Some.pair = rw (← c.self.view_is) (rw (c.bare.ensures, c.event.ensures) at c.in-Some.ensures.found) in
    let full = subst (λ f. FiresPair c.args.self.now e (Err f) c.fire_pair.new.self) c.in-Err-HistoryFull.field-0-is (c.in-Err-HistoryFull.ensures e p) in
    (full.0, refl, full.1)
