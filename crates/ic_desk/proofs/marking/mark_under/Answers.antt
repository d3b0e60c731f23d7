use Rattle.ic_desk.proofs.DeskTurns.{mark_wants}
use Rattle.ic_desk.proofs.marking.mark_under.Goals as goal

pub returns-in-Err-clause-turns : goal.returns-in-Err-clause-turns
returns-in-Err-clause-turns g c = mark_wants c.args.bench.now c.args.marks.now.items c.args.name c.marked.new.marks.items c.in-Err.ensures.turns
