use Rattle.std.proofs.Common.{List, IfNone, subst}
use Rattle.ic_roster.specs.Rosters.{Member, IsNewName}
use Rattle.ic_journal.proofs.bench.Bench.agent.Goals as goal

pub returns-clause-absent : goal.returns-clause-absent
returns-clause-absent g c = rw (← c.self.view_is, ← c.bare.ensures) (subst (λ (ms : List Member). IfNone c.find.result (IsNewName ms c.args.name.now)) c.roster.ensures.agents c.find.ensures.absent)
