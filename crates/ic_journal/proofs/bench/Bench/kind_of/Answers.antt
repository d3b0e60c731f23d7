use Rattle.std.proofs.Common.{◌≢◌, List, refl, subst}
use Rattle.ic_names.specs.Tables.{name_at}
use Rattle.ic_path.specs.Orders.{IsIn}
use Rattle.ic_roster.specs.Rosters.{Member}
use Rattle.ic_journal.proofs.bench.Bench.kind_of.Goals as goal

pub returns-in-Some : goal.returns-in-Some
returns-in-Some g c = rw (← c.self.view_is, ← c.bare.ensures) (record { id = c.args.id; name = name_at c.roster.result.now.names c.in-Some.agent.name.place; kind = c.in-Some.agent.kind }, subst (λ (ms : List Member). IsIn (record { id = c.args.id; name = name_at c.roster.result.now.names c.in-Some.agent.name.place; kind = c.in-Some.agent.kind }) ms) c.roster.ensures.agents c.in-Some.ensures.found, refl, refl)

pub returns-in-None : goal.returns-in-None
returns-in-None g c = rw (← c.self.view_is, ← c.bare.ensures) (subst (λ (ms : List Member). (m : Member) → IsIn m ms → m.id ≢ c.args.id) c.roster.ensures.agents c.in-None.ensures.absent)
