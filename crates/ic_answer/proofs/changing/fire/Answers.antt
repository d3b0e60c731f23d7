use Rattle.std.proofs.Common.{List, ℕ, sym, subst}
use Rattle.ic_command.specs.declared.command.Command.TheVariants.{Fire}
use Rattle.ic_answer.specs.declared.refused.Refused.{Refused}
use Rattle.ic_answer.specs.declared.refused.Refused.TheVariants as refused
use Rattle.ic_answer.specs.Texts.{refusal_text}
use Rattle.ic_answer.specs.Turns.{TurnsByCommand}
use Rattle.ic_answer.proofs.TurnSteps.{told, tells_memory}
use Rattle.ic_answer.proofs.FiringReplies.{of_pair, fires, refuses_pair}
use Rattle.ic_answer.proofs.changing.fire.Goals as goal

pub returns-in_default-name_line-clause-turns : goal.returns-in_default-name_line-clause-turns
returns-in_default-name_line-clause-turns g c = told c.args.bench.now (Fire c.args.event.now) (refusal_text refused.Memory) (tells_memory c.args.bench.now (Fire c.args.event.now) tt)

pub returns-in-Ok-fired-clause-turns : goal.returns-in-Ok-fired-clause-turns
returns-in-Ok-fired-clause-turns g c =
    let found = c.in-Some.ensures.found in
    let is = of_pair c.args.bench.now c.args.event.now found.0 c.in-Some.pair c.lawful.ensures found.1 found.2 in
    subst (λ (text : List ℕ). TurnsByCommand c.args.bench.now (Fire c.args.event.now) text c.fire_pair-fired.new.self) (sym c.in-Ok.ensures)
    (fires c.args.bench.now c.fire_pair-fired.new.self c.args.event.now found.0 is c.lawful-2.ensures (c.in-Ok-fired.ensures found.0 found.1).0.0)

pub returns-in-Err-clause-turns : goal.returns-in-Err-clause-turns
returns-in-Err-clause-turns g c =
    let found = c.in-Some.ensures.found in
    let is = of_pair c.args.bench.now c.args.event.now found.0 c.in-Some.pair c.lawful.ensures found.1 found.2 in
    subst (λ (r : Refused). TurnsByCommand c.args.bench.now (Fire c.args.event.now) (refusal_text r) c.fire_pair-fired.new.self) (sym c.refused_for.ensures)
    (refuses_pair c.args.bench.now c.fire_pair-fired.new.self c.args.event.now found.0 is c.lawful-2.ensures c.in-Err.fault (c.in-Err.ensures found.0 found.1))
