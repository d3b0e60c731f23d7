-- The lines are those of the machine's net.
use Rattle.std.proofs.Common.{ap, ◌∙◌}
use Rattle.std.proofs.lemmas.Result.{IfOk-weaker}
use Rattle.ic_theory.specs.Starts.{Start}
use Rattle.ic_answer.proofs.StandingNet.{told_agents}
use Rattle.ic_answer.proofs.agents.tell_agents.Goals as goal

pub returns : goal.returns
returns g c =
    IfOk-weaker c.print_agents.result _ _
    (λ text e. told_agents c.args.bench.now _ _ c.lawful.ensures c.in_ok-sheet.ensures.listing c.in_ok-sheet.ensures.net (c.names.ensures ∙ ap (λ (s : Start). s.names) c.start.ensures) text.items e)
    c.print_agents.ensures
