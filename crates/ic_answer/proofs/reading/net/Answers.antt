-- The printed net is that of the machine's state.
use Rattle.std.proofs.Common.{ap, ◌∙◌}
use Rattle.std.proofs.lemmas.Result.{IfOk-weaker}
use Rattle.ic_theory.specs.Starts.{Start}
use Rattle.ic_answer.proofs.StandingNet.{told_net}
use Rattle.ic_answer.proofs.reading.net.Goals as goal

pub returns : goal.returns
returns g c =
    IfOk-weaker c.print_sheet.result _ _
    (λ text e. told_net c.args.bench.now _ _ c.lawful.ensures c.in_ok-sheet.ensures.listing c.in_ok-sheet.ensures.net (c.names.ensures ∙ ap (λ (s : Start). s.names) c.start.ensures) text.items e)
    c.print_sheet.ensures
