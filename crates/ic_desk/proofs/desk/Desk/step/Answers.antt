-- The active pair with the least lead is fired.
use Rattle.std.proofs.lemmas.Result.{IfOk-weaker}
use Rattle.ic_command.specs.declared.question.Question.TheVariants.{Step}
use Rattle.ic_journal.proofs.LeastFired.{least_at}
use Rattle.ic_desk.proofs.DeskTellings.{nothing_told, memory_told, step_told}
use Rattle.ic_desk.proofs.desk.Desk.step.Goals as goal

pub returns-in_default-clause-told : goal.returns-in_default-clause-told
returns-in_default-clause-told g c = nothing_told c.args.self.now (rw (← c.self.view_is) c.in_default.ensures.absent)

pub returns-in_default-name_of_pair-clause-told : goal.returns-in_default-name_of_pair-clause-told
returns-in_default-name_of_pair-clause-told g c = memory_told c.args.self.now Step

pub returns-clause-told : goal.returns-clause-told
returns-clause-told g c =
    let l = c.in-Some.ensures.found in
    IfOk-weaker c.carry_out.result _ _
    (λ answer turns. step_told c.args.self.now c.carry_out.new.self l.event c.in-Ok.event _ (rw (← c.self.view_is) (least_at c.self.inside.bench c.in-Some.pair l)) (c.in-Ok.ensures l.event l.pair) turns)
    c.carry_out.ensures.turns
