use Rattle.std.proofs.Common.{◌≡◌, ap, subst}
use Rattle.ic_journal.specs.Views.{BenchView}
use Rattle.ic_work.specs.Sweeps.{IsGivenBack}
use Rattle.ic_work.specs.declared.swept.SweepFault.{SweepFault}
use Rattle.ic_command.specs.declared.command.Command.TheVariants.{Reduce}
use Rattle.ic_command.specs.declared.request.Request.TheVariants.{Bench}
use Rattle.ic_answer.specs.declared.refused.Refused.TheVariants.{MemoryBeforeReduce}
use Rattle.ic_answer.specs.Texts.{answer_text, refusal_text}
use Rattle.ic_desk.specs.ManyWorkers.{TurnsWith}
use Rattle.ic_desk.specs.Views.{DeskView}
use Rattle.ic_desk.proofs.DeskTurns.{desk_of, desk_still}
use Rattle.ic_desk.proofs.LongerHistories.{unchanged}
use Rattle.ic_desk.proofs.Sweeping.{sweep_told, wanting_turns}
use Rattle.ic_desk.proofs.desk.Desk+Store.sweep.Given as given
use Rattle.ic_desk.proofs.desk.Desk+Store.sweep.Goals as goal

-- the bench came back as it was
given_back : (g : given.Over) (c : goal.In-Err-Memory g) → ◌≡◌ {A = BenchView} c.in-Err-Memory.bench c.self.inside.bench
given_back g c = subst (λ (f : SweepFault). IsGivenBack c.self.inside.bench f) c.in-Err-Memory.field-0-is c.in-Err-Memory.ensures.fault

pub invariant_of-result : goal.invariant_of-result
invariant_of-result g c =
    let goes_on = c.in-Ok.ensures.swept.continues in
    desk_still c.self.inside.bench c.in-Ok.swept.bench c.self.inside.marks.items c.self.invariant c.in-Ok.ensures.swept.start (record { more = goes_on.added; lines = goes_on.lines })

pub invariant_of-result-in-Err-Memory : goal.invariant_of-result-in-Err-Memory
invariant_of-result-in-Err-Memory g c =
    rw c.in-Err-Memory.field-0-is (desk_still c.self.inside.bench c.in-Err-Memory.bench c.self.inside.marks.items c.self.invariant (ap (λ (v : BenchView). v.start) (given_back g c))
    (unchanged c.self.inside.bench c.in-Err-Memory.bench (given_back g c)))

pub returns-in_ok-answer-in-Ok : goal.returns-in_ok-answer-in-Ok
returns-in_ok-answer-in-Ok g c =
    subst (λ (v : DeskView). TurnsWith c.args.size.workers v (Bench (Reduce c.args.size.budget)) (answer_text c.in_ok-answer-in-Ok.answer) (desk_of c.in-Ok.swept.bench c.self.inside.marks.items)) c.self.view_is
    (sweep_told c.args.size.workers c.self.inside.bench c.in-Ok.swept.bench c.self.inside.marks.items c.args.size.budget c.in-Ok.swept.fired c.in-Ok.swept.end c.in_ok-answer-in-Ok.answer
    c.requires c.in-Ok.ensures.swept c.in_ok-answer-in-Ok.ensures.answer)

pub returns-in-Err-Memory : goal.returns-in-Err-Memory
returns-in-Err-Memory g c =
    rw c.in-Err-Memory.field-0-is (subst (λ (v : DeskView). TurnsWith c.args.size.workers v (Bench (Reduce c.args.size.budget)) (refusal_text MemoryBeforeReduce) (desk_of c.in-Err-Memory.bench c.self.inside.marks.items)) c.self.view_is
    (wanting_turns c.args.size.workers c.self.inside.bench c.in-Err-Memory.bench c.self.inside.marks.items c.args.size.budget (given_back g c)))
