-- Demands met by a desk.
use Rattle.std.proofs.Common.{◌≡◌, ℕ, List, min, sym, subst}
use Rattle.ic_command.specs.Requests.{within}
use Rattle.ic_command.specs.declared.command.Command.TheVariants.{Reduce}
use Rattle.ic_command.specs.declared.question.Question.{Question}
use Rattle.ic_command.specs.declared.request.Request.{Request}
use Rattle.ic_command.specs.declared.request.Request.TheVariants.{Bench}
use Rattle.ic_desk.specs.ManyWorkers.{TurnsWith, as_one}
use Rattle.ic_desk.specs.Questions.{Told}
use Rattle.ic_desk.specs.Views.{DeskView, TurnsByRequest}
use Rattle.ic_work.specs.declared.sweep_size.SweepSize.{SweepSize}
use Rattle.ic_session.specs.Modes.{IsSweepFor, TurnsIn, replied, told}
use Rattle.ic_session.specs.declared.demand.Demand.{Demand}
use Rattle.ic_session.specs.declared.demand.Demand.TheVariants.{Asks, Requests}
use Rattle.ic_session.specs.declared.mode.Mode.{Mode}

-- a request, by a sweep
pub sweep_met : (m : Mode) (old new : DeskView) (d : Demand) (size : SweepSize) (text : List ℕ) → IsSweepFor m d size
    → TurnsWith size.workers old (Bench (Reduce size.budget)) text new → TurnsIn m old d text new
sweep_met m old new d size text is t =
    let turn = subst (λ (k : ℕ). TurnsWith k old (Bench (Reduce (min m.budget is.asked))) text new) is.workers
    (subst (λ (n : ℕ). TurnsWith size.workers old (Bench (Reduce n)) text new) is.budget t) in
    subst (λ (e : Demand). TurnsIn m old e text new) (sym is.demanded) (record { start = turn.start; gives = λ st at. (let a = turn.replies st at in (a.0, replied a.1, a.2)) })

-- a request, by one worker
pub request_met : (m : Mode) (old new : DeskView) (d : Demand) (r q : Request) (text : List ℕ) → d ≡ Requests r → q ≡ within m.budget r
    → TurnsByRequest old q text new → TurnsIn m old d text new
request_met m old new d r q text is budget t =
    let turn = subst (λ (p : Request). TurnsByRequest old p text new) budget t in
    subst (λ (e : Demand). TurnsIn m old e text new) (sym is) (record { start = turn.start; gives = λ st at. (let a = turn.replies st at in (a.0, replied (as_one a.1), a.2)) })

-- a question
pub question_met : (m : Mode) (old new : DeskView) (d : Demand) (q : Question) (text : List ℕ) → d ≡ Asks q → Told old q text new → TurnsIn m old d text new
question_met m old new d q text is t =
    subst (λ (e : Demand). TurnsIn m old e text new) (sym is) (record { start = t.start; gives = λ st at. (let a = t.tells st at in (a.0, told a.1, a.2)) })
