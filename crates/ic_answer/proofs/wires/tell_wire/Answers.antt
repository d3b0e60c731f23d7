use Rattle.std.proofs.Common.{subst}
use Rattle.std.proofs.lemmas.Result.{IfOk-weaker}
use Rattle.ic_name.specs.declared.ports.Port.{Port}
use Rattle.ic_theory.specs.Starts.{Start}
use Rattle.ic_answer.specs.BenchQuestions.{wire, no_place}
use Rattle.ic_answer.specs.Wired.{IsPlaceOf}
use Rattle.ic_answer.proofs.wires.tell_wire.Goals as goal

pub returns-in-Some : goal.returns-in-Some
returns-in-Some g c =
    let named = subst (λ (s : Start). IsPlaceOf s c.args.place c.in-Some.port) c.start.ensures c.in-Some.ensures in
    IfOk-weaker c.tell_wire_at.result _ _ (λ answer told st at. wire named (told st at)) c.tell_wire_at.ensures

pub returns-in-None : goal.returns-in-None
returns-in-None g c =
    let none = subst (λ (s : Start). (p : Port) → ¬ (IsPlaceOf s c.args.place p)) c.start.ensures c.in-None.ensures in
    λ st at. no_place none
