use Rattle.std.proofs.Common.{Bool, ◌+◌, refl, sym, ◌∙◌, subst, arith}
use Rattle.ic_shared.specs.Runs.{Runs, begins, fires, chooses_none, chose_none}
use Rattle.ic_shared.proofs.locked.Locked.run.Goals as goal

pub loop-calls-init : goal.loop-calls-init
loop-calls-init g c = (let room = c.requires.room in record { holds = c.requires.holds; run = begins; parts = refl; amount = refl; room = omega arith })

pub returns-in_default-clause-run : goal.returns-in_default-clause-run
returns-in_default-clause-run g c = chooses_none c.loop-calls.invariant.run c.in_default.ensures.chosen

pub returns-in_default-clause-ends : goal.returns-in_default-clause-ends
returns-in_default-clause-ends g c = chose_none c.loop-calls.self.bench c.loop-calls.chooser c.in_default.ensures.chosen

pub returns-then-is_err-clause-run : goal.returns-then-is_err-clause-run
returns-then-is_err-clause-run g c =
    subst (λ (b : Bool). Runs g.C.Chooser.chooses g.C.Chooser.hears c.args.self.now.bench c.args.chooser.now c.args.ran.now.items c.fire_pair-answer.new.self.bench c.hear.new.self c.fire_pair-answer.new.ran.items (c.loop-calls.calls + 1) b)
    (sym c.is_err.ensures.value ∙ c.if-is_err.true)
    (fires c.loop-calls.invariant.run c.in-Some.ensures.chosen c.fire_pair-answer.ensures.fires c.hear.ensures.heard)

pub loop-calls-preserved : goal.loop-calls-preserved
loop-calls-preserved g c =
    let i = c.loop-calls.invariant in
    let room = i.room in
    let one = c.fire_pair-answer.ensures.one in
    let capacity = c.fire_pair-answer.ensures.room in
    let amount = i.amount in
    let more = c.fire_pair-answer.ensures.amount in record {
      holds = c.hear.ensures.kept;
      run =
          subst (λ (b : Bool). Runs g.C.Chooser.chooses g.C.Chooser.hears c.args.self.now.bench c.args.chooser.now c.args.ran.now.items c.fire_pair-answer.new.self.bench c.hear.new.self c.fire_pair-answer.new.ran.items (c.loop-calls.calls + 1) b)
          (sym c.is_err.ensures.value ∙ c.if-is_err.false)
          (fires i.run c.in-Some.ensures.chosen c.fire_pair-answer.ensures.fires c.hear.ensures.heard);
      parts = c.fire_pair-answer.ensures.parts ∙ i.parts;
      amount = omega arith;
      room = omega arith;
    }
