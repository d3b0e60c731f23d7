use Rattle.std.proofs.Common.{take, drop, ◌+◌, length, refl, arith, sym, ap, length-append, ◌∙◌}
use Rattle.std.specs.Prelude.{slice_index_or}
use Rattle.std.proofs.lemmas.List.{take_more, take_all}
use Rattle.ic_name.specs.declared.kinds.Kind.TheVariants.{Gamma}
use Rattle.ic_path.proofs.Alikes.{alike_self, alike_back}
use Rattle.ic_path.proofs.Errors.{at_error}
use Rattle.ic_set.specs.declared.entering.NewAgent.{NewAgent}
use Rattle.ic_link.proofs.InPlace.{split_at}
use Rattle.ic_set.proofs.EnteredInTurn.{enters_none, next_can, next_enters}
use Rattle.ic_set.proofs.entering.enter_all.Goals as goal

pub returns-in_err-reserve-clause-unchanged : goal.returns-in_err-reserve-clause-unchanged
returns-in_err-reserve-clause-unchanged c = at_error c.from_residual.result (alike_self _)

pub loop-agent-init : goal.loop-agent-init
loop-agent-init c =
    let none = c.in_ok-reserve.ensures.items ∙ c.new-ids.ensures.items in
    let room = c.in_ok-reserve.ensures.ok in
    record {
      entered = rw none (enters_none _ c.args.serial);
      names = refl;
      events = refl;
      room = omega arith;
    }

pub insert_agent-requires : goal.insert_agent-requires
insert_agent-requires c =
    let i = c.loop-agent.agent-index in
    let all = c.args.entering.now in
    let none : NewAgent = record { name = record { place = 0 }; kind = Gamma } in
    let here = c.loop-agent-test.true in
    let same = c.loop-agent.invariant.names in
    record {
      inside = rw same (c.requires.inside i none here);
      is_new = rw same (next_can _ _ _ (take i all) (drop (i + 1) all) all (slice_index_or all i none) c.args.serial _ (sym (split_at all i none here)) c.requires.can c.loop-agent.invariant.entered);
    }

pub returns-in_default-clause-unchanged : goal.returns-in_default-clause-unchanged
returns-in_default-clause-unchanged c =
    let i = c.loop-agent.invariant.entered in
    c.remove_all.ensures.left i.entered _ (i.under ∙ sym c.as_slice.ensures) (rw c.in_default.ensures.unchanged (alike_back i.alike))

pub returns-in_default-clause-names : goal.returns-in_default-clause-names
returns-in_default-clause-names c = c.remove_all.ensures.names ∙ c.in_default.ensures.names ∙ c.loop-agent.invariant.names

pub returns-in_default-clause-events : goal.returns-in_default-clause-events
returns-in_default-clause-events c = c.remove_all.ensures.events ∙ c.in_default.ensures.events ∙ c.loop-agent.invariant.events

pub push_reserved-requires : goal.push_reserved-requires
push_reserved-requires c =
    let here = c.loop-agent-test.true in
    let room = c.loop-agent.invariant.room in
    omega arith

pub loop-agent-preserved : goal.loop-agent-preserved
loop-agent-preserved c =
    let k = c.loop-agent.agent-index in
    let all = c.args.entering.now in
    let none : NewAgent = record { name = record { place = 0 }; kind = Gamma } in
    let i = c.loop-agent.invariant in
    let room = i.room in
    let pushed = c.push_reserved.ensures in
    let len = ap length pushed.items ∙ length-append c.loop-agent.ids.items _ in
    let capacity = pushed.capacity in
    let there = rw i.names at c.in-Ok.ensures.entered.1 in
    record {
      entered = rw (pushed.items, take_more all k none c.loop-agent-test.true) (next_enters _ _ _ _ (take k all) (slice_index_or all k none) c.args.serial _ c.in-Ok.id i.entered c.in-Ok.ensures.entered.0 there);
      names = c.in-Ok.ensures.names ∙ i.names;
      events = c.in-Ok.ensures.events ∙ i.events;
      room = omega arith;
    }

pub returns-clause-entered : goal.returns-clause-entered
returns-clause-entered c = rw (take_all c.loop-agent.agent-index c.args.entering.now c.loop-agent-test.false) at c.loop-agent.invariant.entered
