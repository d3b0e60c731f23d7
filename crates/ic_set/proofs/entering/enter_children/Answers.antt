use Rattle.std.proofs.Common.{◌+◌, inl, inr, take, drop, length, refl, sym, arith, ap, length-append, subst, ◌∙◌}
use Rattle.std.specs.Prelude.{slice_index_or}
use Rattle.std.proofs.lemmas.List.{take_all}
use Rattle.ic_name.specs.Names.{child_name}
use Rattle.ic_name.specs.declared.kinds.Kind.TheVariants.{Gamma}
use Rattle.ic_names.specs.Tables.{name_at}
use Rattle.ic_path.proofs.Alikes.{alike_back}
use Rattle.ic_theory.specs.Born.{named}
use Rattle.ic_set.specs.Entering.{CanEnter}
use Rattle.ic_set.proofs.GrownNames.{grown_keeps, grows_none, grows_twice, grows_at_most}
use Rattle.ic_set.proofs.NamedInTurn.{named_more, named_split}
use Rattle.ic_set.proofs.EnteredInTurn.{enters_none, enters_more, next_new}
use Rattle.ic_set.proofs.entering.enter_children.Goals as goal

pub loop-digit-init : goal.loop-digit-init
loop-digit-init c =
    let few = c.requires.few in
    let none = c.new-ids.ensures.items in
    let capacity = c.new-ids.ensures.capacity in
    record {
      lead = record { within = c.requires.inside; named = refl };
      entered = rw none (enters_none _ c.args.serial);
      grown = grows_none _;
      events = refl;
      room = rw none (omega arith);
    }

pub enter_child-requires : goal.enter_child-requires
enter_child-requires c =
    let i = c.loop-digit.invariant in
    let here = c.loop-digit-test.true in
    let few = c.requires.few in
    let name = child_name (name_at c.args.roster.now.names c.args.lead.place) in
    let kinds = c.args.kinds.now in
    let digit = c.loop-digit.digit in
    record {
      inside = i.lead.within;
      small = omega arith;
      shallow = rw i.lead.named (elim c.requires.shallow [
        | inl e ↦ absurd (let none = ap length e in omega arith)
        | inr h ↦ h
      ]);
      is_new = rw i.lead.named (
          next_new c.args.roster.now.agents _ (named name 0 (take digit kinds)) (named name (digit + 1) (drop (digit + 1) kinds)) (name digit, slice_index_or kinds digit Gamma) c.args.serial _
          (subst (CanEnter c.args.roster.now.agents) (named_split name kinds digit Gamma here) c.requires.can) i.entered);
    }

pub loop-digit-preserved : goal.loop-digit-preserved
loop-digit-preserved c =
    let i = c.loop-digit.invariant in
    let here = c.loop-digit-test.true in
    let name = child_name (name_at c.args.roster.now.names c.args.lead.place) in
    let kinds = c.args.kinds.now in
    let digit = c.loop-digit.digit in
    let old = c.loop-digit.roster.names in
    let new = c.enter_child.new.roster.names in
    let entered = rw i.lead.named at c.in-Ok.ensures.entered in
    let pushed = c.push_reserved.ensures.items in
    let len = ap length pushed ∙ length-append c.loop-digit.ids.items _ in
    let capacity = c.push_reserved.ensures.capacity in
    let room = i.room in
    record {
      lead = grown_keeps old new c.enter_child.ensures.grown _ _ i.lead;
      entered = rw (pushed, named_more name kinds digit Gamma here)
          (enters_more c.args.roster.now.agents _ _ (named name 0 (take digit kinds)) c.args.serial _ (record { id = c.in-Ok.id; name = name digit; kind = slice_index_or kinds digit Gamma }) i.entered entered.0 entered.1);
      grown = grows_twice _ old new i.grown c.enter_child.ensures.grown;
      events = c.enter_child.ensures.events ∙ i.events;
      room = omega arith;
    }

pub push_reserved-requires : goal.push_reserved-requires
push_reserved-requires c =
    let here = c.loop-digit-test.true in
    let room = c.loop-digit.invariant.room in
    omega arith

pub returns-clause-entered : goal.returns-clause-entered
returns-clause-entered c = rw (take_all c.loop-digit.digit c.args.kinds.now c.loop-digit-test.false) at c.loop-digit.invariant.entered

pub returns-clause-grown : goal.returns-clause-grown
returns-clause-grown c = grows_at_most _ _ (let here = c.loop-digit.auto.digit-end in omega arith) c.loop-digit.invariant.grown

pub returns-in_default-clause-unchanged : goal.returns-in_default-clause-unchanged
returns-in_default-clause-unchanged c =
    let i = c.loop-digit.invariant.entered in
    c.remove_all.ensures.left i.entered _ (i.under ∙ sym c.as_slice.ensures) (rw c.in_default.ensures.unchanged (alike_back i.alike))

pub returns-in_default-clause-grown : goal.returns-in_default-clause-grown
returns-in_default-clause-grown c =
    let i = c.loop-digit.invariant in
    let here = c.loop-digit-test.true in
    rw c.remove_all.ensures.names (grows_at_most _ _ (omega arith) (grows_twice _ _ _ i.grown c.enter_child.ensures.grown))

pub returns-in_default-clause-events : goal.returns-in_default-clause-events
returns-in_default-clause-events c = c.remove_all.ensures.events ∙ c.enter_child.ensures.events ∙ c.loop-digit.invariant.events
