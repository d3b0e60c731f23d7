use Rattle.std.proofs.Common.{◌∙◌, sym}
use Rattle.ic_text.proofs.NameSlots.{found_at}
use Rattle.ic_text.proofs.name_slots.look_up.Goals as goal

pub returns-then-eq : goal.returns-then-eq
returns-then-eq c = sym (found_at c.args.name.now c.args.seen.now c.args.held _ c.in_ok-number.field-0 _ _ c.in_ok-number.was (rw c.in_ok-number.was at c.requires) c.if-eq.ensures)

pub returns : goal.returns
returns c =
    c.copied.ensures ∙ c.get.ensures.value
    ∙ sym (found_at c.args.name.now c.args.seen.now c.args.held _ c.in_ok-number.field-0 _ _ c.in_ok-number.was (rw c.in_ok-number.was at c.requires) c.if-eq.ensures)
