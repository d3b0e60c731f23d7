use Rattle.std.proofs.Common.{[], ◌∷◌, length, sym, ap, ◌∙◌, arith, append-nil}
use Rattle.std.specs.Prelude.{is_some, slice_get}
use Rattle.ic_name.specs.declared.lines.Call.TheVariants.{Fire}
use Rattle.ic_shared.specs.declared.receipts.RunReceipt.{RunReceipt}
use Rattle.ic_shared.specs.CallLines.{pair_reply}
use Rattle.ic_shared.proofs.RunLines.{line_told, none_told, pair_line, one_more, no_refusal, none_more}
use Rattle.ic_shared.proofs.locked.Locked.fire_pair.Goals as goal

pub unreachable-requires : goal.unreachable-requires
unreachable-requires g c =
    let active = c.requires.active in
    no_refusal c.args.self.now.bench c.fire_pair-answer.new.self active.0 c.fire_pair-answer.result (c.fire_pair-answer.ensures active.0 active.1) (c.if-is_some.ensures ∙ ap is_some c.reply_of_pair.ensures)
    (λ answer is. c.in_default.ensures.none active.0 answer (ap (slice_get c.fire_pair-answer.new.self.lines) c.lines-number.ensures ∙ is))

pub invariant_of-self : goal.invariant_of-self
invariant_of-self g c =
    let active = c.requires.active in
    let more = one_more c.args.self.now.bench c.fire_pair-answer.new.self active.0 c.fire_pair-answer.result (c.fire_pair-answer.ensures active.0 active.1) (c.if-is_some.ensures ∙ ap is_some c.reply_of_pair.ensures) in
    let counted = c.args.self.now.counted in
    let total = c.add.ensures.total in
    record { counted = omega (arith, more, counted, total) }

pub invariant_of-self-else-is_some : goal.invariant_of-self-else-is_some
invariant_of-self-else-is_some g c =
    let active = c.requires.active in
    let same = none_more c.args.self.now.bench c.fire_pair-answer.new.self active.0 c.fire_pair-answer.result (c.fire_pair-answer.ensures active.0 active.1) (c.if-is_some.ensures ∙ ap is_some c.reply_of_pair.ensures) in
    record { counted = c.args.self.now.counted ∙ sym same }

pub returns-in-Some-clause-fires : goal.returns-in-Some-clause-fires
returns-in-Some-clause-fires g c =
    let active = c.requires.active in
    let old = c.args.self.now.bench in
    let new = c.fire_pair-answer.new.self in
    let fires = c.fire_pair-answer.ensures active.0 active.1 in
    let receipt : RunReceipt = record { number = c.lines-number.result; note = c.in-Some.note } in record {
      event = active.0;
      bench = c.lawful.ensures;
      its_pair = active.1;
      fires = fires;
      added = receipt ∷ [];
      receipts = c.push_reserved.ensures.items;
      told = line_told new.names (Fire active.0) (pair_reply c.fire_pair-answer.result) receipt (length old.lines) c.lines-number.ensures
          (λ answer is. c.in-Some.ensures.read ∙ ap (slice_get new.lines) c.lines-number.ensures ∙ pair_line old new active.0 c.fire_pair-answer.result answer fires is)
          (c.if-is_some.ensures ∙ ap is_some c.reply_of_pair.ensures);
    }

pub returns-else-is_some-clause-fires : goal.returns-else-is_some-clause-fires
returns-else-is_some-clause-fires g c =
    let active = c.requires.active in record {
      event = active.0;
      bench = c.lawful.ensures;
      its_pair = active.1;
      fires = c.fire_pair-answer.ensures active.0 active.1;
      added = [];
      receipts = sym (append-nil c.args.ran.now.items);
      told = none_told c.fire_pair-answer.new.self.names (Fire active.0) (pair_reply c.fire_pair-answer.result) (length c.args.self.now.bench.lines) (c.if-is_some.ensures ∙ ap is_some c.reply_of_pair.ensures);
    }
