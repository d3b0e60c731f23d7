-- What was fired last is found, told and undone.
use Rattle.std.proofs.Common.{◌≡◌, ◌-◌, ◌<◌, length, sym, subst, arith, ◌∙◌}
use Rattle.ic_name.specs.declared.limits.TheConstants.{MAX_LINES}
use Rattle.ic_path.specs.Orders.{IsIn}
use Rattle.ic_path.proofs.InLists.{all_of_each}
use Rattle.ic_roster.specs.Rosters.{Stander}
use Rattle.ic_journal.specs.Views.{BenchView}
use Rattle.ic_answer.specs.LastFired.{AreLastFired, UnstepsBench}
use Rattle.ic_answer.specs.Texts.{refusal_text}
use Rattle.ic_answer.specs.declared.refused.Refused.TheVariants as refused
use Rattle.ic_answer.proofs.LastEvents.{since_still}
use Rattle.ic_answer.proofs.UnstepReplies.{unstep_memory, unstep_full, not_reserved, ids_still, longer_still, unsteps}
use Rattle.ic_answer.proofs.unstepping.unstep.Goals as goal
use Rattle.ic_answer.proofs.unstepping.unstep.Goals.{else-room-eq0-via-then-room-eq0+then-most-gt0+else-standing_count-gt0, else-room-eq0-via-then-room-eq0+else-most-gt0, else-room-eq0-via-else-room-eq0}

pub returns-then-standing_count-gt0-clause-turns : goal.returns-then-standing_count-gt0-clause-turns
returns-then-standing_count-gt0-clause-turns g c =
    let none = c.if-room-eq0.true in
    let count = c.lines.ensures in
    let short = c.lawful.ensures.running.short in
    let stand = c.standing_count.ensures in
    let some = c.if-standing_count-gt0.true in
    unstep_full c.args.bench.now c.args.most c.if-most-gt0.true (omega (arith, stand, some)) (omega (arith, none, count, short))

pub returns-in_default-clause-turns : goal.returns-in_default-clause-turns
returns-in_default-clause-turns g c = unstep_memory c.args.bench.now c.args.most

pub returns-in_default-unstepped_text-clause-turns : goal.returns-in_default-unstepped_text-clause-turns
returns-in_default-unstepped_text-clause-turns g c = unstep_memory c.args.bench.now c.args.most

pub returns-in_default-reserve-clause-turns : goal.returns-in_default-reserve-clause-turns
returns-in_default-reserve-clause-turns g c =
    let same = not_reserved c.args.bench.now c.reserve.new.self _ c.in_default-reserve.field-0 c.in_default-reserve.ensures in
    subst (λ (v : BenchView). UnstepsBench c.args.bench.now c.args.most (refusal_text refused.Memory) v) (sym same) (unstep_memory c.args.bench.now c.args.most)

pub undo_in_turn-requires-clause-last : goal.undo_in_turn-requires-clause-last
undo_in_turn-requires-clause-last g c =
    (c.in-Ok.ensures.line, ids_still c.args.bench.now c.reserve.new.self _ c.in-Ok.ids.items c.deref-2.result.now c.in-Ok-reserve.ensures.0 c.in-Ok.ensures c.deref-2.ensures.value)

pub returns-clause-turns : goal.returns-clause-turns
returns-clause-turns g c =
    let old = c.args.bench.now in
    let mid = c.reserve.new.self in
    let room = MAX_LINES - c.lines.result in
    let count = c.lines.ensures in
    let short = c.lawful.ensures.running.short in
    let last = subst (λ m. AreLastFired old m c.in-Ok.ids.items) c.min.ensures c.in-Ok.ensures in
    let stays = c.in-Ok-reserve.ensures.0 in
    let since = since_still old mid last.line last.since.order stays last.since.since in
    let did = c.undo_in_turn.ensures last.line last.since.order since (last.since.named ∙ sym c.deref-2.ensures.value) in
    let there = all_of_each (λ (x : Stander). IsIn x old.events) last.since.order (λ x i. (last.since.since.only x i).0) in
    let told = c.in-Ok-unstepped_text.ensures last.since.order there (last.since.named ∙ sym c.deref.ensures.value) in
    let stand : room ≡ 0 → 0 < c.args.most → length old.events ≡ 0 = (λ none some. elim c.else-room-eq0.branch [
      | else-room-eq0-via-then-room-eq0+then-most-gt0+else-standing_count-gt0 w ↦ (let standing = w.standing_count.ensures in let few = w.if-standing_count-gt0.false in omega (arith, standing, few))
      | else-room-eq0-via-then-room-eq0+else-most-gt0 w ↦ (let few = w.if-most-gt0.false in absurd (omega (arith, few, some)))
      | else-room-eq0-via-else-room-eq0 w ↦ absurd (w.if-room-eq0.false none)
    ]) in
    unsteps old mid c.undo_in_turn.new.bench c.args.most room c.in-Ok.ids.items (omega (arith, count, short)) stand stays last did c.in-Ok-unstepped_text.text.items told

pub returns-clause-lines : goal.returns-clause-lines
returns-clause-lines g c =
    let old = c.args.bench.now in
    let mid = c.reserve.new.self in
    let last = c.in-Ok.ensures in
    let stays = c.in-Ok-reserve.ensures.0 in
    let did = c.undo_in_turn.ensures last.line last.since.order (since_still old mid last.line last.since.order stays last.since.since) (last.since.named ∙ sym c.deref-2.ensures.value) in
    longer_still old mid c.undo_in_turn.new.bench stays did.longer
