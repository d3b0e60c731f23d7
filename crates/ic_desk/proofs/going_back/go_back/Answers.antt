use Rattle.std.proofs.Common.{◌<◌, length, refl, subst, arith}
use Rattle.ic_path.specs.Orders.{Alike}
use Rattle.ic_set.specs.Views.{standing}
use Rattle.ic_journal.specs.Views.{set_of}
use Rattle.ic_answer.specs.Texts.{refusal_text}
use Rattle.ic_answer.specs.declared.refused.Refused.TheVariants.{NoMark}
use Rattle.ic_command.specs.declared.request.Request.TheVariants.{Back}
use Rattle.ic_undo.specs.declared.faults.BackFault.TheVariants as fault
use Rattle.ic_answer.proofs.ChangedEvents.{changed_at_error}
use Rattle.ic_desk.specs.Views.{NamedView}
use Rattle.ic_desk.proofs.ChangedBenches.{back_changes, part_way_changes}
use Rattle.ic_desk.proofs.DeskTurns.{desk_on_way, fault_known, other_notes, no_mark_turns, no_room_turns}
use Rattle.ic_desk.proofs.Marks.{found, has_at, same_read}
use Rattle.ic_desk.proofs.Stoods.{marks_back, notes_stay}
use Rattle.ic_desk.proofs.UntoldBacks.{back_or_refused, part_way_or_refused}
use Rattle.ic_desk.proofs.going_back.go_back.Goals as goal

pub returns-in_default-clause-turns : goal.returns-in_default-clause-turns
returns-in_default-clause-turns g c = no_mark_turns c.args.bench.now c.args.marks.now c.args.name.now (refusal_text NoMark) c.in_default.ensures refl

pub bounds-marks-place : goal.bounds-marks-place
bounds-marks-place g c = let p = c.in-Some.ensures in (has_at c.args.marks.now c.in-Some.place p.0 p.1).within

pub offset_bounds-marks-place : goal.offset_bounds-marks-place
offset_bounds-marks-place g c =
    let p = c.in-Some.ensures in
    let within : c.in-Some.place < length c.args.marks.now = (has_at c.args.marks.now c.in-Some.place p.0 p.1).within in
    omega arith

pub back_since-went-requires-clause-start : goal.back_since-went-requires-clause-start
back_since-went-requires-clause-start g c =
    let found = found c.args.marks.now c.args.name.now c.in-Some.place c.in-Some.ensures c.index-marks-place.result in
    rw c.mark-mark.ensures (c.requires _ found.there).start

pub back_since-went-requires-clause-stood : goal.back_since-went-requires-clause-stood
back_since-went-requires-clause-stood g c =
    let found = found c.args.marks.now c.args.name.now c.in-Some.place c.in-Some.ensures c.index-marks-place.result in
    rw (c.mark-mark.ensures, c.since.ensures) (c.requires _ found.there).stood

pub bounds-marks-place-in-Ok : goal.bounds-marks-place-in-Ok
bounds-marks-place-in-Ok g c = let p = c.in-Some.ensures in (has_at c.args.marks.now c.in-Some.place p.0 p.1).within

pub offset_bounds-marks-place-in-Ok : goal.offset_bounds-marks-place-in-Ok
offset_bounds-marks-place-in-Ok g c =
    let p = c.in-Some.ensures in
    let within : c.in-Some.place < length c.args.marks.now = (has_at c.args.marks.now c.in-Some.place p.0 p.1).within in
    omega arith

pub returns-in-Ok-clause-turns : goal.returns-in-Ok-clause-turns
returns-in-Ok-clause-turns g c =
    let found = found c.args.marks.now c.args.name.now c.in-Some.place c.in-Some.ensures c.index-marks-place.result in
    other_notes c.args.bench.now c.back_since-went.new.bench c.args.marks.now _ (Back c.args.name.now) c.text_or_refused.result
    (notes_stay c.args.marks.now c.in-Some.place c.index-marks-place-in-Ok.result c.stands_after.new.self c.lines.result c.stands_after.ensures)
    (back_or_refused c.args.bench.now c.back_since-went.new.bench c.lawful.ensures c.lawful-3.ensures c.args.marks.now c.args.name.now _ found.there found.named
    (c.requires _ found.there).start (rw c.mark-mark.ensures at c.lawful-2.ensures) c.in-Ok.counts c.back_text-text.result c.text_or_refused.result (rw c.mark-mark.ensures at c.in-Ok.ensures.back)
    c.back_text-text.ensures c.text_or_refused.ensures.text (rw c.changes.ensures at c.text_or_refused.ensures.refused))

pub returns-in-Ok-clause-changed : goal.returns-in-Ok-clause-changed
returns-in-Ok-clause-changed g c =
    changed_at_error c.args.bench.now c.back_since-went.new.bench c.text_or_refused.result
    (back_changes c.args.bench.now c.back_since-went.new.bench c.mark-mark.result.now c.in-Ok.counts c.in-Ok.ensures.back) (rw c.changes.ensures at c.text_or_refused.ensures.error)

pub returns-in-Ok-clause-desk : goal.returns-in-Ok-clause-desk
returns-in-Ok-clause-desk g c =
    let p = c.in-Some.ensures in
    let found = found c.args.marks.now c.args.name.now c.in-Some.place p c.index-marks-place-in-Ok.result in
    let same = same_read c.args.marks.now c.args.name.now c.in-Some.place p c.index-marks-place.result c.index-marks-place-in-Ok.result in
    let kept = desk_on_way c.args.bench.now c.back_since-went.new.bench c.args.marks.now c.mark-mark.result.now c.back_since-went.result c.back_since-went.ensures.back c.back_since-went.ensures.fault c.requires in
    marks_back c.back_since-went.new.bench c.args.marks.now c.in-Some.place _ c.stands_after.new.self c.lines.result c.lawful-3.ensures
    (has_at c.args.marks.now c.in-Some.place p.0 p.1).within kept found.there c.lines.ensures
    (subst (λ (x : NamedView). Alike x.mark.events (standing (set_of c.back_since-went.new.bench))) same (rw c.mark-mark.ensures at c.in-Ok.ensures.stands)) c.stands_after.ensures

pub returns-in-Err-HistoryFull-clause-turns : goal.returns-in-Err-HistoryFull-clause-turns
returns-in-Err-HistoryFull-clause-turns g c =
    let found = found c.args.marks.now c.args.name.now c.in-Some.place c.in-Some.ensures c.index-marks-place.result in
    let refuses = fault_known c.args.bench.now c.mark-mark.result.now c.back_since-went.new.bench c.back_since-went.result c.in-Err-HistoryFull.field-0 fault.HistoryFull c.in-Err-HistoryFull.is
    (rw c.in-Err-HistoryFull.is at c.in-Err-HistoryFull.field-0-is) c.back_since-went.ensures.fault in
    no_room_turns c.args.bench.now c.back_since-went.new.bench c.lawful.ensures c.lawful-3.ensures c.args.marks.now c.args.name.now _ found.there found.named
    (c.requires _ found.there).start (rw c.mark-mark.ensures at c.lawful-2.ensures) (rw c.mark-mark.ensures at refuses.0) refuses.1

pub returns-in-Err-HistoryFull-clause-desk : goal.returns-in-Err-HistoryFull-clause-desk
returns-in-Err-HistoryFull-clause-desk g c =
    desk_on_way c.args.bench.now c.back_since-went.new.bench c.args.marks.now c.mark-mark.result.now c.back_since-went.result c.back_since-went.ensures.back c.back_since-went.ensures.fault c.requires

pub returns-in-Err-Memory-clause-turns : goal.returns-in-Err-Memory-clause-turns
returns-in-Err-Memory-clause-turns g c =
    let found = found c.args.marks.now c.args.name.now c.in-Some.place c.in-Some.ensures c.index-marks-place.result in
    let went = fault_known c.args.bench.now c.mark-mark.result.now c.back_since-went.new.bench c.back_since-went.result c.in-Err-Memory.field-0 (fault.Memory c.in-Err-Memory.counts) c.in-Err-Memory.is
    (rw c.in-Err-Memory.is at c.in-Err-Memory.field-0-is) c.back_since-went.ensures.fault in
    part_way_or_refused c.args.bench.now c.back_since-went.new.bench c.lawful.ensures c.lawful-3.ensures c.args.marks.now c.args.name.now _ found.there found.named
    (c.requires _ found.there).start (rw c.mark-mark.ensures at c.lawful-2.ensures) c.in-Err-Memory.counts c.wanting_text-text.result c.text_or_refused-in-Err-Memory.result (rw c.mark-mark.ensures at went)
    c.wanting_text-text.ensures c.text_or_refused-in-Err-Memory.ensures.text (rw c.changes-in-Err-Memory.ensures at c.text_or_refused-in-Err-Memory.ensures.refused)

pub returns-in-Err-Memory-clause-changed : goal.returns-in-Err-Memory-clause-changed
returns-in-Err-Memory-clause-changed g c =
    let went = fault_known c.args.bench.now c.mark-mark.result.now c.back_since-went.new.bench c.back_since-went.result c.in-Err-Memory.field-0 (fault.Memory c.in-Err-Memory.counts) c.in-Err-Memory.is
    (rw c.in-Err-Memory.is at c.in-Err-Memory.field-0-is) c.back_since-went.ensures.fault in
    changed_at_error c.args.bench.now c.back_since-went.new.bench c.text_or_refused-in-Err-Memory.result
    (part_way_changes c.args.bench.now c.back_since-went.new.bench c.mark-mark.result.now c.in-Err-Memory.counts went) (rw c.changes-in-Err-Memory.ensures at c.text_or_refused-in-Err-Memory.ensures.error)

pub returns-in-Err-Memory-clause-desk : goal.returns-in-Err-Memory-clause-desk
returns-in-Err-Memory-clause-desk g c =
    desk_on_way c.args.bench.now c.back_since-went.new.bench c.args.marks.now c.mark-mark.result.now c.back_since-went.result c.back_since-went.ensures.back c.back_since-went.ensures.fault c.requires
