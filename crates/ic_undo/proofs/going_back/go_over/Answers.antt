use Rattle.std.proofs.Common.{length, refl, sym, arith, ◌∙◌}
use Rattle.ic_undo.specs.GoingBack.{events_at}
use Rattle.ic_undo.proofs.PlacedMarks.{length_at}
use Rattle.ic_undo.proofs.StayedBenches.{unchanged}
use Rattle.ic_undo.proofs.WaysBack.{nothing_done, dont_fit_back, free_ids, missing_firable, missing_fit, is_back, back_stands, is_part_way}
use Rattle.ic_undo.proofs.going_back.go_over.Goals as goal

pub returns-in-Err-HistoryFull-clause-fault : goal.returns-in-Err-HistoryFull-clause-fault
returns-in-Err-HistoryFull-clause-fault g c =
    let e = rw c.in-Err-HistoryFull.field-0-is at c.in-Err-HistoryFull.ensures in
    let l = e.0 in
    let five = length_at c.args.mark.now.events c.args.missing.now c.requires.missing.within in (
      dont_fit_back c.args.bench.now c.lawful.ensures c.args.mark.now c.requires.start c.lawful-2.ensures c.args.gone.now (events_at c.args.mark.now.events c.args.missing.now) c.requires.outside c.requires.missing.missing (omega (arith, l, five)),
      e.1,
    )

pub returns-in-Err-Memory-clause-fault : goal.returns-in-Err-Memory-clause-fault
returns-in-Err-Memory-clause-fault g c =
    let e = rw c.in-Err-Memory.field-0-is at c.in-Err-Memory.ensures in
    rw e.2 (nothing_done c.args.bench.now c.lawful.ensures c.args.mark.now c.requires.start c.lawful-2.ensures c.args.bench.now (unchanged c.args.bench.now))

pub undo_each-requires-clause-free : goal.undo_each-requires-clause-free
undo_each-requires-clause-free g c =
    free_ids c.args.bench.now c.lawful.ensures c.args.mark.now c.requires.start c.lawful-2.ensures c.args.gone.now (events_at c.args.mark.now.events c.args.missing.now) c.requires.outside c.requires.missing.missing c.reserve.new.self c.in-Ok.ensures.0

pub fire_each-requires-clause-firable : goal.fire_each-requires-clause-firable
fire_each-requires-clause-firable g c =
    missing_firable c.args.bench.now c.lawful.ensures c.args.mark.now c.requires.start c.lawful-2.ensures c.args.gone.now (events_at c.args.mark.now.events c.args.missing.now) c.requires.outside c.requires.missing.missing c.reserve.new.self c.in-Ok.ensures.0
    c.undo_each.new.bench c.lawful-4.ensures c.undo_each.ensures

pub fire_each-requires-clause-fit : goal.fire_each-requires-clause-fit
fire_each-requires-clause-fit g c =
    let room = c.in-Ok.ensures.1 in
    let five = length_at c.args.mark.now.events c.args.missing.now c.requires.missing.within in
    let fit = missing_fit c.args.bench.now c.lawful.ensures c.args.mark.now c.requires.start c.lawful-2.ensures c.args.gone.now (events_at c.args.mark.now.events c.args.missing.now) c.requires.outside c.requires.missing.missing c.reserve.new.self c.in-Ok.ensures.0
    c.undo_each.new.bench c.lawful-4.ensures c.undo_each.ensures c.lawful-3.ensures (omega (arith, room, five)) in
    omega (arith, fit, five)

pub returns-in-Ok-fire_each-clause-back : goal.returns-in-Ok-fire_each-clause-back
returns-in-Ok-fire_each-clause-back g c =
    is_back c.args.bench.now c.lawful.ensures c.args.mark.now c.requires.start c.lawful-2.ensures c.args.gone.now (events_at c.args.mark.now.events c.args.missing.now) c.requires.outside c.requires.missing.missing c.reserve.new.self c.in-Ok.ensures.0
    c.undo_each.new.bench c.lawful-4.ensures c.undo_each.ensures c.fire_each.new.bench (record { undone = length c.args.gone.now; fired = c.in-Ok-fire_each.fired }) c.in-Ok-fire_each.ensures.all.0 refl (c.in-Ok-fire_each.ensures.all.1 ∙ sym (length_at c.args.mark.now.events c.args.missing.now c.requires.missing.within))

pub returns-in-Ok-fire_each-clause-stands : goal.returns-in-Ok-fire_each-clause-stands
returns-in-Ok-fire_each-clause-stands g c =
    back_stands c.args.bench.now c.lawful.ensures c.args.mark.now c.requires.start c.lawful-2.ensures c.args.gone.now (events_at c.args.mark.now.events c.args.missing.now) c.requires.outside c.requires.missing.missing c.reserve.new.self c.in-Ok.ensures.0
    c.undo_each.new.bench c.lawful-4.ensures c.undo_each.ensures c.fire_each.new.bench c.in-Ok-fire_each.ensures.all.0

pub returns-in-Err-clause-fault : goal.returns-in-Err-clause-fault
returns-in-Err-clause-fault g c =
    is_part_way c.args.bench.now c.lawful.ensures c.args.mark.now c.requires.start c.lawful-2.ensures c.args.gone.now (events_at c.args.mark.now.events c.args.missing.now) c.requires.outside c.requires.missing.missing c.reserve.new.self c.in-Ok.ensures.0
    c.undo_each.new.bench c.lawful-4.ensures c.undo_each.ensures c.fire_each.new.bench (record { undone = length c.args.gone.now; fired = c.in-Err.fired }) c.in-Err.ensures.some refl
