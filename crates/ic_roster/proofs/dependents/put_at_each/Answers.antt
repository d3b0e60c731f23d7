use Rattle.std.proofs.Common.{take, get_or}
use Rattle.std.proofs.lemmas.List.{map_more}
use Rattle.ic_name.specs.declared.ids.EventId.{EventId}
use Rattle.ic_roster.specs.RecordChanges.{Puts}
use Rattle.ic_roster.proofs.RecordLoops.{slots_of, id_here, id_new, changes_more, rooms_left}
use Rattle.ic_roster.proofs.dependents.put_at_each.Goals as goal

pub put_at-requires : goal.put_at-requires
put_at-requires c =
    let es = c.args.causes.now in
    let i = c.loop-cause.cause-index in
    let d : EventId = record { slot = 0; line = 0 } in
    c.loop-cause.invariant.room _ (id_here es i d c.loop-cause-test.true) (id_new es i d c.loop-cause-test.true c.requires.once)

pub loop-cause-preserved : goal.loop-cause-preserved
loop-cause-preserved c =
    let es = c.args.causes.now in
    let i = c.loop-cause.cause-index in
    let d : EventId = record { slot = 0; line = 0 } in
    let this = (get_or es i d).slot in
    let before = c.loop-cause.records.slots in
    let after = c.put_at.new.records.slots in
    rw (map_more (λ (e : EventId). e.slot) es i d c.loop-cause-test.true) (record {
      changes = changes_more (Puts c.args.event) _ _ _ before _ (id_new es i d c.loop-cause-test.true c.requires.once) c.loop-cause.invariant.changes c.put_at.ensures.changed;
      room = λ k h new. rooms_left before after this (slots_of (take i es)) k (c.loop-cause.invariant.room k h) (c.put_at.ensures.others k) new;
    })
