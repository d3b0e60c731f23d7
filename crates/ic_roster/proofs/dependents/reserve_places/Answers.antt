use Rattle.std.proofs.Common.{take, get_or, ◌∙◌}
use Rattle.std.specs.Prelude.{IsSome}
use Rattle.std.proofs.lemmas.List.{map_more, take_all}
use Rattle.ic_name.specs.declared.ids.EventId.{EventId}
use Rattle.ic_roster.specs.Slots.{slot_at}
use Rattle.ic_roster.proofs.RecordFacts.{shows_then, stands_still}
use Rattle.ic_roster.proofs.RecordLoops.{slots_of, id_at, rooms_more}
use Rattle.ic_roster.proofs.dependents.reserve_places.Goals as goal

pub reserve_place-requires : goal.reserve_place-requires
reserve_place-requires c =
    let es = c.args.causes.now in
    let i = c.loop-cause.cause-index in
    let d : EventId = record { slot = 0; line = 0 } in
    let old = c.args.records.now.slots in
    stands_still old c.loop-cause.records.slots c.loop-cause.invariant.same.shows _
    ∙ id_at (λ k. IsSome (slot_at old k)) es i d c.loop-cause-test.true c.requires

pub loop-cause-preserved : goal.loop-cause-preserved
loop-cause-preserved c =
    let es = c.args.causes.now in
    let i = c.loop-cause.cause-index in
    let d : EventId = record { slot = 0; line = 0 } in
    let now = c.in_ok-reserve_place.ensures in
    let was = c.loop-cause.invariant in
    let before = c.loop-cause.records.slots in
    let after = c.reserve_place.new.records.slots in
    rw (map_more (λ (e : EventId). e.slot) es i d c.loop-cause-test.true) (record {
      same = record { shows = shows_then _ before after was.same.shows now.same.shows; dependents = λ k. now.same.dependents k ∙ was.same.dependents k };
      room = λ k h. rooms_more before after ((get_or es i d).slot) (slots_of (take i es)) k (was.room k) (now.kept k) now.room h;
    })

pub returns-clause-room : goal.returns-clause-room
returns-clause-room c = λ k h. c.loop-cause.invariant.room k (rw (take_all c.loop-cause.cause-index c.args.causes.now c.loop-cause-test.false) h)
