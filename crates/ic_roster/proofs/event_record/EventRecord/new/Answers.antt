use Rattle.std.proofs.Common.{◌<◌, ◌^◌, ◌++◌, ◌∷◌, [], ℕ, List, map, take, get_or, length, append_assoc, ap, subst, ◌∙◌, arith}
use Rattle.std.specs.Prelude.{All}
use Rattle.std.proofs.lemmas.List.{map_more, take_all, length-append}
use Rattle.std.proofs.lemmas.List.Elements.{All-append, All-cons, All-nil}
use Rattle.ic_name.specs.declared.ids.AgentId.{AgentId}
use Rattle.ic_name.specs.declared.ids.EventId.{EventId}
use Rattle.ic_roster.proofs.OnceBelow.{fewer_than_lines}
use Rattle.ic_roster.proofs.event_record.EventRecord.new.Goals as goal

-- the slots of agents
abbrev agents : List AgentId → List ℕ
agents ids = map (λ (a : AgentId). a.slot) ids

-- the slots of events
abbrev events : List EventId → List ℕ
events ids = map (λ (d : EventId). d.slot) ids

-- the lines of events
abbrev lines : List EventId → List ℕ
lines ids = map (λ (d : EventId). d.line) ids

pub loop-cause-preserved : goal.loop-cause-preserved
loop-cause-preserved c =
    let none : EventId = record { slot = 0; line = 0 } in
    let ids = c.args.event.now.causes.now in
    let i = c.loop-cause.cause-index in
    let before = c.loop-cause.invariant in
    let here = c.loop-cause-test.true in
    let d = get_or ids i none in
    let pushed = c.push_reserved-in-loop-cause.ensures.items in
    let capacity = c.push_reserved-in-loop-cause.ensures.capacity in
    let long = ap length pushed ∙ length-append c.loop-cause.slots.items (d.slot ∷ []) in
    let known = c.if-prove.false in
    let room = before.room in
    let small : d.line < 2 ^ 32 = omega (arith, known) in
    record {
      slots = rw (pushed, map_more (λ (e : EventId). e.slot) ids i none here) (ap (λ ks. ks ++ d.slot ∷ []) before.slots ∙ append_assoc (agents c.args.event.now.born.now) (events (take i ids)) (d.slot ∷ []));
      room = omega (arith, room, long, capacity);
      small = rw (map_more (λ (e : EventId). e.line) ids i none here) (All-append (λ n. n < 2 ^ 32) (lines (take i ids)) (d.line ∷ []) before.small (All-cons (λ n. n < 2 ^ 32) d.line [] small (All-nil (λ n. n < 2 ^ 32))));
    }

pub overflow_cast-causes : goal.overflow_cast-causes
overflow_cast-causes c =
    let all = subst (λ ids. All (λ n. n < 2 ^ 32) (lines ids)) (take_all c.loop-cause.cause-index c.args.event.now.causes.now c.loop-cause-test.false) c.loop-cause.invariant.small in
    record { fits = fewer_than_lines c.args.line c.args.event.now.causes.now c.requires.lines c.ranges.line.fits all }
