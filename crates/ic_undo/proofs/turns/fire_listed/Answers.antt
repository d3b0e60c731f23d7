use Rattle.std.proofs.Common.{length, sym, ap, subst, arith}
use Rattle.std.specs.BTreeMap.{get}
use Rattle.std.specs.BTreeSet.{contains}
use Rattle.ic_name.specs.Events.{pair_cmp}
use Rattle.ic_journal.specs.Views.{set_of}
use Rattle.ic_undo.specs.Coming.{Comes}
use Rattle.ic_undo.specs.Ready.{TellsMissing}
use Rattle.ic_undo.proofs.ComingEvents.{none_came}
use Rattle.ic_undo.proofs.ReadyPairs.{none_ready}
use Rattle.ic_undo.proofs.TurnsTaken.{nothing_came, lines_left, ready_event, was_missing, comes_too, missing_then, ready_then, ids_then, stops_then, room_then}
use Rattle.ic_undo.proofs.turns.fire_listed.Goals as goal

pub returns-in_default-clause-stops : goal.returns-in_default-clause-stops
returns-in_default-clause-stops g c = nothing_came c.args.bench.now c.args.names.now c.lawful.ensures c.out_of_memory.result.ids.items c.out_of_memory.ensures.none c.out_of_memory.result.why c.out_of_memory.ensures.why

pub returns-in_default-ready_pairs-clause-stops : goal.returns-in_default-ready_pairs-clause-stops
returns-in_default-ready_pairs-clause-stops g c = nothing_came c.args.bench.now c.args.names.now c.lawful.ensures c.out_of_memory-in_default-ready_pairs.result.ids.items c.out_of_memory-in_default-ready_pairs.ensures.none c.out_of_memory-in_default-ready_pairs.result.why c.out_of_memory-in_default-ready_pairs.ensures.why

pub returns-in_default-with_capacity-clause-stops : goal.returns-in_default-with_capacity-clause-stops
returns-in_default-with_capacity-clause-stops g c = nothing_came c.args.bench.now c.args.names.now c.lawful.ensures c.out_of_memory-in_default-with_capacity.result.ids.items c.out_of_memory-in_default-with_capacity.ensures.none c.out_of_memory-in_default-with_capacity.result.why c.out_of_memory-in_default-with_capacity.ensures.why

pub loop-pair-init : goal.loop-pair-init
loop-pair-init g c =
    let none = c.in-Ok-with_capacity.ensures.items in
    let few = c.in-Ok.ensures.few in
    let places = c.in-Ok-with_capacity.ensures.capacity in
    let len = c.len.ensures.len in
    let empty = ap length none in
    record {
      lawful = c.lawful.ensures;
      comes = subst (λ xs. Comes c.args.bench.now c.args.names.now xs c.args.bench.now) (sym none) (none_came c.args.bench.now c.args.names.now);
      tells = c.in-Ok.ensures.tells;
      ready = c.in-Ok-ready_pairs.ensures;
      count = omega (arith, few, empty);
      places = omega (arith, places, len, empty);
    }

pub take_least-requires : goal.take_least-requires
take_least-requires g c =
    let i = c.loop-pair.invariant in
    λ q p there. was_missing c.args.bench.now c.loop-pair.bench c.args.names.now c.loop-pair.ids.items i.lawful i.comes (contains pair_cmp c.loop-pair.missing) i.tells (get pair_cmp c.loop-pair.ready) i.ready q p there

pub fire_ready-fired-requires-clause-active : goal.fire_ready-fired-requires-clause-active
fire_ready-fired-requires-clause-active g c =
    let i = c.loop-pair.invariant in
    let t = c.in-Some.ensures.taken in
    let e = ready_event c.args.bench.now c.loop-pair.bench c.args.names.now c.loop-pair.ids.items i.lawful i.comes (contains pair_cmp c.loop-pair.missing) i.tells (get pair_cmp c.loop-pair.ready) i.ready t.name c.in-Some.pair t.there in
    (e.0, e.1)

pub fire_ready-fired-requires-clause-room : goal.fire_ready-fired-requires-clause-room
fire_ready-fired-requires-clause-room g c =
    let i = c.loop-pair.invariant in
    let fewer = c.in-Some.ensures.fewer in
    let left = lines_left c.args.bench.now c.loop-pair.bench c.args.names.now c.loop-pair.ids.items i.comes c.requires in
    let count = i.count in
    omega (arith, fewer, left, count)

pub fire_ready-fired-requires-clause-place : goal.fire_ready-fired-requires-clause-place
fire_ready-fired-requires-clause-place g c = let fewer = c.in-Some.ensures.fewer in let places = c.loop-pair.invariant.places in omega (arith, fewer, places)

pub loop-pair-preserved : goal.loop-pair-preserved
loop-pair-preserved g c =
    let old = c.args.bench.now in
    let mid = c.loop-pair.bench in
    let new = c.fire_ready-fired.new.bench in
    let names = c.args.names.now in
    let ids = c.loop-pair.ids.items in
    let more = c.fire_ready-fired.new.ids.items in
    let i = c.loop-pair.invariant in
    let waits = contains pair_cmp c.loop-pair.missing in
    let left = contains pair_cmp c.take_least.new.missing in
    let at = get pair_cmp c.loop-pair.ready in
    let rest = get pair_cmp c.take_least.new.ready in
    let after = get pair_cmp c.fire_ready-fired.new.ready in
    let p = c.in-Some.pair in
    let t = c.in-Some.ensures.taken in
    let e = ready_event old mid names ids i.lawful i.comes waits i.tells at i.ready t.name p t.there in
    let fires = c.in_default-fired.ensures.fired e.0 e.1 in
    let lawful = c.lawful-in-Some.ensures in
    let one = ids_then old mid names ids i.lawful i.comes waits i.tells at i.ready t.name p t.there t.least new lawful left t.out rest after t.gone more fires in
    let fewer = c.in-Some.ensures.fewer in
    let count = i.count in
    let places = i.places in
    let same = c.in_default-fired.ensures.places in
    record {
      lawful = lawful;
      comes = comes_too old mid names ids i.lawful i.comes waits i.tells at i.ready t.name p t.there t.least new lawful left t.out rest after t.gone more fires;
      tells = missing_then old mid names ids i.lawful i.comes waits i.tells at i.ready t.name p t.there t.least new lawful left t.out rest after t.gone more fires;
      ready = ready_then old mid names ids i.lawful i.comes waits i.tells at i.ready t.name p t.there t.least new lawful left t.out rest after t.gone more fires;
      count = omega (arith, fewer, one, count);
      places = omega (arith, fewer, one, places, same);
    }

pub loop-pair-smaller : goal.loop-pair-smaller
loop-pair-smaller g c = let fewer = c.in-Some.ensures.fewer in omega (arith, fewer)

pub returns-in-Err-clause-stops : goal.returns-in-Err-clause-stops
returns-in-Err-clause-stops g c =
    let old = c.args.bench.now in
    let mid = c.loop-pair.bench in
    let names = c.args.names.now in
    let ids = c.loop-pair.ids.items in
    let i = c.loop-pair.invariant in
    let waits = contains pair_cmp c.loop-pair.missing in
    let at = get pair_cmp c.loop-pair.ready in
    let p = c.in-Some.pair in
    let t = c.in-Some.ensures.taken in
    let e = ready_event old mid names ids i.lawful i.comes waits i.tells at i.ready t.name p t.there in
    stops_then old mid names ids i.lawful i.comes waits i.tells at i.ready t.name p t.there t.least c.fire_ready-fired.new.bench c.lawful-in-Some.ensures c.in-Err.why c.fire_ready-fired.new.ids.items (c.in-Err.ensures.hindered e.0 e.1)

pub returns-in-Err-clause-room_still : goal.returns-in-Err-clause-room_still
returns-in-Err-clause-room_still g c =
    let old = c.args.bench.now in
    let mid = c.loop-pair.bench in
    let names = c.args.names.now in
    let ids = c.loop-pair.ids.items in
    let i = c.loop-pair.invariant in
    let waits = contains pair_cmp c.loop-pair.missing in
    let at = get pair_cmp c.loop-pair.ready in
    let p = c.in-Some.pair in
    let t = c.in-Some.ensures.taken in
    let e = ready_event old mid names ids i.lawful i.comes waits i.tells at i.ready t.name p t.there in
    let fewer = c.in-Some.ensures.fewer in
    let count = i.count in
    room_then old mid names ids i.lawful i.comes waits i.tells at i.ready t.name p t.there t.least c.fire_ready-fired.new.bench c.lawful-in-Some.ensures c.in-Err.why c.fire_ready-fired.new.ids.items c.requires (omega (arith, fewer, count))
    (c.in-Err.ensures.hindered e.0 e.1)

pub returns-clause-none : goal.returns-clause-none
returns-clause-none g c = let i = c.loop-pair.invariant in none_ready c.loop-pair.bench c.args.names.now (get pair_cmp c.loop-pair.ready) i.lawful.set i.ready c.in_default-take_least.ensures.none

pub returns-clause-missing : goal.returns-clause-missing
returns-clause-missing g c =
    subst (λ m. TellsMissing (set_of c.loop-pair.bench) c.args.names.now (contains pair_cmp m)) (sym c.in_default-take_least.ensures.kept) c.loop-pair.invariant.tells

pub returns-clause-few : goal.returns-clause-few
returns-clause-few g c = let count = c.loop-pair.invariant.count in omega (arith, count)

pub returns-clause-room : goal.returns-clause-room
returns-clause-room g c =
    let i = c.loop-pair.invariant in
    let left = lines_left c.args.bench.now c.loop-pair.bench c.args.names.now c.loop-pair.ids.items i.comes c.requires in
    let count = i.count in
    omega (arith, left, count)
