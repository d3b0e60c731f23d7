use Rattle.std.proofs.Common.{◌≡◌, [], refl, sym, subst, arith}
use Rattle.std.specs.BTreeSet.{contains}
use Rattle.ic_name.specs.Events.{pair_cmp}
use Rattle.ic_undo.specs.Absorbing.{AbsorbsNone}
use Rattle.ic_undo.specs.declared.faults.AbsorbFault.TheVariants as absorb
use Rattle.ic_undo.proofs.Absorbed.{reserved_fits, nothing_absorbed, absorbed, never_absorbed, free_after, none_absorbed}
use Rattle.ic_undo.proofs.ReadyPairs.{no_elements}
use Rattle.ic_undo.proofs.absorbing.absorb.Goals as goal

pub returns-in-Err-Memory-clause-fault : goal.returns-in-Err-Memory-clause-fault
returns-in-Err-Memory-clause-fault g c =
    let v = c.args.bench.now in
    let names = c.args.events.now in
    let e = rw c.in-Err-Memory.field-0-is at c.in-Err-Memory.ensures in
    subst (λ new. AbsorbsNone v names absorb.Memory new) (sym e.2) (nothing_absorbed v names c.lawful.ensures e.0)

pub returns-in_default-clause-absorbed : goal.returns-in_default-clause-absorbed
returns-in_default-clause-absorbed g c =
    let v = c.args.bench.now in
    let start = c.reserve.new.self in
    let names = c.args.events.now in
    let stays = c.in-Ok.ensures.0 in
    let fits = reserved_fits v start names stays c.lawful-2.ensures c.in-Ok.ensures.1 in
    let turns = c.in-Ok-fired.turns in
    let one = c.len.ensures in
    let two = turns.ids.ok.0 in
    let empty : turns.missing.keys ≡ [] = no_elements turns.missing.keys (λ l. (let some = c.in_default.ensures.variant.1 l in cc)) in
    absorbed v start names c.lawful.ensures stays fits c.fire_listed-fired.new.bench c.lawful-3.ensures turns.ids.items c.in-Ok-fired.ensures.comes c.in-Ok-fired.ensures.none (contains pair_cmp turns.missing) c.in-Ok-fired.ensures.missing c.len.result (omega (arith, one, two)) (λ p. rw empty refl)

pub take_back-requires-in-Err-clause-free : goal.take_back-requires-in-Err-clause-free
take_back-requires-in-Err-clause-free g c =
    let v = c.args.bench.now in
    let start = c.reserve.new.self in
    let names = c.args.events.now in
    let stays = c.in-Ok.ensures.0 in
    let fits = reserved_fits v start names stays c.lawful-2.ensures c.in-Ok.ensures.1 in
    let stop = c.in-Err.stop in
    let s = c.in-Err.ensures.stops in
    free_after v start names c.lawful.ensures stays fits s.between c.fire_listed-fired.new.bench s.lawful stop.ids.items s.comes stop.why s.hinders

pub returns-in-Some-clause-fault : goal.returns-in-Some-clause-fault
returns-in-Some-clause-fault g c =
    let v = c.args.bench.now in
    let start = c.reserve.new.self in
    let names = c.args.events.now in
    let stays = c.in-Ok.ensures.0 in
    let fits = reserved_fits v start names stays c.lawful-2.ensures c.in-Ok.ensures.1 in
    let turns = c.in-Ok-fired.turns in
    never_absorbed v start names c.lawful.ensures stays fits c.fire_listed-fired.new.bench c.lawful-3.ensures turns.ids.items c.in-Ok-fired.ensures.comes c.in-Ok-fired.ensures.none (contains pair_cmp turns.missing) c.in-Ok-fired.ensures.missing
    c.take_back.new.bench c.lawful-in-Ok-fired.ensures c.take_back.ensures c.in-Some.name c.obstacle_of-obstacle.result c.in-Some.ensures.member c.in-Some.ensures.least c.obstacle_of-obstacle.ensures

pub returns-in-Err-clause-fault : goal.returns-in-Err-clause-fault
returns-in-Err-clause-fault g c =
    let v = c.args.bench.now in
    let start = c.reserve.new.self in
    let names = c.args.events.now in
    let stays = c.in-Ok.ensures.0 in
    let fits = reserved_fits v start names stays c.lawful-2.ensures c.in-Ok.ensures.1 in
    let stop = c.in-Err.stop in
    let s = c.in-Err.ensures.stops in
    let new = c.take_back-in-Err.new.bench in
    subst (λ f. AbsorbsNone v names f new) (sym c.fault_of.ensures)
    (none_absorbed v start names c.lawful.ensures stays fits s.between c.fire_listed-fired.new.bench s.lawful stop.ids.items s.comes new c.lawful-in-Err.ensures c.take_back-in-Err.ensures stop.why s.hinders)
