-- The events are undone one after the other.
use Rattle.std.proofs.Common.{◌≤◌, [], take, length, arith, ap, subst}
use Rattle.std.proofs.lemmas.List.{take_all, drop_all, length-map}
use Rattle.ic_roster.specs.Rosters.{Stander}
use Rattle.ic_answer.specs.LastFired.{AreUndoneSince}
use Rattle.ic_answer.proofs.LastEvents.{none_undone, next_undone, next_isnt_refused}
use Rattle.ic_answer.proofs.unstepping.undo_in_turn.Goals as goal

pub loop-id-init : goal.loop-id-init
loop-id-init g c =
    let room = c.requires.room in
    record { did = λ line order since named. none_undone c.args.bench.now line order since; enough = omega (arith, room) }

pub loop-id-preserved : goal.loop-id-preserved
loop-id-preserved g c =
    let few = c.loop-id-test.true in
    let enough = c.loop-id.invariant.enough in
    let room = c.in-Ok.ensures.0.room in
    let one : 1 ≤ c.loop-id.bench.room = omega (arith, few, enough) in record {
      did = λ line order since named. next_undone c.args.bench.now c.loop-id.bench c.undo.new.self line order c.args.ids.now c.loop-id.id-index _ named few c.lawful.ensures one (c.loop-id.invariant.did line order since named) c.in-Ok.ensures;
      enough = omega (arith, enough, room);
    }

pub unreachable-requires : goal.unreachable-requires
unreachable-requires g c =
    let few = c.loop-id-test.true in
    let enough = c.loop-id.invariant.enough in
    let one : 1 ≤ c.loop-id.bench.room = omega (arith, few, enough) in
    let last = c.requires.last.1 in
    next_isnt_refused c.args.bench.now c.loop-id.bench c.undo.new.self c.requires.last.0 last.order c.args.ids.now c.loop-id.id-index _ last.named few c.lawful.ensures one
    (c.loop-id.invariant.did c.requires.last.0 last.order last.since last.named) c.in_default.field-0 c.in_default.ensures

pub returns : goal.returns
returns g c = λ line order since named.
    let past = c.loop-id-test.false in
    let many = length-map order (λ (x : Stander). x.id) in
    let same = ap length named in
    let all = take_all c.loop-id.id-index order (omega (arith, past, many, same)) in
    let no_more = drop_all c.loop-id.id-index order (omega (arith, past, many, same)) in
    subst (λ xs. AreUndoneSince c.args.bench.now line xs [] c.loop-id.bench) all (subst (λ xs. AreUndoneSince c.args.bench.now line (take c.loop-id.id-index order) xs c.loop-id.bench) no_more (c.loop-id.invariant.did line order since named))
