use Rattle.std.proofs.Common.{subst}
use Rattle.ic_set.specs.Views.{NamedView}
use Rattle.ic_set.specs.Sets.{IsKept}
use Rattle.ic_set.proofs.BornPairs.{Joined, looked_none, looked_more, looked_still, looked_all, none_told, some_told}
use Rattle.ic_set.proofs.bare.BareSet.born_pairs.Goals.{in-Some, in_default}
use Rattle.ic_set.proofs.bare.BareSet.born_pairs.Goals as goal

pub loop-place-init : goal.loop-place-init
loop-place-init g c = looked_none c.args.self.now.set (g.L.LinkStore.links c.self.inside.store) c.args.event

pub loop-place-preserved : goal.loop-place-preserved
loop-place-preserved g c =
    let v = c.args.self.now.set in
    let ls = g.L.LinkStore.links c.self.inside.store in
    let place = c.loop-place.place in
    let k = subst (λ (w : NamedView). IsKept w.set ls) c.self.view_is c.self.invariant in
    elim c.match-joined_by.branch [
      | in-Some w ↦ (
          let told = some_told v ls c.args.event k.set place w.in-Some.join _ w.in-Some.ensures.joined w.in-Some.ensures.absent w.active_join.ensures.found w.active_join.ensures.absent in
          rw w.pairs-is (looked_more v ls c.args.event place c.loop-place.pairs c.loop-place.invariant c.loop-place-test.true _ told))
      | in_default w ↦ (
          let told = none_told v ls c.args.event place (subst (λ j. Joined v ls c.args.event place j) w.in_default.is c.joined_by.ensures.joined) in
          rw w.pairs-is (looked_still v ls c.args.event place c.loop-place.pairs c.loop-place.invariant c.loop-place-test.true told))
    ]

pub returns : goal.returns
returns g c =
    let ls = g.L.LinkStore.links c.self.inside.store in
    let k = subst (λ (w : NamedView). IsKept w.set ls) c.self.view_is c.self.invariant in
    looked_all c.args.self.now.set ls c.args.event k (record { slim = c.lawful.ensures.slim; own_ids = c.lawful.ensures.own_ids }) c.loop-place.place c.loop-place.pairs c.loop-place.invariant c.loop-place-test.false
