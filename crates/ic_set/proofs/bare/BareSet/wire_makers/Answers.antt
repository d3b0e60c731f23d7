use Rattle.std.proofs.Common.{subst}
use Rattle.std.proofs.lemmas.Result.{IfOk-weaker}
use Rattle.ic_set.specs.Sets.{IsKept}
use Rattle.ic_set.specs.Views.{NamedView}
use Rattle.ic_set.proofs.WirePaths.{one_link, makers_stand, makers_made, in_order_so}
use Rattle.ic_set.proofs.bare.BareSet.wire_makers.Goals as goal

pub path_makers-requires : goal.path_makers-requires
path_makers-requires g c =
    let k = subst (λ (w : NamedView). IsKept w.set (g.L.LinkStore.links c.self.inside.store)) c.self.view_is c.self.invariant in
    one_link _ _ k c.args.spot c.requires.0 c.requires.1

pub ordered-requires : goal.ordered-requires
ordered-requires g c =
    let k = subst (λ (w : NamedView). IsKept w.set (g.L.LinkStore.links c.self.inside.store)) c.self.view_is c.self.invariant in
    let (ids, joins, are) = c.in_ok-makers.ensures in
    record {
      once = rw c.deref.ensures are.once;
      standing = rw c.deref.ensures (makers_stand _ _ k c.args.spot c.requires.0 c.requires.1 joins.0 ids joins.1 _ are);
    }

pub returns : goal.returns
returns g c =
    let k = subst (λ (w : NamedView). IsKept w.set (g.L.LinkStore.links c.self.inside.store)) c.self.view_is c.self.invariant in
    let (ids, joins, are) = c.in_ok-makers.ensures in
    IfOk-weaker c.ordered.result _ _ (λ makers o p loose. in_order_so _ makers.items (makers_made _ _ k c.args.spot p loose joins.0 ids joins.1 _ are) o) (rw c.deref.ensures at c.ordered.ensures)
