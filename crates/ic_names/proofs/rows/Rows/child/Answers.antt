use Rattle.std.proofs.Common.{arith}
use Rattle.std.proofs.lemmas.List.{get_or_read}
use Rattle.ic_names.proofs.RowNames.{place_inside}
use Rattle.ic_names.proofs.RowReads.{child_read}
use Rattle.ic_names.proofs.rows.Rows.child.Goals as goal

pub index-requires : goal.index-requires
index-requires c = omega (arith, c.self.inside.entries.ok.0, place_inside c.self.inside.entries.items c.args.place (rw (← c.self.view_is) at c.requires.inside))

pub returns : goal.returns
returns c =
    let es = c.self.inside.entries.items in
    let within = place_inside es c.args.place (rw (← c.self.view_is) at c.requires.inside) in
    let read = get_or_read es c.args.place c.index.result.now within c.index.ensures _ in
    let place = child_read es c.args.place c.args.digit c.index.result.now c.from.result c.get.result c.index-index-from.result c.self.invariant within read c.requires.small c.from.ensures c.get.ensures in
    rw (← c.self.view_is, place) (c.self.invariant.children c.args.place c.args.digit within c.requires.small)
