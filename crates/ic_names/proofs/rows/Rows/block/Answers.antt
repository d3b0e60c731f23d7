use Rattle.std.proofs.Common.{arith, ap, ◌∙◌}
use Rattle.std.proofs.lemmas.List.{get_or_read}
use Rattle.ic_names.proofs.RowNames.{place_inside}
use Rattle.ic_names.proofs.rows.Rows.block.Goals as goal

pub index-requires : goal.index-requires
index-requires c = omega (arith, c.self.inside.entries.ok.0, place_inside c.self.inside.entries.items c.args.place (rw (← c.self.view_is) at c.requires))

pub returns : goal.returns
returns c =
    let es = c.self.inside.entries.items in
    let within = place_inside es c.args.place (rw (← c.self.view_is) at c.requires) in
    let read = get_or_read es c.args.place c.index.result.now within c.index.ensures _ in
    rw (← c.self.view_is) (ap (λ e. e.block.0) read ∙ c.self.invariant.blocks c.args.place within)
