use Rattle.std.proofs.Common.{◌∙◌, sym}
use Rattle.ic_name.specs.declared.ids.Spot.TheVariants as spots
use Rattle.ic_path.specs.Links.{degree}
use Rattle.ic_link.specs.Links.{shape}
use Rattle.ic_net.proofs.NameCounts.{counts_small, left_inside, right_inside, counted_left, counted_right}
use Rattle.ic_net.proofs.tables.name_ends.Goals as goal

pub count_end-requires-clause-inside : goal.count_end-requires-clause-inside
count_end-requires-clause-inside c = left_inside _ _ _ c.args.links.now _ _ c.loop-number.invariant.long c.requires.links (sym c.get.ensures ∙ c.in-Some.is)

pub count_end-requires-clause-room : goal.count_end-requires-clause-room
count_end-requires-clause-room c =
    counts_small c.loop-number.times.items c.args.names _ (λ j. degree shape c.args.links.now (spots.Name j)) c.loop-number.invariant.long c.loop-number.invariant.counted c.requires.few

pub count_end-requires-in-loop-number-clause-inside : goal.count_end-requires-in-loop-number-clause-inside
count_end-requires-in-loop-number-clause-inside c =
    right_inside _ _ _ c.args.links.now _ _ (c.count_end.ensures.long ∙ c.loop-number.invariant.long) c.requires.links (sym c.get.ensures ∙ c.in-Some.is)

pub count_end-requires-in-loop-number-clause-room : goal.count_end-requires-in-loop-number-clause-room
count_end-requires-in-loop-number-clause-room c =
    let i = c.loop-number.invariant in
    let half = counted_left c.loop-number.times.items c.count_end.new.times.items c.args.names c.args.links.now c.loop-number.number c.in-Some.link i.long (sym c.get.ensures ∙ c.in-Some.is) i.counted c.count_end.ensures.counted in
    counts_small c.count_end.new.times.items c.args.names _ (λ j. degree shape c.args.links.now (spots.Name j)) (c.count_end.ensures.long ∙ i.long) half c.requires.few

pub loop-number-preserved : goal.loop-number-preserved
loop-number-preserved c =
    let i = c.loop-number.invariant in
    let half = counted_left c.loop-number.times.items c.count_end.new.times.items c.args.names c.args.links.now c.loop-number.number c.in-Some.link i.long (sym c.get.ensures ∙ c.in-Some.is) i.counted c.count_end.ensures.counted in
    let long = c.count_end.ensures.long ∙ i.long in
    record {
      long = c.count_end-in-loop-number.ensures.long ∙ long;
      counted = counted_right c.count_end.new.times.items c.count_end-in-loop-number.new.times.items c.args.names c.args.links.now c.loop-number.number c.in-Some.link long half c.count_end-in-loop-number.ensures.counted;
    }
