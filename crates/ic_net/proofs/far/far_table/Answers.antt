use Rattle.std.proofs.Common.{◌≡◌, ℕ, ◌∙◌, ◌+◌, ◌-◌, Some, slice_get, arith, sym, ap}
use Rattle.ic_name.specs.Spots.{same_spot}
use Rattle.ic_net.specs.FarTables.{end_at}
use Rattle.std.specs.Prelude.{if◌then◌else◌}
use Rattle.ic_net.proofs.FarTableFacts.{link_inside, one_more, table_more, rings_more}
use Rattle.ic_net.proofs.far.far_table.Goals as goal
use Rattle.ic_theory.proofs.PairPorts.{at_most_one}

pub join-requires-clause-left : goal.join-requires-clause-left
join-requires-clause-left c = (link_inside _ _ _ _ _ _ c.requires.links (sym c.get.ensures ∙ c.in-Some.is)).0

pub join-requires-clause-right : goal.join-requires-clause-right
join-requires-clause-right c = (link_inside _ _ _ _ _ _ c.requires.links (sym c.get.ensures ∙ c.in-Some.is)).1

pub loop-done-preserved : goal.loop-done-preserved
loop-done-preserved c =
    let i = c.loop-done.invariant in
    let link = c.in-Some.link in
    let at : slice_get c.args.links.now (c.len-count.result - 1 - c.loop-done.done) ≡ Some link = sym c.get.ensures ∙ c.in-Some.is in
    let more = one_more c.args.links.now c.loop-done.done c.len-count.result link (omega arith) at in
    let inside = link_inside _ _ _ c.args.links.now _ _ c.requires.links at in
    let closes = same_spot (end_at c.args.agents c.loop-done.table.ends.items link.a) link.b in
    let one : ℕ = if closes then 1 else 0 in
    record {
      table = c.join.ensures.table;
      ends = table_more _ _ _ _ _ _ _ more i.ends inside.0 inside.1 c.join.ensures.spliced;
      rings = c.join.ensures.rings ∙ ap (λ n. one + n) i.rings ∙ sym (rings_more _ _ _ _ _ _ more i.ends inside.0);
      few = let r = c.join.ensures.rings in let o = at_most_one closes in omega arith;
    }
