use Rattle.std.proofs.Common.{[], ◌∷◌, ◌++◌, sym, ◌∙◌}
use Rattle.std.proofs.lemmas.List.{map-append}
use Rattle.ic_roster.specs.Rosters.{Stander}
use Rattle.ic_set.proofs.RankedEvents.{none_under, under_more, stands_there}
use Rattle.ic_set.proofs.nets.events_of.Goals as goal

pub loop-standing-init : goal.loop-standing-init
loop-standing-init c = ([], none_under _, c.in_ok-events.ensures.items)

pub unreachable-requires : goal.unreachable-requires
unreachable-requires c = stands_there c.args.roster.now.events c.args.placed.now c.loop-standing.standing-index _ c.requires c.loop-standing-test.true c.in_default.ensures.absent

pub loop-standing-preserved : goal.loop-standing-preserved
loop-standing-preserved c =
    let i = c.loop-standing.invariant in
    let x = c.in-Some.ensures.found in
    let event = c.in_ok-event.ensures ∙ sym x.3 in (
      i.0 ++ x.0 ∷ [],
      under_more c.args.roster.now.events c.args.placed.now c.loop-standing.standing-index _ i.0 x.0 i.1 c.loop-standing-test.true x.1 x.2,
      c.in_ok-push.ensures.items ∙ (λ t. i.2 t ++ event t ∷ []) ∙ sym (map-append (λ (y : Stander). y.event) i.0 (x.0 ∷ [])),
    )
