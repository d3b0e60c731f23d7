use Rattle.std.proofs.Common.{[], ◌∷◌, ◌++◌, append-nil, length, sym, ap, ◌∙◌}
use Rattle.ic_cause.specs.Journals.{journal_head}
use Rattle.ic_roster.specs.Rosters.{event_in}
use Rattle.ic_set.specs.Placed.{ranked_in}
use Rattle.ic_set.proofs.RankedEvents.{none_under, under_more, stands_there, line_more}
use Rattle.ic_set.proofs.nets.journal_of.Goals as goal

pub loop-standing-init : goal.loop-standing-init
loop-standing-init c = ([], none_under _, c.in_ok-text.ensures ∙ sym (append-nil _))

pub unreachable-requires : goal.unreachable-requires
unreachable-requires c = stands_there c.args.roster.now.events c.args.placed.now c.loop-standing.standing-index _ c.requires c.loop-standing-test.true c.in_default.ensures.absent

pub loop-standing-preserved : goal.loop-standing-preserved
loop-standing-preserved c =
    let i = c.loop-standing.invariant in
    let x = c.in-Some.ensures.found in
    let ranked = ranked_in c.names.result.now c.in-Some.entry in
    let event = x.3 ∙ ap (λ ns. event_in ns c.in-Some.entry.interaction) (sym c.names.ensures) in (
      i.0 ++ x.0 ∷ [],
      under_more c.args.roster.now.events c.args.placed.now c.loop-standing.standing-index _ i.0 x.0 i.1 c.loop-standing-test.true x.1 x.2,
      line_more (journal_head (length c.args.placed.now)) i.0 x.0 ranked _ _ (λ t. record { event = event t; rank = x.4 t }) i.2 c.in_ok-push_line.ensures,
    )
