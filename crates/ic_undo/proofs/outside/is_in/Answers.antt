use Rattle.std.proofs.Common.{Some, ap, ◌∙◌}
use Rattle.ic_name.specs.Events.{Event}
use Rattle.ic_journal.specs.Reads.{IsEventUnder}
use Rattle.ic_undo.proofs.Backs.{found_under, one_under}
use Rattle.ic_undo.proofs.LedPlaces.{led_tells}
use Rattle.ic_undo.proofs.MarkedEvents.{over_start, led_inside}
use Rattle.ic_undo.proofs.outside.is_in.Goals as goal

pub unreachable-requires : goal.unreachable-requires
unreachable-requires g c = found_under c.args.bench.now c.args.id c.in_ok-event.field-0 c.in_ok-event.ensures c.requires.stands c.in_default.not-Some

pub returns : goal.returns
returns g c =
    let v = c.args.bench.now in
    let es = c.args.mark.now.events in
    let under : IsEventUnder v c.args.id (Some c.in-Some.event) = rw c.in-Some.is at c.in_ok-event.ensures in
    λ x s. (
    let same = c.lead.ensures ∙ ap (λ (e : Event). e.lead) (one_under v c.args.id c.in-Some.event c.lawful.ensures.set.own_lines under x s) in
    rw c.is_some.ensures (led_tells es x.event c.lead.result.now c.place_of.result same (λ e i lead. led_inside v c.lawful.ensures.set es (over_start v c.args.mark.now c.requires.start c.lawful-2.ensures) x e s.0 i lead) c.place_of.ensures.found c.place_of.ensures.absent)
    )
