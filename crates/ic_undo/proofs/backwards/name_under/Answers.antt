use Rattle.std.proofs.Common.{◌≡◌, Some, ap, ◌∙◌}
use Rattle.std.proofs.lemmas.Result.{IfOk-weaker}
use Rattle.ic_name.specs.Events.{Event, pair}
use Rattle.ic_roster.specs.Rosters.{Stander}
use Rattle.ic_journal.specs.Reads.{StandsIn, IsEventUnder}
use Rattle.ic_undo.proofs.Backs.{found_under, one_under}
use Rattle.ic_undo.proofs.backwards.name_under.Goals as goal

pub unreachable-requires : goal.unreachable-requires
unreachable-requires g c = found_under c.args.bench.now c.args.id c.in_ok-event.field-0 c.in_ok-event.ensures c.requires c.in_default.not-Some

pub returns : goal.returns
returns g c =
    let under : IsEventUnder c.args.bench.now c.args.id (Some c.in-Some.event) = rw c.in-Some.is at c.in_ok-event.ensures in
    IfOk-weaker c.name.result (λ name. name ≡ pair c.in-Some.event) (λ name. (x : Stander) → StandsIn c.args.bench.now c.args.id x → name ≡ pair x.event)
    (λ name h x s. h ∙ ap (λ (e : Event). pair e) (one_under c.args.bench.now c.args.id c.in-Some.event c.lawful.ensures.set.own_lines under x s))
    c.name.ensures
