use Rattle.std.proofs.Common.{◌≡◌, codes, inl, sym, ap, ◌∙◌}
use Rattle.ic_name.specs.Events.{Event, pair}
use Rattle.ic_name.specs.declared.ids.EventId.{EventId}
use Rattle.ic_roster.specs.Rosters.{Stander}
use Rattle.ic_answer.specs.Texts.{pair_line}
use Rattle.ic_answer.proofs.changing.held.Goals as goal
use Rattle.ic_undo.proofs.RestingCauses.{same_line}

pub returns-in-Ok : goal.returns-in-Ok
returns-in-Ok g c = λ x i under.
    let found = rw c.in-Ok-Some.field-0-is at c.in-Ok-Some.ensures in
    let same : found.0 ≡ x = same_line c.args.bench.now.events found.0 x c.lawful.ensures.set.own_lines found.1.0 i (found.1.1 ∙ ap (λ (d : EventId). d.line) (sym under)) in
    let event : c.in-Ok-Some.event ≡ x.event = sym found.2 ∙ ap (λ (y : Stander). y.event) same in
    inl (c.in-Ok.ensures ∙ ap (λ (e : Event). pair_line (codes "refused 32 held by ") (pair e)) event)
