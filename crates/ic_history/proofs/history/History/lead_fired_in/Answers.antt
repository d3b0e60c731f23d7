use Rattle.std.proofs.Common.{Some, refl, ap, ◌∙◌}
use Rattle.ic_history.specs.Kept.{event_kept, line_of}
use Rattle.ic_history.proofs.NotedLines.{line_found, line_noted, no_firing}
use Rattle.ic_history.proofs.history.History.lead_fired_in.Goals as goal

pub returns-in-Fired-clause-found : goal.returns-in-Fired-clause-found
returns-in-Fired-clause-found c =
    let inactive = c.self.inside.inactive.items in
    let lines = c.self.inside.lines.items in
    let found = line_found lines c.deref.result.now c.args.number c.in_ok-places.field-0.now c.deref.ensures.value c.in_ok-places.ensures.lookup.0 c.in_ok-places.ensures.lookup.1 in
    rw (← c.self.view_is) (event_kept c.in-Fired.field-0 c.in-Fired.places, line_noted inactive lines c.args.number _ found ∙ ap (λ l. Some (line_of inactive l)) c.in-Fired.is, refl)

pub returns-in_default : goal.returns-in_default
returns-in_default c =
    let lines = c.self.inside.lines.items in
    let found = line_found lines c.deref.result.now c.args.number c.in_ok-places.field-0.now c.deref.ensures.value c.in_ok-places.ensures.lookup.0 c.in_ok-places.ensures.lookup.1 in
    rw (← c.self.view_is) (record { found = tt; none = no_firing c.self.inside.inactive.items lines c.args.number _ found c.in_default.not-Fired })
