use Rattle.std.proofs.Common.{◌≡◌, Some, ap, map, ◌∙◌}
use Rattle.ic_history.specs.Changed.{name_told}
use Rattle.ic_history.specs.Kept.{line_of}
use Rattle.ic_history.specs.Noted.{line_in}
use Rattle.ic_history.proofs.NotedLines.{line_found, line_read}
use Rattle.ic_history.proofs.ChangedLines.{lead_told, told_inside, only_fired, only_undone}
use Rattle.ic_history.proofs.history.History.lead_changed_in.Goals as goal

pub returns-in-Undone-clause-lead : goal.returns-in-Undone-clause-lead
returns-in-Undone-clause-lead c = λ ns all.
    let inactive = c.self.inside.inactive.items in
    let lines = map (line_in ns) c.args.self.now.lines in
    let found = line_found c.self.inside.lines.items c.deref.result.now c.args.number c.in_ok-fired.field-0.now c.deref.ensures.value c.in_ok-fired.ensures.lookup.0 c.in_ok-fired.ensures.lookup.1 in
    let undone = line_read ns inactive c.self.inside.lines.items c.args.number _ found ∙ ap (λ l. Some (line_in ns (line_of inactive l))) c.in-Undone.is in
    let led = c.lead_fired_in.ensures in
    only_undone lines c.args.number c.in-Undone.fired (λ n. name_told ns c.lead_fired_in.result ≡ Some n) (rw (← c.self.view_is) undone)
    (lead_told ns c.args.self.now.lines c.in-Undone.fired all c.lead_fired_in.result led.found led.none)

pub returns-in_default : goal.returns-in_default
returns-in_default c =
    let inactive = c.self.inside.inactive.items in
    let found = line_found c.self.inside.lines.items c.deref.result.now c.args.number c.in_ok-fired.field-0.now c.deref.ensures.value c.in_ok-fired.ensures.lookup.0 c.in_ok-fired.ensures.lookup.1 in
    let result = c.lead_fired_in-in_default.result in
    let led = c.lead_fired_in-in_default.ensures in
    record {
      inside = λ ns all. told_inside ns c.args.self.now.lines c.args.number all result led.found;
      lead = λ ns all.
          let lines = map (line_in ns) c.args.self.now.lines in
          let read = line_read ns inactive c.self.inside.lines.items c.args.number _ found in
          only_fired ns inactive lines c.args.number c.in_ok-fired.field-0.now (λ n. name_told ns result ≡ Some n) (rw (← c.self.view_is) read) c.in_default.not-Undone
          (lead_told ns c.args.self.now.lines c.args.number all result led.found led.none);
    }
