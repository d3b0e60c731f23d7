use Rattle.std.proofs.Common.{sym, ◌∙◌}
use Rattle.ic_history.proofs.NotedLines.{inactive_noted}
use Rattle.ic_history.proofs.history.History.note_not_active.Goals as goal

pub returns-in-Ok-clause-lines : goal.returns-in-Ok-clause-lines
returns-in-Ok-clause-lines c = rw (← c.self.view_is, c.push_reserved.ensures.items, c.in-Ok.ensures.items) (inactive_noted c.self.inside.inactive.items c.self.inside.lines.items c.args.proposal _ c.self.invariant.placed (sym (c.len-place.ensures ∙ c.self.inside.inactive.ok.0)))
