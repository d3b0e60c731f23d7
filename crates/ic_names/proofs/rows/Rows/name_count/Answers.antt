use Rattle.std.proofs.Common.{sym, ◌∙◌}
use Rattle.ic_names.proofs.RowNames.{names_of-length}
use Rattle.ic_names.proofs.rows.Rows.name_count.Goals as goal

pub returns : goal.returns
returns c = rw (← c.self.view_is) (c.len.ensures ∙ c.self.inside.entries.ok.0 ∙ sym (names_of-length c.self.inside.entries.items))
