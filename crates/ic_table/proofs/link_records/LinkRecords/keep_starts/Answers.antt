use Rattle.std.proofs.Common.{}
use Rattle.ic_table.specs.contracts.link_records.LinkRecords.{the_view}
use Rattle.ic_table.proofs.ClearedRows.{cleared-still, starts-left}
use Rattle.ic_table.proofs.link_records.LinkRecords.keep_starts.Goals as goal

pub returns-clause-rows : goal.returns-clause-rows
returns-clause-rows c = starts-left (the_view c.self.inside) c.clear.new.self c.clear.ensures.rows (rw (← c.self.view_is) at c.requires)

pub returns-clause-still : goal.returns-clause-still
returns-clause-still c = rw (← c.self.view_is) (cleared-still (the_view c.self.inside) c.clear.new.self c.clear.ensures.rows)
