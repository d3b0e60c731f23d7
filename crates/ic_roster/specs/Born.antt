-- The agents that events made.
use Rattle.std.specs.Prelude.{List}
use Rattle.ic_name.specs.declared.ids.AgentId.{AgentId}
use Rattle.ic_path.specs.Orders.{IsIn}
use Rattle.ic_roster.specs.Rosters.{Stander}

-- the agent under the id is a child of an event of the list
abbrev pub IsBorn : List Stander → AgentId → Type 0
IsBorn ss a = (x : Stander) × IsIn x ss × IsIn a x.born
