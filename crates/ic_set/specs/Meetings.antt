-- Two agents whose principal ports a wire joins, with their entries.
use Rattle.std.specs.Prelude.{◌<◌, length}
use Rattle.ic_name.specs.declared.ids.AgentId.{AgentId}
use Rattle.ic_names.specs.Tables.{name_at}
use Rattle.ic_path.specs.Orders.{IsIn}
use Rattle.ic_roster.specs.declared.agents.AgentEntry.{AgentEntry}
use Rattle.ic_set.specs.declared.pairs.Meeting.{Meeting}
use Rattle.ic_set.specs.Pairs.{AreJoined}
use Rattle.ic_set.specs.Views.{NamedView}

-- the agent under the id has this name and kind
pub record HasEntry (v : NamedView) (a : AgentId) (x : AgentEntry) : Type 0 where
  pub there : IsIn (record { id = a; name = name_at v.names x.name.place; kind = x.kind }) v.set.agents
  pub inside : x.name.place < length v.names

-- a wire joins the agent under the id to the partner, and both have their entries
pub record IsMeeting (v : NamedView) (a : AgentId) (m : Meeting) : Type 0 where
  pub joined : AreJoined v.set a m.partner
  pub first : HasEntry v a m.entry
  pub second : HasEntry v m.partner m.other
