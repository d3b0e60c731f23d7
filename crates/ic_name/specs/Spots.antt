-- Tests for equal spots and ids, and whose links are whose.
use Rattle.std.specs.Prelude.{ℕ, ◌+◌, Bool, true, false, ◌&&◌, ◌==◌, List, sum_by, if◌then◌else◌}
use Rattle.ic_name.specs.declared.ids.AgentId.{AgentId}
use Rattle.ic_name.specs.declared.ids.EventId.{EventId}
use Rattle.ic_name.specs.declared.ids.Spot.{Spot}
use Rattle.ic_name.specs.declared.ids.Spot.TheVariants.{Agent, Name}
use Rattle.ic_name.specs.declared.ids.MakerId.{MakerId}
use Rattle.ic_name.specs.declared.ids.MakerId.TheVariants.{Start, Event}
use Rattle.ic_name.specs.declared.ids.Link.{Link}
use Rattle.ic_name.specs.declared.ids.LinkId.{LinkId}

abbrev pub same_agent : AgentId → AgentId → Bool
same_agent a b = (a.slot == b.slot) && (a.serial == b.serial)

abbrev pub same_event : EventId → EventId → Bool
same_event a b = (a.slot == b.slot) && (a.line == b.line)

abbrev pub same_spot : Spot → Spot → Bool
same_spot (Agent a p) (Agent b q) = same_agent a b && (p == q)
same_spot (Agent a p) (Name m) = false
same_spot (Name n) (Agent b q) = false
same_spot (Name n) (Name m) = n == m

abbrev pub same_maker : MakerId → MakerId → Bool
same_maker Start Start = true
same_maker Start (Event e) = false
same_maker (Event d) Start = false
same_maker (Event d) (Event e) = same_event d e

abbrev pub same_link : LinkId → LinkId → Bool
same_link a b = same_maker a.maker b.maker && (a.place == b.place)

-- 1 where the spots are one
abbrev pub hit : Spot → Spot → ℕ
hit p q = if same_spot p q then 1 else 0

-- 1 where the link has the id
abbrev pub has_id : LinkId → Link → ℕ
has_id i l = if same_link l.id i then 1 else 0

-- the event is the maker
abbrev pub is_maker : EventId → MakerId → Bool
is_maker e Start = false
is_maker e (Event d) = same_event d e

-- a link of the event
abbrev pub made_by : EventId → Link → Bool
made_by e l = is_maker e l.id.maker

-- how many ends of the link are at the spot
abbrev pub ends_at : Spot → Link → ℕ
ends_at s l = hit l.a s + hit l.b s

-- how many ends of links are at the spot
abbrev pub degree : List Link → Spot → ℕ
degree ls s = sum_by (ends_at s) ls
