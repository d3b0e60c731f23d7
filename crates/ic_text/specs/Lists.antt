-- What the lists of a sheet show, and which agent's line is printed.
use Rattle.std.specs.Prelude.{◌≡◌, ℕ, ◌<◌, ◌^◌, List, length, map, All, Some, slice_get}
use Rattle.ic_slots.specs.Slots.{slot_of}
use Rattle.ic_theory.specs.Listed.{NetAgent}
use Rattle.ic_net.specs.Placed.{listed_at, placed_list, IsAgentInside}
use Rattle.ic_net.specs.declared.sheet.SheetLists.{SheetLists}
use Rattle.ic_net.specs.declared.sheet.placed.PlacedAgent.{PlacedAgent}
use Rattle.ic_net.specs.declared.sheet.placed.PlacedPort.{PlacedPort}
use Rattle.ic_text.specs.Numbers.{AreWired}
use Rattle.ic_text.specs.declared.print.agent_lines.AgentLine.{AgentLine}
use Rattle.ic_text.specs.declared.print.agent_lines.LinesByName.{LinesByName}

-- the agents that are listed
abbrev pub agents_of : SheetLists → List NetAgent
agents_of s = map (listed_at s.names.now) s.agents.now

-- the agent of a line
abbrev pub agent_on : SheetLists → AgentLine → NetAgent
agent_on s l = listed_at s.names.now l.agent.now

-- the partners of its ports, by places
abbrev pub partners_on : AgentLine → List PlacedPort
partners_on l = placed_list l.agent.now.partners

-- the agents are those of a net, at places of the table
pub record AreNetLists (s : SheetLists) : Type 0 where
  pub wired : AreWired (agents_of s)
  pub inside : All (IsAgentInside s.names.now) s.agents.now
  pub few : length s.agents.now < 2 ^ 32

-- the line is that of its agent
abbrev pub IsOnLine : SheetLists → AgentLine → Type 0
IsOnLine s l = slice_get s.agents.now l.line ≡ Some l.agent.now

-- the place of each agent's name has the agent's line
abbrev pub AreLines : List PlacedAgent → LinesByName → Type 0
AreLines as' lines = (k : ℕ) (a : PlacedAgent) → slice_get as' k ≡ Some a → slot_of lines.slots a.name.place ≡ Some k
