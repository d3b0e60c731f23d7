-- The text that says which line of a printed net is which agent's.
use Rattle.std.specs.Prelude.{ℕ, List, ◌++◌, length, codes, decimal}
use Rattle.std.specs.List.{flat_map}
use Rattle.ic_name.specs.NameTexts.{name_text}
use Rattle.ic_name.specs.declared.ports.Port.{Port}
use Rattle.ic_theory.specs.Listed.{NetAgent, ListedNet}
use Rattle.ic_text.specs.NetText.{agent_line, numbered_wires}

-- the line of an agent behind its name
abbrev pub named_line : List (List ℕ) → List Port → NetAgent → List ℕ
named_line names ws a = name_text a.name ++ codes " " ++ agent_line names ws a

-- how many agents there are, and the line of each
abbrev pub agents_text : List (List ℕ) → ListedNet → List ℕ
agents_text names l = codes "agents " ++ decimal (length l.agents) ++ codes "\n" ++ flat_map (named_line names (numbered_wires l.agents)) l.agents
