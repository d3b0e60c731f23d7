-- The net of a text that was printed for a net.
use Rattle.std.specs.Prelude.{◌≡◌, ℕ, List, [], map, Some}
use Rattle.std.specs.List.{position_or_len}
use Rattle.std.specs.Str.{bytes_eq}
use Rattle.ic_name.specs.Names.{Name, start_name}
use Rattle.ic_name.specs.Same.{same_name}
use Rattle.ic_name.specs.declared.ports.Port.{Port}
use Rattle.ic_name.specs.declared.ports.Port.TheVariants.{Of}
use Rattle.ic_name.specs.declared.ports.Port.TheVariants as port
use Rattle.ic_theory.specs.Starts.{Start}
use Rattle.ic_theory.specs.Nets.{net_of}
use Rattle.ic_theory.specs.Listed.{NetAgent, ListedNet, shown}
use Rattle.ic_text.specs.NetText.{name_text}

-- the number of an agent's line
abbrev pub line_of : List NetAgent → Name → ℕ
line_of agents n = position_or_len (λ a. same_name n a.name) agents

-- a port in the text's start: an agent goes by the number of its line, a free name by its bytes
abbrev pub reread_port : List (List ℕ) → ListedNet → Start → Port → Port
reread_port names l s (Of n i) = Of (start_name (line_of l.agents n)) i
reread_port names l s (port.Name j) = port.Name (position_or_len (bytes_eq (name_text names j)) s.names)

-- the start's net is the listed one: agents numbered by their lines, free names by their bytes
pub record IsReread (names : List (List ℕ)) (l : ListedNet) (s : Start) : Type 0 where
  pub kinds : s.kinds ≡ map (λ a. a.kind) l.agents
  pub partners : (p q : Port) → (shown l).partner p ≡ Some q → (net_of s []).partner (reread_port names l s p) ≡ Some (reread_port names l s q)
  pub no_others : (x y : Port) → (net_of s []).partner x ≡ Some y → (p : Port) × (q : Port) × ((shown l).partner p ≡ Some q) × (x ≡ reread_port names l s p)
  pub rings : (net_of s []).rings ≡ l.rings
  pub profile : s.profile ≡ l.profile
