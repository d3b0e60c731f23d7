-- The printed text of a net.
use Rattle.std.specs.Prelude.{ℕ, ◌+◌, zero, suc, List, [], ◌∷◌, ◌++◌, length, Option, Some, None, if◌then◌else◌, codes, decimal, position, unwrap_or, slice_index_or}
use Rattle.std.specs.List.{flat_map, filter_map, fold, list_any}
use Rattle.std.specs.Ordering.{nat_cmp, is_lt}
use Rattle.std.specs.Cmp.Lexicographic.{slice_cmp}
use Rattle.std.specs.BTreeMap.{insert_entry}
use Rattle.ic_name.specs.Same.{same_port}
use Rattle.ic_name.specs.declared.kinds.Kind.{Kind}
use Rattle.ic_name.specs.declared.kinds.Kind.TheVariants.{Gamma, Delta, Eps}
use Rattle.ic_name.specs.declared.rules.Profile.{Profile}
use Rattle.ic_name.specs.declared.rules.Profile.TheVariants.{Classic, Straight}
use Rattle.ic_name.specs.declared.ports.Port.{Port}
use Rattle.ic_name.specs.declared.ports.Port.TheVariants.{Of}
use Rattle.ic_name.specs.declared.ports.Port.TheVariants as port
use Rattle.ic_theory.specs.Listed.{NetAgent, ListedNet, port_cmp, wires_of}

-- the text of a name, by number
abbrev pub name_text : List (List ℕ) → ℕ → List ℕ
name_text names j = slice_index_or names j []

-- the ports of an agent, as its line shows them: 1, 2 and 0, or 0 alone
abbrev pub shown_ports : Kind → List ℕ
shown_ports Eps = 0 ∷ []
shown_ports _ = 1 ∷ 2 ∷ 0 ∷ []

-- the partner of an agent's port
abbrev pub partner_of : NetAgent → ℕ → Port
partner_of a i = slice_index_or a.partners i (Of a.name i)

-- a wire between two ports of agents, by the lesser of the two; a wire to a free name is none of these
abbrev pub wire_of : Port → Port → Option Port
wire_of p (port.Name j) = None
wire_of p (Of n i) = if is_lt (port_cmp p (Of n i)) then Some p else Some (Of n i)

-- the wires in an agent's line, as they appear there
abbrev pub line_wires : NetAgent → List Port
line_wires a = filter_map (λ i. wire_of (Of a.name i) (partner_of a i)) (shown_ports a.kind)

-- x at the end, unless it is there
abbrev pub add : List Port → Port → List Port
add ws w = if list_any (same_port w) ws then ws else ws ++ w ∷ []

-- the wires that are written with a number, each once, in order of first appearance
abbrev pub numbered_wires : List NetAgent → List Port
numbered_wires as' = fold add [] (flat_map line_wires as')

-- `_` and a number
abbrev pub numbered : ℕ → List ℕ
numbered k = codes "_" ++ decimal k

-- a wire as it is written at one of its ports: the free name at the other end, else its number
abbrev pub label_of : List (List ℕ) → List Port → Port → Port → List ℕ
label_of names ws p (port.Name j) = name_text names j
label_of names ws p (Of n i) = numbered (unwrap_or (position (same_port (unwrap_or (wire_of p (Of n i)) p)) ws) 0)

abbrev pub port_label : List (List ℕ) → List Port → NetAgent → ℕ → List ℕ
port_label names ws a i = label_of names ws (Of a.name i) (partner_of a i)

abbrev pub letter : Kind → List ℕ
letter Gamma = codes "G"
letter Delta = codes "D"
letter Eps = codes "E"

-- the parentheses of a gamma or delta
abbrev pub arguments : List (List ℕ) → List Port → NetAgent → Kind → List ℕ
arguments names ws a Eps = []
arguments names ws a _ = codes "(" ++ port_label names ws a 1 ++ codes "," ++ port_label names ws a 2 ++ codes ")"

-- the line of an agent
abbrev pub agent_line : List (List ℕ) → List Port → NetAgent → List ℕ
agent_line names ws a = letter a.kind ++ arguments names ws a a.kind ++ codes " = " ++ port_label names ws a 0 ++ codes ";\n"

-- the wires between two free names, each by its two texts, the lesser first
abbrev pub free_wire : List (List ℕ) → ℕ × Port → Option (List ℕ × List ℕ)
free_wire names (j, port.Name m) = if is_lt (slice_cmp nat_cmp (name_text names j) (name_text names m)) then Some (name_text names j, name_text names m) else None
free_wire names (j, Of n i) = None

-- these wires in order of their first texts
abbrev pub free_wires : List (List ℕ) → List (ℕ × Port) → List (List ℕ × List ℕ)
free_wires names fs = fold (λ es x. insert_entry (slice_cmp nat_cmp) es x.0 x.1) [] (filter_map (free_wire names) fs)

abbrev pub free_line : List ℕ × List ℕ → List ℕ
free_line x = x.0 ++ codes " = " ++ x.1 ++ codes ";\n"

-- the lines of n rings, numbered from k on
abbrev pub ring_lines : ℕ → ℕ → List ℕ
ring_lines k zero = []
ring_lines k (suc n) = numbered k ++ codes " = " ++ numbered k ++ codes ";\n" ++ ring_lines (k + 1) n

abbrev pub header : ℕ → ℕ → ℕ → List ℕ
header agents wires rings = codes "# agents " ++ decimal agents ++ codes " wires " ++ decimal wires ++ codes " rings " ++ decimal rings ++ codes "\n"

abbrev pub profile_line : Profile → List ℕ
profile_line Classic = []
profile_line Straight = codes "@straight;\n"

-- the printed text of a net with these texts of names
abbrev pub net_text : List (List ℕ) → ListedNet → List ℕ
net_text names l =
    let ws = numbered_wires l.agents in
    header (length l.agents) (wires_of l) l.rings
    ++ profile_line l.profile
    ++ flat_map (agent_line names ws) l.agents
    ++ flat_map free_line (free_wires names l.frees)
    ++ ring_lines (length ws) l.rings
