-- What the printer's numbers say.
use Rattle.std.specs.Prelude.{◌≡◌, ◌≢◌, ℕ, zero, suc, ◌+◌, ◌<◌, List, [], ◌∷◌, length, map, All, Option, Some, None, if◌then◌else◌, ◌==◌, ◌&&◌, position, slice_get, slice_index_or}
use Rattle.std.specs.List.{filter_map, fold}
use Rattle.std.specs.List.Sorted.{IsStrictlySortedBy}
use Rattle.ic_name.specs.Names.{Name, name_cmp}
use Rattle.ic_name.specs.Kinds.{arity}
use Rattle.ic_name.specs.Same.{same_port}
use Rattle.ic_name.specs.declared.ports.Port.{Port}
use Rattle.ic_name.specs.declared.ports.Port.TheVariants.{Of}
use Rattle.ic_theory.specs.Listed.{NetAgent, agent_among, partner_at}
use Rattle.ic_text.specs.NetText.{wire_of, partner_of, add}
use Rattle.ic_text.specs.declared.print.port_numbers.PortNumbers.{PortNumbers}
use Rattle.ic_text.specs.declared.print.numbers.WireNumbers.{WireNumbers}

-- agents in order of names and with as many partners as they have ports, where two that are joined are each other's partners
pub record AreWired (as' : List NetAgent) : Type 0 where
  pub in_order : IsStrictlySortedBy name_cmp (map (λ a. a.name) as')
  pub whole : All (λ a. length a.partners ≡ arity a.kind + 1) as'
  pub both_ways : (m n : Name) (i j : ℕ) → partner_at i (agent_among m as') ≡ Some (Of n j) → (Of n j ≢ Of m i) × (partner_at j (agent_among n as') ≡ Some (Of m i))

-- no numbers
abbrev pub bare : PortNumbers
bare = record { ports = 0 ∷ 0 ∷ 0 ∷ [] }

-- the number that one more than it is kept for; 0 is kept for none
abbrev pub number_kept : ℕ → Option ℕ
number_kept zero = None
number_kept (suc n) = Some n

-- the number at an agent's port, if it has one
abbrev pub port_number : PortNumbers → ℕ → Option ℕ
port_number numbers i = number_kept (slice_index_or numbers.ports i 0)

-- the number at a port of the agent at a place, if it has one
abbrev pub number_at : WireNumbers → ℕ → ℕ → Option ℕ
number_at n k i = port_number (slice_index_or n.ports.items k bare) i

-- the port has this number, and each other port what it had
abbrev pub GivesPort : ℕ → ℕ → PortNumbers → PortNumbers → Type 0
GivesPort port number old new = (i : ℕ) → port_number new i ≡ (if port == i then Some number else port_number old i)

-- the port of the agent at a place has this number, and each other port what it had
abbrev pub GivesNumber : ℕ → ℕ → ℕ → WireNumbers → WireNumbers → Type 0
GivesNumber place port number old new = (k i : ℕ) → number_at new k i ≡ (if (place == k) && (port == i) then Some number else number_at old k i)

-- the place of a wire among these, if it is one of them
abbrev pub wire_place : List Port → Option Port → Option ℕ
wire_place ws None = None
wire_place ws (Some w) = position (same_port w) ws

-- the wire at an agent's port, if it joins two agents
abbrev pub port_wire : NetAgent → ℕ → Option Port
port_wire a i = wire_of (Of a.name i) (partner_of a i)

-- each port of the agents has the number of its wire: its place among these wires, where it is one of them
pub record IsNumbering (as' : List NetAgent) (n : WireNumbers) (ws : List Port) : Type 0 where
  pub count : n.count ≡ length ws
  pub places : (k i : ℕ) (a : NetAgent) → slice_get as' k ≡ Some a → i < length a.partners → number_at n k i ≡ wire_place ws (port_wire a i)

-- n is m with the wires xs given numbers in turn
abbrev pub Enters : List NetAgent → WireNumbers → WireNumbers → List Port → Type 0
Enters as' m n xs = (ws : List Port) → IsNumbering as' m ws → IsNumbering as' n (fold add ws xs)

-- the wire at an agent's port, alone, or none where a free name is at its other end
abbrev pub port_wires : NetAgent → ℕ → List Port
port_wires a i = filter_map (port_wire a) (i ∷ [])
