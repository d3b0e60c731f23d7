-- The equations of a printed text.
use Rattle.std.specs.Prelude.{ℕ, ◌+◌, zero, suc, List, [], ◌∷◌, ◌++◌, length, map}
use Rattle.ic_name.specs.declared.kinds.Kind.{Kind}
use Rattle.ic_name.specs.declared.kinds.Kind.TheVariants.{Gamma, Delta, Eps}
use Rattle.ic_name.specs.declared.ports.Port.{Port}
use Rattle.ic_theory.specs.Listed.{NetAgent, ListedNet}
use Rattle.ic_text.specs.Grammar.{Term, named, eps, fork, gamma, delta, Equation}
use Rattle.ic_text.specs.NetText.{port_label, numbered, numbered_wires, free_wires}

-- an agent's term, by the labels of its auxiliary ports
abbrev pub term_of : (ℕ → List ℕ) → Kind → Term
term_of label Gamma = fork gamma (named (label 1)) (named (label 2))
term_of label Delta = fork delta (named (label 1)) (named (label 2))
term_of label Eps = eps

-- an agent's line: its term, and the label of its principal port
abbrev pub agent_equation : List (List ℕ) → List Port → NetAgent → Equation
agent_equation names ws a = record { left = term_of (port_label names ws a) a.kind; right = named (port_label names ws a 0) }

-- a wire between two free names
abbrev pub free_equation : List ℕ × List ℕ → Equation
free_equation x = record { left = named x.0; right = named x.1 }

-- n rings, numbered from k on
abbrev pub ring_equations : ℕ → ℕ → List Equation
ring_equations k zero = []
ring_equations k (suc n) = record { left = named (numbered k); right = named (numbered k) } ∷ ring_equations (k + 1) n

-- the equations of a net's text
abbrev pub printed_equations : List (List ℕ) → ListedNet → List Equation
printed_equations names l =
    let ws = numbered_wires l.agents in
    map (agent_equation names ws) l.agents
    ++ map free_equation (free_wires names l.frees)
    ++ ring_equations (length ws) l.rings
