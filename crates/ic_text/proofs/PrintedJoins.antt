-- The links and the symbols of the equations of a printed text.
use Rattle.std.proofs.Common.{◌≡◌, ℕ, zero, suc, ◌+◌, List, [], ◌∷◌, ◌++◌, length, map, refl, sym, ap, ◌∙◌, append_assoc}
use Rattle.ic_name.specs.declared.kinds.Kind.{Kind}
use Rattle.ic_name.specs.declared.kinds.Kind.TheVariants.{Gamma, Delta, Eps}
use Rattle.ic_name.specs.declared.ports.Port.{Port}
use Rattle.ic_name.specs.declared.ports.Port.TheVariants as port
use Rattle.ic_theory.specs.Listed.{NetAgent, ListedNet}
use Rattle.ic_text.specs.Grammar.{named, Equation, equation_tokens, symbols, port_of, text_links}
use Rattle.ic_text.specs.NetText.{shown_ports, port_label, numbered, numbered_wires, free_wires}
use Rattle.ic_text.specs.Printed.{term_of, agent_equation, free_equation, ring_equations, printed_equations}

-- the links of an agent's line, by the labels of its ports: each leads from a port to the name that is its label
abbrev pub line_joins : (List ℕ → ℕ) → ℕ → (ℕ → List ℕ) → Kind → List (Port × Port)
line_joins N n label k = map (λ i. (port_of n i, port.Name (N (label i)))) (shown_ports k)

-- those of the lines of agents, numbered from n on
abbrev pub agent_joins : (List ℕ → ℕ) → List (List ℕ) → List Port → ℕ → List NetAgent → List (Port × Port)
agent_joins N names ws n [] = []
agent_joins N names ws n (a ∷ as') = line_joins N n (port_label names ws a) a.kind ++ agent_joins N names ws (n + 1) as'

-- those of wires between free names
abbrev pub free_joins : (List ℕ → ℕ) → List (List ℕ × List ℕ) → List (Port × Port)
free_joins N xs = map (λ (x : List ℕ × List ℕ). (port.Name (N x.0), port.Name (N x.1))) xs

-- those of n rings, numbered from k on
abbrev pub ring_joins : (List ℕ → ℕ) → ℕ → ℕ → List (Port × Port)
ring_joins N k zero = []
ring_joins N k (suc n) = (port.Name (N (numbered k)), port.Name (N (numbered k))) ∷ ring_joins N (k + 1) n

-- those of a net's text
abbrev pub printed_joins : (List ℕ → ℕ) → List (List ℕ) → ListedNet → List (Port × Port)
printed_joins N names l =
    agent_joins N names (numbered_wires l.agents) 0 l.agents
    ++ (free_joins N (free_wires names l.frees)
    ++ ring_joins N (length (numbered_wires l.agents)) l.rings)

-- the equations, those of agents before the others
grouped : (names : List (List ℕ)) (l : ListedNet) → printed_equations names l
    ≡ map (agent_equation names (numbered_wires l.agents)) l.agents ++ (map free_equation (free_wires names l.frees) ++ ring_equations (length (numbered_wires l.agents)) l.rings)
grouped names l = append_assoc (map (agent_equation names (numbered_wires l.agents)) l.agents) (map free_equation (free_wires names l.frees)) (ring_equations (length (numbered_wires l.agents)) l.rings)

-- ---- links

-- an agent's line has those of its ports
line_links : (N : List ℕ → ℕ) (n : ℕ) (label : ℕ → List ℕ) (k : Kind) (es : List Equation)
    → text_links N n (record { left = term_of label k; right = named (label 0) } ∷ es) ≡ line_joins N n label k ++ text_links N (n + 1) es
line_links N n label Gamma es = refl
line_links N n label Delta es = refl
line_links N n label Eps es = refl

-- a ring's line has one from a name to itself
ring_links : (N : List ℕ → ℕ) (n k r : ℕ) → text_links N n (ring_equations k r) ≡ ring_joins N k r
ring_links N n k zero = refl
ring_links N n k (suc r) = ap (λ js. (port.Name (N (numbered k)), port.Name (N (numbered k))) ∷ js) (ring_links N n (k + 1) r)

-- the line of a wire between free names has one between them
free_links : (N : List ℕ → ℕ) (n k r : ℕ) (xs : List (List ℕ × List ℕ)) → text_links N n (map free_equation xs ++ ring_equations k r) ≡ free_joins N xs ++ ring_joins N k r
free_links N n k r [] = ring_links N n k r
free_links N n k r (x ∷ xs) = ap (λ js. (port.Name (N x.0), port.Name (N x.1)) ∷ js) (free_links N n k r xs)

-- the links of lines of agents and what follows them
agent_links : (N : List ℕ → ℕ) (names : List (List ℕ)) (ws : List Port) (n k r : ℕ) (xs : List (List ℕ × List ℕ)) (as' : List NetAgent)
    → text_links N n (map (agent_equation names ws) as' ++ (map free_equation xs ++ ring_equations k r)) ≡ agent_joins N names ws n as' ++ (free_joins N xs ++ ring_joins N k r)
agent_links N names ws n k r xs [] = free_links N n k r xs
agent_links N names ws n k r xs (a ∷ as') =
    line_links N n (port_label names ws a) a.kind (map (agent_equation names ws) as' ++ (map free_equation xs ++ ring_equations k r))
    ∙ ap (λ js. line_joins N n (port_label names ws a) a.kind ++ js) (agent_links N names ws (n + 1) k r xs as')
    ∙ sym (append_assoc (line_joins N n (port_label names ws a) a.kind) (agent_joins N names ws (n + 1) as') (free_joins N xs ++ ring_joins N k r))

-- the links of a net's text
pub printed_links : (N : List ℕ → ℕ) (names : List (List ℕ)) (l : ListedNet) → text_links N 0 (printed_equations names l) ≡ printed_joins N names l
printed_links N names l = ap (text_links N 0) (grouped names l) ∙ agent_links N names (numbered_wires l.agents) 0 (length (numbered_wires l.agents)) l.rings (free_wires names l.frees) l.agents

-- ---- symbols

-- the symbol of a line
line_symbol : (label : ℕ → List ℕ) (k : Kind) (es : List Equation) → symbols (equation_tokens (record { left = term_of label k; right = named (label 0) } ∷ es)) ≡ k ∷ symbols (equation_tokens es)
line_symbol label Gamma es = refl
line_symbol label Delta es = refl
line_symbol label Eps es = refl

-- those of rings have none
ring_symbols : (k r : ℕ) → symbols (equation_tokens (ring_equations k r)) ≡ []
ring_symbols k zero = refl
ring_symbols k (suc r) = ring_symbols (k + 1) r

-- nor those of wires between free names
free_symbols : (k r : ℕ) (xs : List (List ℕ × List ℕ)) → symbols (equation_tokens (map free_equation xs ++ ring_equations k r)) ≡ []
free_symbols k r [] = ring_symbols k r
free_symbols k r (x ∷ xs) = free_symbols k r xs

-- each agent's line has its symbol
agent_symbols : (names : List (List ℕ)) (ws : List Port) (k r : ℕ) (xs : List (List ℕ × List ℕ)) (as' : List NetAgent)
    → symbols (equation_tokens (map (agent_equation names ws) as' ++ (map free_equation xs ++ ring_equations k r))) ≡ map (λ a. a.kind) as'
agent_symbols names ws k r xs [] = free_symbols k r xs
agent_symbols names ws k r xs (a ∷ as') =
    line_symbol (port_label names ws a) a.kind (map (agent_equation names ws) as' ++ (map free_equation xs ++ ring_equations k r))
    ∙ ap (λ ks. a.kind ∷ ks) (agent_symbols names ws k r xs as')

-- the symbols of a net's text are those of its agents
pub printed_symbols : (names : List (List ℕ)) (l : ListedNet) → symbols (equation_tokens (printed_equations names l)) ≡ map (λ a. a.kind) l.agents
printed_symbols names l = ap (λ es. symbols (equation_tokens es)) (grouped names l) ∙ agent_symbols names (numbered_wires l.agents) (length (numbered_wires l.agents)) l.rings (free_wires names l.frees) l.agents
