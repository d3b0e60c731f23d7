-- The names of a printed text, in order: the labels of the ports, the free names of wires between two, the numbers of rings.
use Rattle.std.proofs.Common.{◌≡◌, ℕ, zero, suc, ◌+◌, List, [], ◌∷◌, ◌++◌, length, map, refl, ap, ◌∙◌, append_assoc}
use Rattle.std.specs.List.{AllByRecursion}
use Rattle.ic_name.specs.declared.kinds.Kind.{Kind}
use Rattle.ic_name.specs.declared.kinds.Kind.TheVariants.{Gamma, Delta, Eps}
use Rattle.ic_name.specs.declared.ports.Port.{Port}
use Rattle.ic_name.specs.declared.ports.Port.TheVariants.{Of}
use Rattle.ic_theory.specs.Listed.{NetAgent, ListedNet, IsListing}
use Rattle.ic_text.specs.Tokens.{name, equals, semicolon}
use Rattle.ic_text.specs.Grammar.{Equation, spell, equation_tokens, names as names_of}
use Rattle.ic_text.specs.NetText.{shown_ports, port_label, free_wires, numbered, numbered_wires}
use Rattle.ic_text.specs.Printed.{term_of, agent_equation, free_equation, ring_equations, printed_equations}
use Rattle.ic_text.proofs.ShownPorts.{all_ports, label_at, labels_shown}

-- the two texts of each wire
abbrev pub pair_names : List (List ℕ × List ℕ) → List (List ℕ)
pair_names [] = []
pair_names (x ∷ xs) = x.0 ∷ x.1 ∷ pair_names xs

-- the texts of n rings, numbered from k on
abbrev pub ring_names : ℕ → ℕ → List (List ℕ)
ring_names k zero = []
ring_names k (suc n) = numbered k ∷ numbered k ∷ ring_names (k + 1) n

-- the names in the lines of agents, before what follows them
agents_named : (names : List (List ℕ)) (ws : List Port) (f : Port → List ℕ) (as' : List NetAgent) (fs : List Equation) → AllByRecursion (λ a. AllByRecursion (λ i. port_label names ws a i ≡ f (Of a.name i)) (shown_ports a.kind)) as'
    → names_of (equation_tokens (map (agent_equation names ws) as' ++ fs)) ≡ map f (all_ports as') ++ names_of (equation_tokens fs)
agents_named names ws f [] fs h = refl
agents_named names ws f (a ∷ as') fs h = by_kind a.kind h.0 (agents_named names ws f as' fs h.1)
  where
    by_kind : (k : Kind) → AllByRecursion (λ i. port_label names ws a i ≡ f (Of a.name i)) (shown_ports k)
        → names_of (equation_tokens (map (agent_equation names ws) as' ++ fs)) ≡ map f (all_ports as') ++ names_of (equation_tokens fs)
        → names_of (spell (term_of (port_label names ws a) k) (equals ∷ name (port_label names ws a 0) ∷ semicolon ∷ equation_tokens (map (agent_equation names ws) as' ++ fs)))
        ≡ map f (map (λ i. Of a.name i) (shown_ports k) ++ all_ports as') ++ names_of (equation_tokens fs)
    by_kind Gamma k ih = λ u. k.0 u ∷ k.1.0 u ∷ k.1.1.0 u ∷ ih u
    by_kind Delta k ih = λ u. k.0 u ∷ k.1.0 u ∷ k.1.1.0 u ∷ ih u
    by_kind Eps k ih = λ u. k.0 u ∷ ih u

-- those in the lines of wires between free names
frees_named : (es : List (List ℕ × List ℕ)) (fs : List Equation) → names_of (equation_tokens (map free_equation es ++ fs)) ≡ pair_names es ++ names_of (equation_tokens fs)
frees_named [] fs = refl
frees_named (x ∷ es) fs = ap (λ xs. x.0 ∷ x.1 ∷ xs) (frees_named es fs)

-- those in the lines of rings
rings_named : (k n : ℕ) → names_of (equation_tokens (ring_equations k n)) ≡ ring_names k n
rings_named k zero = refl
rings_named k (suc n) = ap (λ xs. numbered k ∷ numbered k ∷ xs) (rings_named (k + 1) n)

-- all of them
pub text_names : (names : List (List ℕ)) (l : ListedNet) → IsListing l
    → names_of (equation_tokens (printed_equations names l)) ≡ map (label_at names l) (all_ports l.agents) ++ (pair_names (free_wires names l.frees) ++ ring_names (length (numbered_wires l.agents)) l.rings)
text_names names l h =
    let ws = numbered_wires l.agents in
    let pairs : List (List ℕ × List ℕ) = free_wires names l.frees in
    let rings : List Equation = ring_equations (length ws) l.rings in
    let parts : printed_equations names l ≡ map (agent_equation names ws) l.agents ++ (map free_equation pairs ++ rings) = append_assoc (map (agent_equation names ws) l.agents) (map free_equation pairs) rings in
    ap (λ es. names_of (equation_tokens es)) parts
    ∙ agents_named names ws (label_at names l) l.agents (map free_equation pairs ++ rings) (labels_shown names l h)
    ∙ ap (λ xs. map (label_at names l) (all_ports l.agents) ++ xs) (frees_named pairs rings ∙ ap (λ xs. pair_names pairs ++ xs) (rings_named (length ws) l.rings))
