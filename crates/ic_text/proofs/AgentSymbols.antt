-- The symbols of a printed text are the kinds of the agents.
use Rattle.std.proofs.Common.{◌≡◌, ℕ, zero, suc, ◌+◌, List, [], ◌∷◌, ◌++◌, length, map, refl, ap, ◌∙◌, arith, append_assoc, length-append}
use Rattle.std.proofs.lemmas.List.{length-map}
use Rattle.ic_name.specs.declared.kinds.Kind.{Kind}
use Rattle.ic_name.specs.declared.kinds.Kind.TheVariants.{Gamma, Delta, Eps}
use Rattle.ic_name.specs.declared.ports.Port.{Port}
use Rattle.ic_theory.specs.Listed.{NetAgent, ListedNet}
use Rattle.ic_text.specs.Tokens.{name, equals, semicolon}
use Rattle.ic_text.specs.Grammar.{Equation, spell, equation_tokens, symbols}
use Rattle.ic_text.specs.NetText.{port_label, free_wires, numbered_wires}
use Rattle.ic_text.specs.Printed.{term_of, agent_equation, free_equation, ring_equations, printed_equations}

-- the symbols of the text are the kinds of the agents
agents_kinds : (names : List (List ℕ)) (ws : List Port) (as' : List NetAgent) (fs : List Equation) → symbols (equation_tokens (map (agent_equation names ws) as' ++ fs)) ≡ map (λ (a : NetAgent). a.kind) as' ++ symbols (equation_tokens fs)
agents_kinds names ws [] fs = refl
agents_kinds names ws (a ∷ as') fs = by_kind a.kind (agents_kinds names ws as' fs)
  where
    by_kind : (k : Kind) → symbols (equation_tokens (map (agent_equation names ws) as' ++ fs)) ≡ map (λ (b : NetAgent). b.kind) as' ++ symbols (equation_tokens fs)
        → symbols (spell (term_of (port_label names ws a) k) (equals ∷ name (port_label names ws a 0) ∷ semicolon ∷ equation_tokens (map (agent_equation names ws) as' ++ fs))) ≡ k ∷ (map (λ (b : NetAgent). b.kind) as' ++ symbols (equation_tokens fs))
    by_kind Gamma ih = ap (λ ks. Gamma ∷ ks) ih
    by_kind Delta ih = ap (λ ks. Delta ∷ ks) ih
    by_kind Eps ih = ap (λ ks. Eps ∷ ks) ih

frees_kinds : (es : List (List ℕ × List ℕ)) (fs : List Equation) → symbols (equation_tokens (map free_equation es ++ fs)) ≡ symbols (equation_tokens fs)
frees_kinds [] fs = refl
frees_kinds (x ∷ es) fs = frees_kinds es fs

rings_kinds : (k n : ℕ) → symbols (equation_tokens (ring_equations k n)) ≡ []
rings_kinds k zero = refl
rings_kinds k (suc n) = rings_kinds (k + 1) n

-- so they are as many as the agents
pub symbols_count : (names : List (List ℕ)) (l : ListedNet) → length (symbols (equation_tokens (printed_equations names l))) ≡ length l.agents
symbols_count names l =
    let ws = numbered_wires l.agents in
    let pairs : List (List ℕ × List ℕ) = free_wires names l.frees in
    let rings : List Equation = ring_equations (length ws) l.rings in
    let kinds : List Kind = map (λ (a : NetAgent). a.kind) l.agents in
    let parts = append_assoc (map (agent_equation names ws) l.agents) (map free_equation pairs) rings in
    let all : symbols (equation_tokens (printed_equations names l)) ≡ kinds ++ [] = ap (λ es. symbols (equation_tokens es)) parts ∙ agents_kinds names ws l.agents (map free_equation pairs ++ rings) ∙ ap (λ ks. kinds ++ ks) (frees_kinds pairs rings ∙ rings_kinds (length ws) l.rings) in
    let one = ap length all in
    let two = length-append kinds [] in
    let three = length-map l.agents (λ (a : NetAgent). a.kind) in
    omega arith
