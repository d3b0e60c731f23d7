-- The tokens of a printed text are those of its equations.
use Rattle.std.proofs.Common.{◌≡◌, ℕ, zero, suc, ◌+◌, List, [], ◌∷◌, ◌++◌, length, map, flat_map, refl, sym, ap, ◌∙◌, codes, append_assoc}
use Rattle.std.specs.List.{AllByRecursion}
use Rattle.ic_name.specs.declared.kinds.Kind.{Kind}
use Rattle.ic_name.specs.declared.kinds.Kind.TheVariants.{Gamma, Delta, Eps}
use Rattle.ic_name.specs.declared.ports.Port.{Port}
use Rattle.ic_theory.specs.Listed.{NetAgent, ListedNet, wires_of}
use Rattle.ic_text.specs.Tokens.{symbol, name, opening, closing, comma, equals, semicolon, between}
use Rattle.ic_text.specs.Grammar.{Equation, spell, equation_tokens, heading, text_of, tokens}
use Rattle.ic_text.specs.NetText.{name_text, shown_ports, port_label, letter, arguments, agent_line, free_line, free_wires, numbered, numbered_wires, ring_lines, header, profile_line, net_text}
use Rattle.ic_text.specs.Printed.{term_of, agent_equation, free_equation, ring_equations, printed_equations}
use Rattle.ic_text.specs.Printable.{IsPrintable}
use Rattle.ic_text.proofs.Spelled.{spelled, spelled_is, IsNameText, numbered_is_name, header_spelled, profile_spelled, equals_spelled, line_spelled, eps_spelled, gamma_spelled, delta_spelled}
use Rattle.ic_text.proofs.ShownPorts.{free_is_name, labels_are_names}
use Rattle.ic_text.proofs.FreePairs.{each_free_text}

-- five lists in a row
five : (a b c d e : List ℕ) → a ++ b ++ c ++ d ++ e ≡ a ++ (b ++ (c ++ (d ++ e)))
five a b c d e = simp append_assoc refl

-- the line of an agent, by its kind
kind_spelled : (names : List (List ℕ)) (ws : List Port) (a : NetAgent) (k : Kind) (rest : List ℕ) → AllByRecursion (λ i. IsNameText (port_label names ws a i)) (shown_ports k)
    → spelled between ((letter k ++ arguments names ws a k ++ codes " = " ++ port_label names ws a 0 ++ codes ";\n") ++ rest)
    ≡ spell (term_of (port_label names ws a) k) (equals ∷ name (port_label names ws a 0) ∷ semicolon ∷ spelled between rest)
kind_spelled names ws a Gamma rest h =
    let x = port_label names ws a 1 in
    let y = port_label names ws a 2 in
    let z = port_label names ws a 0 in
    let e : (codes "G" ++ (codes "(" ++ x ++ codes "," ++ y ++ codes ")") ++ codes " = " ++ z ++ codes ";\n") ++ rest ≡ codes "G" ++ (codes "(" ++ (x ++ (codes "," ++ (y ++ (codes ")" ++ (codes " = " ++ (z ++ (codes ";\n" ++ rest)))))))) = simp append_assoc refl in
    ap (spelled between) e
    ∙ gamma_spelled x y (z ++ (codes ";\n" ++ rest)) h.0 h.1.0
    ∙ ap (λ ts. symbol Gamma ∷ opening ∷ name x ∷ comma ∷ name y ∷ closing ∷ equals ∷ ts) (line_spelled z rest h.1.1.0)
kind_spelled names ws a Delta rest h =
    let x = port_label names ws a 1 in
    let y = port_label names ws a 2 in
    let z = port_label names ws a 0 in
    let e : (codes "D" ++ (codes "(" ++ x ++ codes "," ++ y ++ codes ")") ++ codes " = " ++ z ++ codes ";\n") ++ rest ≡ codes "D" ++ (codes "(" ++ (x ++ (codes "," ++ (y ++ (codes ")" ++ (codes " = " ++ (z ++ (codes ";\n" ++ rest)))))))) = simp append_assoc refl in
    ap (spelled between) e
    ∙ delta_spelled x y (z ++ (codes ";\n" ++ rest)) h.0 h.1.0
    ∙ ap (λ ts. symbol Delta ∷ opening ∷ name x ∷ comma ∷ name y ∷ closing ∷ equals ∷ ts) (line_spelled z rest h.1.1.0)
kind_spelled names ws a Eps rest h =
    let z = port_label names ws a 0 in
    let e : (codes "E" ++ [] ++ codes " = " ++ z ++ codes ";\n") ++ rest ≡ codes "E" ++ (codes " = " ++ (z ++ (codes ";\n" ++ rest))) = simp append_assoc refl in
    ap (spelled between) e
    ∙ eps_spelled (z ++ (codes ";\n" ++ rest))
    ∙ ap (λ ts. symbol Eps ∷ equals ∷ ts) (line_spelled z rest h.0)

-- the lines of agents, before what follows them
agents_spelled : (names : List (List ℕ)) (ws : List Port) (as' : List NetAgent) (fs : List Equation) (rest : List ℕ) → AllByRecursion (λ a. AllByRecursion (λ i. IsNameText (port_label names ws a i)) (shown_ports a.kind)) as'
    → spelled between rest ≡ equation_tokens fs → spelled between (flat_map (agent_line names ws) as' ++ rest) ≡ equation_tokens (map (agent_equation names ws) as' ++ fs)
agents_spelled names ws [] fs rest h e = e
agents_spelled names ws (a ∷ as') fs rest h e =
    ap (spelled between) (append_assoc (agent_line names ws a) (flat_map (agent_line names ws) as') rest)
    ∙ kind_spelled names ws a a.kind (flat_map (agent_line names ws) as' ++ rest) h.0
    ∙ ap (λ ts. spell (term_of (port_label names ws a) a.kind) (equals ∷ name (port_label names ws a 0) ∷ semicolon ∷ ts)) (agents_spelled names ws as' fs rest h.1 e)

-- the lines of wires between free names
frees_spelled : (es : List (List ℕ × List ℕ)) (fs : List Equation) (rest : List ℕ) → AllByRecursion (λ x. IsNameText x.0 × IsNameText x.1) es → spelled between rest ≡ equation_tokens fs
    → spelled between (flat_map free_line es ++ rest) ≡ equation_tokens (map free_equation es ++ fs)
frees_spelled [] fs rest h e = e
frees_spelled (x ∷ es) fs rest h e =
    let more : List ℕ = flat_map free_line es ++ rest in
    let parts : (free_line x ++ flat_map free_line es) ++ rest ≡ x.0 ++ (codes " = " ++ (x.1 ++ (codes ";\n" ++ more))) = simp append_assoc refl in
    ap (spelled between) parts
    ∙ equals_spelled x.0 (x.1 ++ (codes ";\n" ++ more)) h.0.0
    ∙ ap (λ ts. name x.0 ∷ equals ∷ ts) (line_spelled x.1 more h.0.1)
    ∙ ap (λ ts. name x.0 ∷ equals ∷ name x.1 ∷ semicolon ∷ ts) (frees_spelled es fs rest h.1 e)

-- the lines of rings
rings_spelled : (k n : ℕ) → spelled between (ring_lines k n) ≡ equation_tokens (ring_equations k n)
rings_spelled k zero = refl
rings_spelled k (suc n) =
    let x = numbered k in
    let more : List ℕ = ring_lines (k + 1) n in
    let parts : ring_lines k (suc n) ≡ x ++ (codes " = " ++ (x ++ (codes ";\n" ++ more))) = five x (codes " = ") x (codes ";\n") more in
    ap (spelled between) parts
    ∙ equals_spelled x (x ++ (codes ";\n" ++ more)) (numbered_is_name k)
    ∙ ap (λ ts. name x ∷ equals ∷ ts) (line_spelled x more (numbered_is_name k))
    ∙ ap (λ ts. name x ∷ equals ∷ name x ∷ semicolon ∷ ts) (rings_spelled (k + 1) n)

-- a printed text spells its profile and its equations
pub printed_tokens : (names : List (List ℕ)) (l : ListedNet) → IsPrintable names l → tokens (net_text names l) ≡ text_of l.profile (printed_equations names l)
printed_tokens names l h =
    let ws = numbered_wires l.agents in
    let rings : List ℕ = ring_lines (length ws) l.rings in
    let frees : List ℕ = flat_map free_line (free_wires names l.frees) in
    let agents : List ℕ = flat_map (agent_line names ws) l.agents in
    let first : List ℕ = header (length l.agents) (wires_of l) l.rings in
    let parts : net_text names l ≡ first ++ (profile_line l.profile ++ (agents ++ (frees ++ rings))) = five first (profile_line l.profile) agents frees rings in
    let equations : printed_equations names l ≡ map (agent_equation names ws) l.agents ++ (map free_equation (free_wires names l.frees) ++ ring_equations (length ws) l.rings) = append_assoc (map (agent_equation names ws) l.agents) (map free_equation (free_wires names l.frees)) (ring_equations (length ws) l.rings) in
    let free_names = each_free_text names l h IsNameText (λ j m e. free_is_name (name_text names j) (h.free j (rw e refl))) in
    let behind = frees_spelled (free_wires names l.frees) (ring_equations (length ws) l.rings) rings free_names (rings_spelled (length ws) l.rings) in
    let lines = agents_spelled names ws l.agents (map free_equation (free_wires names l.frees) ++ ring_equations (length ws) l.rings) (frees ++ rings) (labels_are_names names l h) behind in
    spelled_is between 0 (net_text names l)
    ∙ ap (spelled between) parts
    ∙ header_spelled (length l.agents) (wires_of l) l.rings (profile_line l.profile ++ (agents ++ (frees ++ rings)))
    ∙ profile_spelled l.profile (agents ++ (frees ++ rings))
    ∙ ap (heading l.profile) (lines ∙ ap equation_tokens (sym equations))
