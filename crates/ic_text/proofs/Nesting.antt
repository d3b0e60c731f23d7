-- No symbol stands within the parentheses of two others in a printed text.
use Rattle.std.proofs.Common.{◌≡◌, ℕ, zero, suc, ◌+◌, ◌≤◌, Bool, true, false, cond, List, [], ◌∷◌, ◌++◌, length, map, refl, arith, append_assoc, count_by}
use Rattle.std.proofs.lemmas.List.Recursion.{is_count_by}
use Rattle.ic_name.specs.declared.kinds.Kind.{Kind}
use Rattle.ic_name.specs.declared.kinds.Kind.TheVariants.{Gamma, Delta, Eps}
use Rattle.ic_name.specs.declared.ports.Port.{Port}
use Rattle.ic_name.specs.declared.rules.Profile.{Profile}
use Rattle.ic_name.specs.declared.rules.Profile.TheVariants.{Classic, Straight}
use Rattle.ic_theory.specs.Listed.{NetAgent, ListedNet}
use Rattle.ic_text.specs.Tokens.{Token, name, equals, semicolon}
use Rattle.ic_text.specs.Grammar.{Equation, spell, equation_tokens, heading, text_of}
use Rattle.ic_text.specs.Faults.{is_fork, is_closing, depth}
use Rattle.ic_text.specs.NetText.{port_label, free_wires, numbered, numbered_wires}
use Rattle.ic_text.specs.Printed.{term_of, agent_equation, free_equation, ring_equations, printed_equations}

-- behind f symbols with arguments and c ends of arguments, at most one is open at each place of the tokens
abbrev IsShallow : ℕ → ℕ → List Token → Type 0
IsShallow f c [] = f ≤ c + 1
IsShallow f c (t ∷ ts) = (f ≤ c + 1) × IsShallow (f + cond (is_fork t) 1 0) (c + cond (is_closing t) 1 0) ts

-- tokens behind which none is open
abbrev IsClosed : List Token → Type 0
IsClosed ts = (f c : ℕ) → f ≤ c → IsShallow f c ts

-- an agent's line
closed_line : (label : ℕ → List ℕ) (k : Kind) (ts : List Token) → IsClosed ts → IsClosed (spell (term_of label k) (equals ∷ name (label 0) ∷ semicolon ∷ ts))
closed_line label Gamma ts h f c le = (omega arith, (omega arith, (omega arith, (omega arith, (omega arith, (omega arith, (omega arith, (omega arith, (omega arith, h _ _ (omega arith))))))))))
closed_line label Delta ts h f c le = (omega arith, (omega arith, (omega arith, (omega arith, (omega arith, (omega arith, (omega arith, (omega arith, (omega arith, h _ _ (omega arith))))))))))
closed_line label Eps ts h f c le = (omega arith, (omega arith, (omega arith, (omega arith, h _ _ (omega arith)))))

-- a line of two names
closed_names : (x y : List ℕ) (ts : List Token) → IsClosed ts → IsClosed (name x ∷ equals ∷ name y ∷ semicolon ∷ ts)
closed_names x y ts h f c le = (omega arith, (omega arith, (omega arith, (omega arith, h _ _ (omega arith)))))

-- all lines
closed_agents : (names : List (List ℕ)) (ws : List Port) (as' : List NetAgent) (fs : List Equation) → IsClosed (equation_tokens fs) → IsClosed (equation_tokens (map (agent_equation names ws) as' ++ fs))
closed_agents names ws [] fs h = h
closed_agents names ws (a ∷ as') fs h = closed_line (port_label names ws a) a.kind _ (closed_agents names ws as' fs h)

closed_frees : (es : List (List ℕ × List ℕ)) (fs : List Equation) → IsClosed (equation_tokens fs) → IsClosed (equation_tokens (map free_equation es ++ fs))
closed_frees [] fs h = h
closed_frees (x ∷ es) fs h = closed_names x.0 x.1 _ (closed_frees es fs h)

closed_rings : (k n : ℕ) → IsClosed (equation_tokens (ring_equations k n))
closed_rings k zero = λ f c le. omega arith
closed_rings k (suc n) = closed_names (numbered k) (numbered k) _ (closed_rings (k + 1) n)

closed_text : (names : List (List ℕ)) (l : ListedNet) → IsClosed (equation_tokens (printed_equations names l))
closed_text names l =
    let ws = numbered_wires l.agents in
    let pairs : List (List ℕ × List ℕ) = free_wires names l.frees in
    rw (append_assoc (map (agent_equation names ws) l.agents) (map free_equation pairs) (ring_equations (length ws) l.rings))
    (closed_agents names ws l.agents (map free_equation pairs ++ ring_equations (length ws) l.rings) (closed_frees pairs (ring_equations (length ws) l.rings) (closed_rings (length ws) l.rings)))

-- behind the profile
closed_heading : (p : Profile) (ts : List Token) → IsClosed ts → IsClosed (heading p ts)
closed_heading Classic ts h = h
closed_heading Straight ts h = λ f c le. (omega arith, (omega arith, h _ _ (omega arith)))

-- how many tokens pass a test
abbrev passing : (Token → Bool) → List Token → ℕ
passing p [] = 0
passing p (t ∷ ts) = cond (p t) 1 0 + passing p ts

passing_is : (p : Token → Bool) (ts : List Token) → passing p ts ≡ count_by p ts
passing_is p ts = is_count_by (passing p) p refl (λ t us. by_test (p t) (passing p us)) ts
  where
    by_test : (b : Bool) (n : ℕ) → cond b 1 0 + n ≡ cond b (1 + n) n
    by_test true n = refl
    by_test false n = omega arith

-- how many are open behind a front
shallow_front : (front rest : List Token) (f c : ℕ) → IsShallow f c (front ++ rest) → f + passing is_fork front ≤ (c + passing is_closing front) + 1
shallow_front [] [] f c h = omega arith
shallow_front [] (t ∷ rest) f c h = omega (arith, h.0)
shallow_front (t ∷ front) rest f c h = omega (arith, shallow_front front rest (f + cond (is_fork t) 1 0) (c + cond (is_closing t) 1 0) h.1)

-- at most one, at each place of a printed text
pub shallow : (names : List (List ℕ)) (l : ListedNet) (front rest : List Token) → text_of l.profile (printed_equations names l) ≡ front ++ rest → depth front ≤ 1
shallow names l front rest e =
    let all : IsShallow 0 0 (text_of l.profile (printed_equations names l)) = closed_heading l.profile (equation_tokens (printed_equations names l)) (closed_text names l) 0 0 (omega arith) in
    let few = shallow_front front rest 0 0 (rw e at all) in
    let forks = passing_is is_fork front in
    let ends = passing_is is_closing front in
    omega arith
