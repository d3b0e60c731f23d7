-- The link ends of a text, counted port by port.
use Rattle.std.proofs.Common.{◌≡◌, ℕ, ◌+◌, ◌&&◌, Bool, true, false, cond, List, [], ◌∷◌, Option, refl, ap, arith, eqb, leb}
use Rattle.std.proofs.lemmas.Bool.Decides.{nat_tests}
use Rattle.ic_name.specs.Names.{Name, start_name}
use Rattle.ic_name.specs.Events.{Event}
use Rattle.ic_name.specs.Same.{same_name, same_port}
use Rattle.ic_name.specs.declared.ports.Port.{Port}
use Rattle.ic_name.specs.declared.ports.Port.TheVariants as ports
use Rattle.ic_theory.specs.Links.{degree}
use Rattle.ic_theory.specs.Born.{placed, named as numbered}
use Rattle.ic_theory.specs.Starts.{net_shape, port_times}
use Rattle.ic_text.specs.Tokens.{Token, comma, closing, equals, semicolon}
use Rattle.ic_text.specs.Grammar.{gamma, delta, Term, named, eps, fork, Equation, spell, equation_tokens, symbols, names, port_of, root, behind, links, text_links}

-- 1 for what holds
abbrev one : Bool → ℕ
one b = cond b 1 0

-- 1 where the ports are one
abbrev pub hit : Port → Port → ℕ
hit p q = cond (same_port p q) 1 0

-- how many ends of the pairs are at a port
abbrev pub ends : Port → List (Port × Port) → ℕ
ends p [] = 0
ends p (j ∷ js) = (hit p j.0 + hit p j.1) + ends p js

-- numbering the pairs by place keeps their ends
pub degree_is : (m : Option Event) (k : ℕ) (js : List (Port × Port)) (p : Port) → degree net_shape (placed m k js) p ≡ ends p js
degree_is m k [] p = refl
degree_is m k (j ∷ js) p = ap (λ (n : ℕ). (hit p j.0 + hit p j.1) + n) (degree_is m (k + 1) js p)

-- the one port of a symbol without arguments
one_port : (i : ℕ) (b : Bool) → one (eqb i 0 && b) ≡ one (b && leb i 0)
one_port i true = by_tests (eqb i 0) (leb i 0) refl refl
  where
    by_tests : (p q : Bool) → eqb i 0 ≡ p → leb i 0 ≡ q → one (p && true) ≡ one (true && q)
    by_tests true true e f = refl
    by_tests false false e f = refl
    by_tests true false e f = absurd (grind (arith, nat_tests))
    by_tests false true e f = absurd (grind (arith, nat_tests))
one_port i false = by_test (eqb i 0)
  where
    by_test : (p : Bool) → one (p && false) ≡ 0
    by_test true = refl
    by_test false = refl

-- the three ports of a symbol with two
three_ports : (i : ℕ) (b : Bool) → (one (eqb i 0 && b) + one (eqb i 1 && b)) + one (eqb i 2 && b) ≡ one (b && leb i 2)
three_ports i true = by_tests (eqb i 0) (eqb i 1) (eqb i 2) (leb i 2) refl refl refl refl
  where
    by_tests : (p q r s : Bool) → eqb i 0 ≡ p → eqb i 1 ≡ q → eqb i 2 ≡ r → leb i 2 ≡ s → (one (p && true) + one (q && true)) + one (r && true) ≡ one (true && s)
    by_tests true true r s d e f g = absurd (grind (arith, nat_tests))
    by_tests true q true s d e f g = absurd (grind (arith, nat_tests))
    by_tests p true true s d e f g = absurd (grind (arith, nat_tests))
    by_tests true false false true d e f g = refl
    by_tests false true false true d e f g = refl
    by_tests false false true true d e f g = refl
    by_tests false false false false d e f g = refl
    by_tests false false false true d e f g = absurd (grind (arith, nat_tests))
    by_tests true q r false d e f g = absurd (grind (arith, nat_tests))
    by_tests p true r false d e f g = absurd (grind (arith, nat_tests))
    by_tests p q true false d e f g = absurd (grind (arith, nat_tests))
three_ports i false = by_tests (eqb i 0) (eqb i 1) (eqb i 2)
  where
    none : (p : Bool) → one (p && false) ≡ 0
    none true = refl
    none false = refl

    by_tests : (p q r : Bool) → (one (p && false) + one (q && false)) + one (r && false) ≡ 0
    by_tests p q r = omega (arith, none p, none q, none r)

-- a term's root and links have an end at a port of each of its symbols that has the port
term_ports : (N : List ℕ → ℕ) (x : Name) (i n : ℕ) (t : Term) (rest : List (Port × Port)) (ts : List Token)
    → (hit (ports.Of x i) (root N n t) + ends (ports.Of x i) (links N n t rest)) + port_times x i (numbered start_name (behind t n) (symbols ts))
    ≡ port_times x i (numbered start_name n (symbols (spell t ts))) + ends (ports.Of x i) rest
term_ports N x i n (named y) rest ts = omega arith
term_ports N x i n eps rest ts = omega (arith, one_port i (same_name x (start_name n)))
term_ports N x i n (fork gamma s t) rest ts =
    let m = behind s (n + 1) in
    let a = term_ports N x i (n + 1) s ((port_of n 2, root N m t) ∷ links N m t rest) (comma ∷ spell t (closing ∷ ts)) in
    let b = term_ports N x i m t rest (closing ∷ ts) in
    omega (arith, a, b, three_ports i (same_name x (start_name n)))
term_ports N x i n (fork delta s t) rest ts =
    let m = behind s (n + 1) in
    let a = term_ports N x i (n + 1) s ((port_of n 2, root N m t) ∷ links N m t rest) (comma ∷ spell t (closing ∷ ts)) in
    let b = term_ports N x i m t rest (closing ∷ ts) in
    omega (arith, a, b, three_ports i (same_name x (start_name n)))

-- the ends at a port of an agent are as many as the agents of this name that have the port
pub text_ports : (N : List ℕ → ℕ) (x : Name) (i n : ℕ) (es : List Equation) → ends (ports.Of x i) (text_links N n es) ≡ port_times x i (numbered start_name n (symbols (equation_tokens es)))
text_ports N x i n [] = refl
text_ports N x i n (e ∷ es) =
    let m = behind e.left n in
    let k = behind e.right m in
    let a = term_ports N x i n e.left ((root N n e.left, root N m e.right) ∷ links N m e.right (text_links N k es)) (equals ∷ spell e.right (semicolon ∷ equation_tokens es)) in
    let b = term_ports N x i m e.right (text_links N k es) (semicolon ∷ equation_tokens es) in
    omega (arith, a, b, text_ports N x i k es)

-- how often names with the number j occur
abbrev pub told : (List ℕ → ℕ) → ℕ → List (List ℕ) → ℕ
told N j [] = 0
told N j (x ∷ xs) = cond (eqb j (N x)) 1 0 + told N j xs

-- a term's root and links have an end for each occurrence of a name in it
term_names : (N : List ℕ → ℕ) (j n : ℕ) (t : Term) (rest : List (Port × Port)) (ts : List Token)
    → (hit (ports.Name j) (root N n t) + ends (ports.Name j) (links N n t rest)) + told N j (names ts)
    ≡ told N j (names (spell t ts)) + ends (ports.Name j) rest
term_names N j n (named y) rest ts = omega arith
term_names N j n eps rest ts = omega arith
term_names N j n (fork f s t) rest ts =
    let m = behind s (n + 1) in
    let a = term_names N j (n + 1) s ((port_of n 2, root N m t) ∷ links N m t rest) (comma ∷ spell t (closing ∷ ts)) in
    let b = term_names N j m t rest (closing ∷ ts) in
    omega (arith, a, b)

-- the ends at a name are as many as its occurrences
pub text_names : (N : List ℕ → ℕ) (j n : ℕ) (es : List Equation) → ends (ports.Name j) (text_links N n es) ≡ told N j (names (equation_tokens es))
text_names N j n [] = refl
text_names N j n (e ∷ es) =
    let m = behind e.left n in
    let k = behind e.right m in
    let a = term_names N j n e.left ((root N n e.left, root N m e.right) ∷ links N m e.right (text_links N k es)) (equals ∷ spell e.right (semicolon ∷ equation_tokens es)) in
    let b = term_names N j m e.right (text_links N k es) (semicolon ∷ equation_tokens es) in
    omega (arith, a, b, text_names N j k es)
