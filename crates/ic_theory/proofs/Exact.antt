-- How many link ends a port has, exactly.
use Rattle.std.proofs.Common.{◌≡◌, ℕ, suc, zero, ◌+◌, Bool, true, false, List, [], ◌∷◌, ◌++◌, refl, arith, Option, Some}
use Rattle.std.specs.Prelude.{if◌then◌else◌, ◌&&◌, eqb, leb}
use Rattle.std.proofs.lemmas.Bool.{ne_eqb, le-leb, lt-leb}
use Rattle.ic_name.specs.Names.{Name}
use Rattle.ic_name.specs.declared.kinds.Kind.{Kind}
use Rattle.ic_name.specs.declared.kinds.Kind.TheVariants.{Gamma, Delta, Eps}
use Rattle.ic_name.specs.declared.rules.Profile.{Profile}
use Rattle.ic_name.specs.declared.rules.Profile.TheVariants.{Classic, Straight}
use Rattle.ic_name.specs.declared.ports.Port.TheVariants.{Of}
use Rattle.ic_name.specs.Events.{Event}
use Rattle.ic_path.specs.Links.{degree}
use Rattle.ic_name.specs.Same.{same_name}
use Rattle.ic_name.specs.Kinds.{arity}
use Rattle.ic_name.specs.Names.{child_name}
use Rattle.ic_theory.specs.Born.{placed, named, born_agents, born_links}
use Rattle.ic_theory.specs.Rules.{born_kinds, born_ends}
use Rattle.ic_theory.specs.Starts.{Start, net_shape, port_times, IsProper}
use Rattle.ic_theory.specs.Sets.{agents, links}
use Rattle.ic_theory.proofs.Counts.{one_if, over, rule_ports, degree-append}

-- the ports of this number that the agents of the name have, asked by number first
abbrev ports_times : Name → ℕ → List (Name × Kind) → ℕ
ports_times n i [] = 0
ports_times n i (x ∷ xs) = (if leb i (arity x.1) then one_if (same_name n x.0) else 0) + ports_times n i xs

-- the port is an auxiliary one of this kind
abbrev pub is_auxiliary : ℕ → Kind → Bool
is_auxiliary i k = leb 1 i && leb i (arity k)

-- how often an event consumes an agent of the name that has the auxiliary port
abbrev pub joints_by : Name → ℕ → Kind → Kind → Event → ℕ
joints_by n i ka kb e = (if is_auxiliary i ka then one_if (same_name n e.lead) else 0) + (if is_auxiliary i kb then one_if (same_name n e.other) else 0)

-- and the events
abbrev pub joints_times : Name → ℕ → List Event → ℕ
joints_times n i [] = 0
joints_times n i (e ∷ es) = joints_by n i e.lead_kind e.other_kind e + joints_times n i es

-- a number above 2 is not up to 2
above2 : (i : ℕ) → leb (suc (suc (suc i))) 2 ≡ false
above2 i = lt-leb (suc (suc (suc i))) 2 (omega arith)

-- a number above 0 is not up to 0
above0 : (i : ℕ) → leb (suc i) 0 ≡ false
above0 i = lt-leb (suc i) 0 (omega arith)

-- of a port up to 2 there is one end at ports 0, 1 and 2
three : (i : ℕ) (b : Bool) → one_if (eqb i 0 && b) + one_if (eqb i 1 && b) + one_if (eqb i 2 && b) ≡ (if leb i 2 then one_if b else 0)
three zero b = omega arith
three (suc zero) b = omega arith
three (suc (suc zero)) b = omega arith
three (suc (suc (suc i))) b = rw (over i 0 (omega arith), over i 1 (omega arith), over i 2 (omega arith), above2 i) (omega arith)

-- of port 0 there is one end at port 0
one : (i : ℕ) (b : Bool) → one_if (eqb i 0 && b) ≡ (if leb i 0 then one_if b else 0)
one zero b = refl
one (suc i) b = let z : eqb (suc i) 0 ≡ false = ne_eqb (suc i) 0 (λ e. omega arith) in rw (z, above0 i) refl

-- of an auxiliary port up to 2 there is one end at ports 1 and 2
two : (i : ℕ) (b : Bool) → one_if (eqb i 1 && b) + one_if (eqb i 2 && b) ≡ (if leb 1 i && leb i 2 then one_if b else 0)
two zero b = omega arith
two (suc zero) b = omega arith
two (suc (suc zero)) b = omega arith
two (suc (suc (suc i))) b = let l : leb 1 (suc (suc (suc i))) ≡ true = le-leb 1 (suc (suc (suc i))) (omega arith) in rw (over i 1 (omega arith), over i 2 (omega arith), above2 i, l) (omega arith)

-- an epsilon has no auxiliary port
no_aux : (i : ℕ) (b : Bool) → (if leb 1 i && leb i 0 then one_if b else 0) ≡ 0
no_aux zero b = refl
no_aux (suc i) b = let l : leb 1 (suc i) ≡ true = le-leb 1 (suc i) (omega arith) in rw (l, above0 i) refl

-- how many ends each rule makes at a port, by its kinds
rule_exact : (m : Option Event) (v : Profile) (ka kb : Kind) (e : Event) (x : Name) (i : ℕ)
    → degree net_shape (placed m 0 (rule_ports e (born_ends v ka kb))) (Of x i) ≡ ports_times x i (named (child_name e.lead) 0 (born_kinds ka kb)) + joints_by x i ka kb e
rule_exact m v ka kb e x i = go v ka kb
  where
    l2 : one_if (eqb i 1 && same_name x e.lead) + one_if (eqb i 2 && same_name x e.lead) ≡ (if leb 1 i && leb i 2 then one_if (same_name x e.lead) else 0)
    l2 = two i (same_name x e.lead)

    o2 : one_if (eqb i 1 && same_name x e.other) + one_if (eqb i 2 && same_name x e.other) ≡ (if leb 1 i && leb i 2 then one_if (same_name x e.other) else 0)
    o2 = two i (same_name x e.other)

    l0 : (if leb 1 i && leb i 0 then one_if (same_name x e.lead) else 0) ≡ 0
    l0 = no_aux i (same_name x e.lead)

    o0 : (if leb 1 i && leb i 0 then one_if (same_name x e.other) else 0) ≡ 0
    o0 = no_aux i (same_name x e.other)

    c3 : (j : ℕ) → one_if (eqb i 0 && same_name x (child_name e.lead j)) + one_if (eqb i 1 && same_name x (child_name e.lead j)) + one_if (eqb i 2 && same_name x (child_name e.lead j)) ≡ (if leb i 2 then one_if (same_name x (child_name e.lead j)) else 0)
    c3 j = three i (same_name x (child_name e.lead j))

    c1 : (j : ℕ) → one_if (eqb i 0 && same_name x (child_name e.lead j)) ≡ (if leb i 0 then one_if (same_name x (child_name e.lead j)) else 0)
    c1 j = one i (same_name x (child_name e.lead j))

    go : (v : Profile) (ka kb : Kind) → degree net_shape (placed m 0 (rule_ports e (born_ends v ka kb))) (Of x i) ≡ ports_times x i (named (child_name e.lead) 0 (born_kinds ka kb)) + joints_by x i ka kb e
    go v Gamma Delta = let a = c3 0 in let b = c3 1 in let c = c3 2 in let d = c3 3 in omega (arith, l2, o2)
    go v Delta Gamma = let a = c3 0 in let b = c3 1 in let c = c3 2 in let d = c3 3 in omega (arith, l2, o2)
    go v Gamma Eps = let a = c1 0 in let b = c1 1 in omega (arith, l2, o0)
    go v Delta Eps = let a = c1 0 in let b = c1 1 in omega (arith, l2, o0)
    go v Eps Gamma = let a = c1 0 in let b = c1 1 in omega (arith, l0, o2)
    go v Eps Delta = let a = c1 0 in let b = c1 1 in omega (arith, l0, o2)
    go Classic Gamma Gamma = omega (arith, l2, o2)
    go Straight Gamma Gamma = omega (arith, l2, o2)
    go v Delta Delta = omega (arith, l2, o2)
    go v Eps Eps = omega (arith, l0, o0)

-- two tests may be asked in either order
either_order : (b c : Bool) → (if b && c then 1 else 0) ≡ (if c then one_if b else 0)
either_order true true = refl
either_order true false = refl
either_order false true = refl
either_order false false = refl

-- so may number and name of a port
asked : (n : Name) (i : ℕ) (xs : List (Name × Kind)) → port_times n i xs ≡ ports_times n i xs
asked n i [] = refl
asked n i (x ∷ xs) = let ih = asked n i xs in let h = either_order (same_name n x.0) (leb i (arity x.1)) in omega arith

-- the agents with a port are those of both parts of a list
port_times-append : (n : Name) (i : ℕ) (xs ys : List (Name × Kind)) → port_times n i (xs ++ ys) ≡ port_times n i xs + port_times n i ys
port_times-append n i [] ys = omega arith
port_times-append n i (x ∷ xs) ys = let ih = port_times-append n i xs ys in omega arith

-- how many ends a rule makes at a port: one at each of a child's, and one at each auxiliary port of the pair
pub rule_ends : (m : Option Event) (v : Profile) (e : Event) (x : Name) (i : ℕ)
    → degree net_shape (placed m 0 (rule_ports e (born_ends v e.lead_kind e.other_kind))) (Of x i) ≡ port_times x i (born_agents e) + joints_by x i e.lead_kind e.other_kind e
rule_ends m v e x i = let r = rule_exact m v e.lead_kind e.other_kind e x i in let a = asked x i (born_agents e) in omega arith

-- a port of an agent that is there has one link end, and one more where it is a joint
pub exact_degree : (s : Start) → IsProper s → (es : List Event) (x : Name) (i : ℕ) → degree net_shape (links s es) (Of x i) ≡ port_times x i (agents s es) + joints_times x i es
exact_degree s ok [] x i = let h = ok.agent_ports x i in omega arith
exact_degree s ok (e ∷ es) x i =
    let ih = exact_degree s ok es x i in
    let d = degree-append net_shape (born_links s.profile e) (links s es) (Of x i) in
    let n = port_times-append x i (born_agents e) (agents s es) in
    let r = rule_ends (Some e) s.profile e x i in
    omega arith
