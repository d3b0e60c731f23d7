-- How many link ends, makers and consumers a name has.
use Rattle.std.proofs.Common.{◌≡◌, ℕ, suc, zero, ◌+◌, ◌≤◌, ◌<◌, Bool, true, false, List, [], ◌∷◌, ◌++◌, map, ◌⊎◌, inl, inr, refl, sym, ap, arith, Option, Some}
use Rattle.std.specs.Prelude.{if◌then◌else◌, ◌&&◌, eqb, leb}
use Rattle.std.proofs.lemmas.Bool.{eqb-true, ne_eqb}
use Rattle.ic_name.specs.Names.{Name}
use Rattle.ic_name.specs.declared.kinds.Kind.{Kind}
use Rattle.ic_name.specs.declared.kinds.Kind.TheVariants.{Gamma, Delta, Eps}
use Rattle.ic_name.specs.declared.rules.Profile.{Profile}
use Rattle.ic_name.specs.declared.rules.Profile.TheVariants.{Classic, Straight}
use Rattle.ic_name.specs.declared.ports.Port.{Port}
use Rattle.ic_name.specs.declared.ports.Port.TheVariants.{Of}
use Rattle.ic_name.specs.declared.ports.Port.TheVariants as port
use Rattle.ic_name.specs.declared.rules.RuleEnd.{RuleEnd}
use Rattle.ic_name.specs.Events.{Event}
use Rattle.ic_path.specs.Links.{Shape, degree, IsSlim}
use Rattle.std.proofs.Math.Bool.{and-true, and-false, and_assoc}
use Rattle.ic_name.specs.Same.{same_digits, same_name}
use Rattle.ic_name.specs.Names.{child_name}
use Rattle.ic_name.specs.Kinds.{arity}
use Rattle.ic_theory.specs.Born.{placed, named, born_agents, born_links, port_of}
use Rattle.ic_theory.specs.Rules.{born_kinds, born_ends}
use Rattle.ic_theory.specs.Starts.{Start, start_agents, start_links, net_shape, port_times, IsProper}
use Rattle.ic_theory.specs.Sets.{agents, links, named_times, consumed_times}

-- 1 where the test is true, else 0
abbrev pub one_if : Bool → ℕ
one_if b = if b then 1 else 0

-- a number above 2 is none of 0, 1 and 2
pub over : (i j : ℕ) → j < 3 → eqb (suc (suc (suc i))) j ≡ false
over i j h = ne_eqb (suc (suc (suc i))) j (λ e. omega arith)

-- the ports of an agent that a rule links are three at most, each once
three_ports : (i : ℕ) (b : Bool) → one_if (eqb i 0 && b) + one_if (eqb i 1 && b) + one_if (eqb i 2 && b) ≤ one_if b
three_ports zero b = omega arith
three_ports (suc zero) b = omega arith
three_ports (suc (suc zero)) b = omega arith
three_ports (suc (suc (suc i))) b = rw (over i 0 (omega arith), over i 1 (omega arith), over i 2 (omega arith)) (omega arith)

-- the auxiliary ones are two at most, each once
two_ports : (i : ℕ) (b : Bool) → one_if (eqb i 1 && b) + one_if (eqb i 2 && b) ≤ (if eqb i 0 then 0 else one_if b)
two_ports zero b = omega arith
two_ports (suc zero) b = omega arith
two_ports (suc (suc zero)) b = omega arith
two_ports (suc (suc (suc i))) b = rw (over i 0 (omega arith), over i 1 (omega arith), over i 2 (omega arith)) (omega arith)

-- how often the event consumes an agent of the name
abbrev pair_times : Name → Event → ℕ
pair_times x e = one_if (same_name x e.lead) + one_if (same_name x e.other)

-- the ports of the rule's ends
abbrev pub rule_ports : Event → List (RuleEnd × RuleEnd) → List (Port × Port)
rule_ports e ends = map (λ (x : RuleEnd × RuleEnd). (port_of e x.0, port_of e x.1)) ends

-- a rule makes at most one link end at each port of a child_name, and at each auxiliary port of the pair
rule_degree : (m : Option Event) (v : Profile) (ka kb : Kind) (e : Event) (x : Name) (i : ℕ)
    → degree net_shape (placed m 0 (rule_ports e (born_ends v ka kb))) (Of x i) ≤ named_times x (named (child_name e.lead) 0 (born_kinds ka kb)) + (if eqb i 0 then 0 else pair_times x e)
rule_degree m v ka kb e x i = go v ka kb
  where
    l2 : one_if (eqb i 1 && same_name x e.lead) + one_if (eqb i 2 && same_name x e.lead) ≤ (if eqb i 0 then 0 else one_if (same_name x e.lead))
    l2 = two_ports i (same_name x e.lead)

    o2 : one_if (eqb i 1 && same_name x e.other) + one_if (eqb i 2 && same_name x e.other) ≤ (if eqb i 0 then 0 else one_if (same_name x e.other))
    o2 = two_ports i (same_name x e.other)

    c3 : (j : ℕ) → one_if (eqb i 0 && same_name x (child_name e.lead j)) + one_if (eqb i 1 && same_name x (child_name e.lead j)) + one_if (eqb i 2 && same_name x (child_name e.lead j)) ≤ one_if (same_name x (child_name e.lead j))
    c3 j = three_ports i (same_name x (child_name e.lead j))

    split : (b : Bool) → (if b then 0 else pair_times x e) ≡ (if b then 0 else one_if (same_name x e.lead)) + (if b then 0 else one_if (same_name x e.other))
    split true = refl
    split false = refl

    go : (v : Profile) (ka kb : Kind) → degree net_shape (placed m 0 (rule_ports e (born_ends v ka kb))) (Of x i) ≤ named_times x (named (child_name e.lead) 0 (born_kinds ka kb)) + (if eqb i 0 then 0 else pair_times x e)
    go v Gamma Delta = let s = split (eqb i 0) in let a = c3 0 in let b = c3 1 in let c = c3 2 in let d = c3 3 in omega (arith, l2, o2)
    go v Delta Gamma = let s = split (eqb i 0) in let a = c3 0 in let b = c3 1 in let c = c3 2 in let d = c3 3 in omega (arith, l2, o2)
    go v Gamma Eps = let s = split (eqb i 0) in let a = c3 0 in let b = c3 1 in omega (arith, l2, o2)
    go v Delta Eps = let s = split (eqb i 0) in let a = c3 0 in let b = c3 1 in omega (arith, l2, o2)
    go v Eps Gamma = let s = split (eqb i 0) in let a = c3 0 in let b = c3 1 in omega (arith, l2, o2)
    go v Eps Delta = let s = split (eqb i 0) in let a = c3 0 in let b = c3 1 in omega (arith, l2, o2)
    go Classic Gamma Gamma = let s = split (eqb i 0) in omega (arith, l2, o2)
    go Straight Gamma Gamma = let s = split (eqb i 0) in omega (arith, l2, o2)
    go v Delta Delta = let s = split (eqb i 0) in omega (arith, l2, o2)
    go v Eps Eps = omega arith

-- and none at a name
pub rule_free : (m : Option Event) (v : Profile) (ka kb : Kind) (e : Event) (j : ℕ) → degree net_shape (placed m 0 (rule_ports e (born_ends v ka kb))) (port.Name j) ≡ 0
rule_free m v Gamma Delta e j = refl
rule_free m v Delta Gamma e j = refl
rule_free m v Gamma Eps e j = refl
rule_free m v Delta Eps e j = refl
rule_free m v Eps Gamma e j = refl
rule_free m v Eps Delta e j = refl
rule_free m Classic Gamma Gamma e j = refl
rule_free m Straight Gamma Gamma e j = refl
rule_free m v Delta Delta e j = refl
rule_free m v Eps Eps e j = refl

-- the ends at a port are those of both parts of a list
pub degree-append : {P L : Type 0} (g : Shape P L) (xs ys : List L) (v : P) → degree g (xs ++ ys) v ≡ degree g xs v + degree g ys v
degree-append g [] ys v = omega arith
degree-append g (x ∷ xs) ys v = let ih = degree-append g xs ys v in omega arith

-- so are the agents of a name
pub named_times-append : (n : Name) (xs ys : List (Name × Kind)) → named_times n (xs ++ ys) ≡ named_times n xs + named_times n ys
named_times-append n [] ys = omega arith
named_times-append n (x ∷ xs) ys = let ih = named_times-append n xs ys in omega arith

-- a sum under a test is the sum of both parts under it
zero_or_sum : (b : Bool) (m n : ℕ) → (if b then 0 else m + n) ≡ (if b then 0 else m) + (if b then 0 else n)
zero_or_sum true m n = refl
zero_or_sum false m n = refl

-- two tests are true less often than one
both_or_less : (a b : Bool) → (if a && b then 1 else 0) ≤ (if a then 1 else 0)
both_or_less true true = omega arith
both_or_less true false = omega arith
both_or_less false b = omega arith

-- no more agents of a name have a port than there are
pub ports_bound : (x : Name) (i : ℕ) (xs : List (Name × Kind)) → port_times x i xs ≤ named_times x xs
ports_bound x i [] = omega arith
ports_bound x i (y ∷ ys) = let ih = ports_bound x i ys in let h = both_or_less (same_name x y.0) (leb i (arity y.1)) in omega arith

-- a port of an agent has at most one link end for each maker and, an auxiliary one, for each consumer
pub port_degree : (s : Start) → IsProper s → (es : List Event) (x : Name) (i : ℕ)
    → degree net_shape (links s es) (Of x i) ≤ named_times x (agents s es) + (if eqb i 0 then 0 else consumed_times x es)
port_degree s ok [] x i = let h = ok.agent_ports x i in let b = ports_bound x i (start_agents s) in omega arith
port_degree s ok (e ∷ es) x i =
    let ih = port_degree s ok es x i in
    let d = degree-append net_shape (born_links s.profile e) (links s es) (Of x i) in
    let n = named_times-append x (born_agents e) (agents s es) in
    let r = rule_degree (Some e) s.profile e.lead_kind e.other_kind e x i in
    let f = zero_or_sum (eqb i 0) (pair_times x e) (consumed_times x es) in
    omega arith

-- events make no link ends at names
pub free_degree : (s : Start) → IsProper s → (es : List Event) (j : ℕ) → degree net_shape (links s es) (port.Name j) ≡ degree net_shape (start_links s) (port.Name j)
free_degree s ok [] j = refl
free_degree s ok (e ∷ es) j =
    let ih = free_degree s ok es j in
    let d = degree-append net_shape (born_links s.profile e) (links s es) (port.Name j) in
    let r = rule_free (Some e) s.profile e.lead_kind e.other_kind e j in
    omega arith

-- the names of children
push_self : (xs ys : List ℕ) (i j : ℕ) → same_digits (xs ++ i ∷ []) (ys ++ j ∷ []) ≡ (same_digits xs ys && eqb i j)
push_self [] [] i j = and-true (eqb i j)
push_self [] (y ∷ []) i j = and-false (eqb i y)
push_self [] (y ∷ z ∷ ys) i j = and-false (eqb i y)
push_self (x ∷ []) [] i j = and-false (eqb x j)
push_self (x ∷ z ∷ xs) [] i j = and-false (eqb x j)
push_self (x ∷ xs) (y ∷ ys) i j = rw (push_self xs ys i j) (sym (and_assoc (eqb x y) (same_digits xs ys) (eqb i j)))

-- children are the same where their parents and digits are
same_child : (m n : Name) (i j : ℕ) → same_name (child_name m i) (child_name n j) ≡ (same_name m n && eqb i j)
same_child m n i j = rw (push_self m.digits n.digits i j) (sym (and_assoc (eqb m.start n.start) (same_digits m.digits n.digits) (eqb i j)))

-- a digit is one of four at most
one_digit : (i : ℕ) → one_if (eqb i 0) + one_if (eqb i 1) + one_if (eqb i 2) + one_if (eqb i 3) ≤ 1
one_digit zero = omega arith
one_digit (suc zero) = omega arith
one_digit (suc (suc zero)) = omega arith
one_digit (suc (suc (suc zero))) = omega arith
one_digit (suc (suc (suc (suc i)))) = rw (over (suc i) 0 (omega arith), over (suc i) 1 (omega arith), over (suc i) 2 (omega arith)) (let h = over3 i in rw h (omega arith))
  where
    over3 : (i : ℕ) → eqb (suc (suc (suc (suc i)))) 3 ≡ false
    over3 i = ne_eqb (suc (suc (suc (suc i)))) 3 (λ e. omega arith)

-- an event has one child_name of a name, at most, and its lead is the parent
children_once : (ka kb : Kind) (e : Event) (n : Name) (i : ℕ) → named_times (child_name n i) (named (child_name e.lead) 0 (born_kinds ka kb)) ≤ one_if (same_name n e.lead)
children_once ka kb e n i = rw_all ka kb
  where
    by_lead : (b : Bool) → one_if (b && eqb i 0) + (one_if (b && eqb i 1) + (one_if (b && eqb i 2) + (one_if (b && eqb i 3)))) ≤ one_if b
    by_lead true = let h = one_digit i in omega arith
    by_lead false = omega arith

    each : (j : ℕ) → one_if (same_name (child_name n i) (child_name e.lead j)) ≡ one_if (same_name n e.lead && eqb i j)
    each j = ap one_if (same_child n e.lead i j)

    bound : one_if (same_name (child_name n i) (child_name e.lead 0)) + (one_if (same_name (child_name n i) (child_name e.lead 1)) + (one_if (same_name (child_name n i) (child_name e.lead 2)) + (one_if (same_name (child_name n i) (child_name e.lead 3))))) ≤ one_if (same_name n e.lead)
    bound = rw (each 0, each 1, each 2, each 3) (by_lead (same_name n e.lead))

    rw_all : (ka kb : Kind) → named_times (child_name n i) (named (child_name e.lead) 0 (born_kinds ka kb)) ≤ one_if (same_name n e.lead)
    rw_all Gamma Delta = omega (arith, bound)
    rw_all Delta Gamma = omega (arith, bound)
    rw_all Gamma Eps = omega (arith, bound)
    rw_all Delta Eps = omega (arith, bound)
    rw_all Eps Gamma = omega (arith, bound)
    rw_all Eps Delta = omega (arith, bound)
    rw_all Gamma Gamma = omega arith
    rw_all Delta Delta = omega arith
    rw_all Eps Eps = omega arith

-- digits with one more are not none
no_push : (ds : List ℕ) (i : ℕ) → same_digits (ds ++ i ∷ []) [] ≡ false
no_push [] i = refl
no_push (d ∷ ds) i = refl

-- and none are not digits with one more
push_no : (ds : List ℕ) (i : ℕ) → same_digits [] (ds ++ i ∷ []) ≡ false
push_no [] i = refl
push_no (d ∷ ds) i = refl

-- no start agent has a child's name
start_no_child : (n : Name) (i k : ℕ) (kinds : List Kind) → named_times (child_name n i) (named (λ k. record { start = k; digits = [] }) k kinds) ≡ 0
start_no_child n i k [] = refl
start_no_child n i k (x ∷ xs) = let ih = start_no_child n i (k + 1) xs in rw (no_push n.digits i, and-false (eqb n.start k)) (omega (arith, ih))

-- an agent is made once for each event that consumes its parent
pub children_bound : (s : Start) (es : List Event) (n : Name) (i : ℕ) → named_times (child_name n i) (agents s es) ≤ consumed_times n es
children_bound s [] n i = let h = start_no_child n i 0 s.kinds in omega arith
children_bound s (e ∷ es) n i =
    let ih = children_bound s es n i in
    let a = named_times-append (child_name n i) (born_agents e) (agents s es) in
    let c = children_once e.lead_kind e.other_kind e n i in
    omega arith

-- a start number below the first one is no agent's
start_below : (x : Name) (k : ℕ) (kinds : List Kind) → x.start < k → named_times x (named (λ k. record { start = k; digits = [] }) k kinds) ≡ 0
start_below x k [] h = refl
start_below x k (y ∷ ys) h = let n : eqb x.start k ≡ false = ne_eqb x.start k (λ e. omega arith) in let ih = start_below x (k + 1) ys (omega arith) in rw n (omega (arith, ih))

-- each start number is one agent's at most
start_once : (x : Name) (k : ℕ) (kinds : List Kind) → named_times x (named (λ k. record { start = k; digits = [] }) k kinds) ≤ 1
start_once x k [] = omega arith
start_once x k (y ∷ ys) = go (eqb x.start k) refl (start_once x (k + 1) ys)
  where
    at_most : (b : Bool) (n : ℕ) → n ≡ 0 → (if b then 1 else 0) + n ≤ 1
    at_most true n h = omega arith
    at_most false n h = omega arith

    go : (b : Bool) → eqb x.start k ≡ b → named_times x (named (λ k. record { start = k; digits = [] }) (k + 1) ys) ≤ 1
        → (if (eqb x.start k && same_digits x.digits []) then 1 else 0) + named_times x (named (λ k. record { start = k; digits = [] }) (k + 1) ys) ≤ 1
    go true e ih = let h : x.start ≡ k = eqb-true x.start k e in let z = start_below x (k + 1) ys (omega arith) in at_most (eqb x.start k && same_digits x.digits []) _ z
    go false e ih = rw e (omega arith)

-- a name without digits is no child's
born_digits : (ka kb : Kind) (e : Event) (x : Name) → x.digits ≡ [] → named_times x (named (child_name e.lead) 0 (born_kinds ka kb)) ≡ 0
born_digits ka kb e x h = go ka kb
  where
    each : (j : ℕ) → same_name x (child_name e.lead j) ≡ false
    each j = rw (h, push_no e.lead.digits j) (and-false (eqb x.start e.lead.start))

    go : (ka kb : Kind) → named_times x (named (child_name e.lead) 0 (born_kinds ka kb)) ≡ 0
    go Gamma Delta = rw (each 0, each 1, each 2, each 3) refl
    go Delta Gamma = rw (each 0, each 1, each 2, each 3) refl
    go Gamma Eps = rw (each 0, each 1) refl
    go Delta Eps = rw (each 0, each 1) refl
    go Eps Gamma = rw (each 0, each 1) refl
    go Eps Delta = rw (each 0, each 1) refl
    go Gamma Gamma = refl
    go Delta Delta = refl
    go Eps Eps = refl

-- it is one agent's at most
roots_bound : (s : Start) (es : List Event) (x : Name) → x.digits ≡ [] → named_times x (agents s es) ≤ 1
roots_bound s [] x h = start_once x 0 s.kinds
roots_bound s (e ∷ es) x h =
    let ih = roots_bound s es x h in
    let a = named_times-append x (born_agents e) (agents s es) in
    let c = born_digits e.lead_kind e.other_kind e x h in
    omega arith

-- digits are none, or have a last one
last_digit : (ds : List ℕ) → (ds ≡ []) ⊎ ((fs : List ℕ) × (i : ℕ) × (ds ≡ fs ++ i ∷ []))
last_digit [] = inl refl
last_digit (d ∷ ds) = elim (last_digit ds) [ inl e ↦ inr ([], d, ap (λ x. d ∷ x) e) | inr w ↦ inr (d ∷ w.0, w.1, ap (λ x. d ∷ x) w.2) ]

-- where no agent is in two events, each name is one agent's
pub names_once : (s : Start) (es : List Event) → ((n : Name) → consumed_times n es ≤ 1) → (x : Name) → named_times x (agents s es) ≤ 1
names_once s es h x = go (last_digit x.digits)
  where
    go : (x.digits ≡ []) ⊎ ((fs : List ℕ) × (i : ℕ) × (x.digits ≡ fs ++ i ∷ [])) → named_times x (agents s es) ≤ 1
    go (inl e) = roots_bound s es x e
    go (inr w) =
        let p : Name = record { start = x.start; digits = w.0 } in
        let e : x ≡ child_name p w.1 = λ k. record { start = x.start; digits = w.2 k } in
        let b = children_bound s es p w.1 in
        let a = h p in
        rw e (omega arith)

-- and no port has more than two link ends
pub slim : (s : Start) → IsProper s → (es : List Event) → ((n : Name) → consumed_times n es ≤ 1) → IsSlim net_shape (links s es)
slim s ok es h (Of x i) = let d = port_degree s ok es x i in let n = names_once s es h x in let c = h x in by_test (eqb i 0) _ d
  where
    by_test : (b : Bool) (k : ℕ) → k ≤ named_times x (agents s es) + (if b then 0 else consumed_times x es) → k ≤ 2
    by_test true k d = let n = names_once s es h x in omega arith
    by_test false k d = let n = names_once s es h x in let c = h x in omega arith
slim s ok es h (port.Name j) = let d = free_degree s ok es j in let f = ok.few_ends j in omega arith

-- a principal port has at most one
pub principal : (s : Start) → IsProper s → (es : List Event) → ((n : Name) → consumed_times n es ≤ 1) → (x : Name) → degree net_shape (links s es) (Of x 0) ≤ 1
principal s ok es h x = let d = port_degree s ok es x 0 in let n = names_once s es h x in omega arith
