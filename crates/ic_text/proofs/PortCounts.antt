-- Each port of an agent that has a partner stands once among the ports of the lines, each free name once among the free names.
use Rattle.std.proofs.Common.{◌≡◌, ℕ, zero, suc, ◌+◌, ◌≤◌, ◌&&◌, Bool, true, false, cond, if◌then◌else◌, eqb, List, [], ◌∷◌, ◌++◌, map, Some, refl, sym, ap, ◌∙◌, arith}
use Rattle.std.specs.List.{AllByRecursion}
use Rattle.std.specs.List.Sorted.{IsStrictlySortedBy}
use Rattle.std.specs.Ordering.{nat_cmp}
use Rattle.std.specs.Str.{bytes_eq}
use Rattle.std.specs.declared.cmp.Ordering.TheVariants.{Less}
use Rattle.std.proofs.lemmas.Bool.{eqb-true, eq-eqb, false_from_ne_true}
use Rattle.std.proofs.lemmas.Map.Keys.{sorted_tail}
use Rattle.ic_name.specs.Names.{Name, name_cmp}
use Rattle.ic_name.specs.Kinds.{arity}
use Rattle.ic_name.specs.Same.{same_name, same_port}
use Rattle.ic_name.specs.declared.kinds.Kind.{Kind}
use Rattle.ic_name.specs.declared.kinds.Kind.TheVariants.{Gamma, Delta, Eps}
use Rattle.ic_name.specs.declared.ports.Port.{Port}
use Rattle.ic_name.specs.declared.ports.Port.TheVariants.{Of}
use Rattle.ic_name.proofs.SameFacts.{same_name_true}
use Rattle.ic_name.proofs.NameOrder.{name_less_apart}
use Rattle.ic_theory.specs.Listed.{NetAgent, ListedNet, IsListing, agent_among, free_among, shown}
use Rattle.ic_text.proofs.Distinct.{times_in}
use Rattle.ic_text.specs.NetText.{shown_ports}
use Rattle.ic_text.proofs.Everywhere.{each_so}
use Rattle.ic_text.proofs.Owners.{owner_of}
use Rattle.ic_text.proofs.ShownPorts.{line_ports, all_ports, names_above}
use Rattle.ic_text.proofs.FreePairs.{numbers_above, lesser_apart}

-- how often a port is in a list
abbrev pub port_count : Port → List Port → ℕ
port_count p [] = 0
port_count p (q ∷ qs) = cond (same_port p q) 1 0 + port_count p qs

-- how often a number is
abbrev number_count : ℕ → List ℕ → ℕ
number_count i [] = 0
number_count i (j ∷ js) = cond (eqb i j) 1 0 + number_count i js

-- how often the number of a free name is
abbrev pub free_count : ℕ → List (ℕ × Port) → ℕ
free_count j [] = 0
free_count j (x ∷ xs) = cond (eqb j x.0) 1 0 + free_count j xs

-- ---- ports

append_count : (p : Port) (xs ys : List Port) → port_count p (xs ++ ys) ≡ port_count p xs + port_count p ys
append_count p [] ys = omega arith
append_count p (x ∷ xs) ys = omega (arith, append_count p xs ys)

-- in one agent's line: its ports by their numbers
own_count : (n m : Name) (i : ℕ) (is : List ℕ) → same_name n m ≡ true → port_count (Of n i) (map (λ j. Of m j) is) ≡ number_count i is
own_count n m i [] e = refl
own_count n m i (j ∷ js) e = rw e (by_test (eqb i j) (own_count n m i js e))
  where
    by_test : (b : Bool) → port_count (Of n i) (map (λ j. Of m j) js) ≡ number_count i js → cond (b && true) 1 0 + port_count (Of n i) (map (λ j. Of m j) js) ≡ cond b 1 0 + number_count i js
    by_test true ih = ap (λ (k : ℕ). 1 + k) ih
    by_test false ih = ap (λ (k : ℕ). 0 + k) ih

-- in another's: none
other_count : (n m : Name) (i : ℕ) (is : List ℕ) → same_name n m ≡ false → port_count (Of n i) (map (λ j. Of m j) is) ≡ 0
other_count n m i [] e = refl
other_count n m i (j ∷ js) e = rw e (by_test (eqb i j) (other_count n m i js e))
  where
    by_test : (b : Bool) → port_count (Of n i) (map (λ j. Of m j) js) ≡ 0 → cond (b && false) 1 0 + port_count (Of n i) (map (λ j. Of m j) js) ≡ 0
    by_test true ih = omega (arith, ih)
    by_test false ih = omega (arith, ih)

-- in the lines of others: none
others_count : (n : Name) (i : ℕ) (as' : List NetAgent) → AllByRecursion (λ b. same_name n b.name ≡ false) as' → port_count (Of n i) (all_ports as') ≡ 0
others_count n i [] h = refl
others_count n i (b ∷ bs) h = append_count (Of n i) (line_ports b) (all_ports bs) ∙ (let u = other_count n b.name i (shown_ports b.kind) h.0 in let v = others_count n i bs h.1 in omega arith)

-- in all lines: those in the line of the agent of this name
all_count : (n : Name) (i : ℕ) (as' : List NetAgent) (a : NetAgent) → IsStrictlySortedBy name_cmp (map (λ (b : NetAgent). b.name) as') → agent_among n as' ≡ Some a → port_count (Of n i) (all_ports as') ≡ number_count i (shown_ports a.kind)
all_count n i [] a s f = cc
all_count n i (b ∷ bs) a s f = go (same_name n b.name) refl f (all_count n i bs a (sorted_tail name_cmp b.name (map (λ (c : NetAgent). c.name) bs) s))
  where
    go : (t : Bool) → same_name n b.name ≡ t → (if t then Some b else agent_among n bs) ≡ Some a → (agent_among n bs ≡ Some a → port_count (Of n i) (all_ports bs) ≡ number_count i (shown_ports a.kind))
        → port_count (Of n i) (all_ports (b ∷ bs)) ≡ number_count i (shown_ports a.kind)
    go true e g ih =
        let same : b ≡ a = cc in
        let name : n ≡ b.name = same_name_true n b.name e in
        let apart = each_so (λ c. name_cmp b.name c.name ≡ Less) (λ c. same_name n c.name ≡ false) bs (λ c lt. false_from_ne_true _ (λ t. name_less_apart b.name c.name lt (sym name ∙ same_name_true n c.name t))) (names_above b.name bs s) in
        let own = own_count n b.name i (shown_ports b.kind) e in
        let none = others_count n i bs apart in
        let kind : number_count i (shown_ports b.kind) ≡ number_count i (shown_ports a.kind) = ap (λ (c : NetAgent). number_count i (shown_ports c.kind)) same in
        append_count (Of n i) (line_ports b) (all_ports bs) ∙ omega arith
    go false e g ih =
        let none = other_count n b.name i (shown_ports b.kind) e in
        let rest = ih g in
        append_count (Of n i) (line_ports b) (all_ports bs) ∙ omega arith

-- a line shows each port of its agent once
three_once : (i : ℕ) → i ≤ 2 → number_count i (1 ∷ 2 ∷ 0 ∷ []) ≡ 1
three_once zero h = refl
three_once (suc zero) h = refl
three_once (suc (suc zero)) h = refl
three_once (suc (suc (suc i))) h = absurd (omega (arith, h))

line_once : (k : Kind) (i : ℕ) → i ≤ arity k → number_count i (shown_ports k) ≡ 1
line_once Gamma i h = three_once i h
line_once Delta i h = three_once i h
line_once Eps zero h = refl
line_once Eps (suc i) h = absurd (omega (arith, h))

-- a port of an agent that has a partner stands once in the lines
pub port_once : (l : ListedNet) → IsListing l → (n : Name) (i : ℕ) (q : Port) → (shown l).partner (Of n i) ≡ Some q → port_count (Of n i) (all_ports l.agents) ≡ 1
port_once l h n i q e =
    let o = owner_of l h n i q e in
    all_count n i l.agents o.agent h.in_order o.found ∙ line_once o.agent.kind i o.within

-- ---- free names

-- greater numbers are others
others_free : (j : ℕ) (fs : List (ℕ × Port)) → AllByRecursion (λ x. nat_cmp j x.0 ≡ Less) fs → free_count j fs ≡ 0
others_free j [] h = refl
others_free j (x ∷ xs) h =
    let e : eqb j x.0 ≡ false = false_from_ne_true _ (λ t. same_or_less t h.0) in
    rw e (omega (arith, others_free j xs h.1))
  where
    same_or_less : eqb j x.0 ≡ true → nat_cmp j x.0 ≡ Less → ⊥
    same_or_less t lt = absurd (let f : eqb x.0 j ≡ false = lesser_apart j x.0 lt in let g : eqb j j ≡ false = ap (λ (k : ℕ). eqb k j) (eqb-true j x.0 t) ∙ f in let k : eqb j j ≡ true = eq-eqb j j refl in cc)

-- a free name stands once among them
pub free_once : (j : ℕ) (fs : List (ℕ × Port)) (q : Port) → IsStrictlySortedBy nat_cmp (map (λ (x : ℕ × Port). x.0) fs) → free_among j fs ≡ Some q → free_count j fs ≡ 1
free_once j [] q s f = cc
free_once j (x ∷ xs) q s f = go (eqb j x.0) refl f (free_once j xs q (sorted_tail nat_cmp x.0 (map (λ (y : ℕ × Port). y.0) xs) s))
  where
    go : (t : Bool) → eqb j x.0 ≡ t → (if t then Some x.1 else free_among j xs) ≡ Some q → (free_among j xs ≡ Some q → free_count j xs ≡ 1) → cond t 1 0 + free_count j xs ≡ 1
    go true e g ih =
        let same : x.0 ≡ j = sym (eqb-true j x.0 e) in
        let none : free_count x.0 xs ≡ 0 = others_free x.0 xs (numbers_above x.0 xs s) in
        let none' : free_count j xs ≡ 0 = ap (λ (k : ℕ). free_count k xs) (sym same) ∙ none in
        omega arith
    go false e g ih = let r = ih g in omega arith

-- ---- a text among labels

-- where it is the label of no port
pub label_none : (x : List ℕ) (f : Port → List ℕ) (ps : List Port) → AllByRecursion (λ p. bytes_eq x (f p) ≡ false) ps → times_in x (map f ps) ≡ 0
label_none x f [] h = refl
label_none x f (p ∷ ps) h = rw h.0 (omega (arith, label_none x f ps h.1))

-- where it is the label of one port alone
pub label_once : (x : List ℕ) (f : Port → List ℕ) (u : Port) (ps : List Port) → AllByRecursion (λ p. bytes_eq x (f p) ≡ same_port u p) ps → times_in x (map f ps) ≡ port_count u ps
label_once x f u [] h = refl
label_once x f u (p ∷ ps) h = rw h.0 (omega (arith, label_once x f u ps h.1))

-- where it is the label of two ports
pub label_twice : (x : List ℕ) (f : Port → List ℕ) (u v : Port) (ps : List Port) → AllByRecursion (λ p. cond (bytes_eq x (f p)) 1 0 ≡ cond (same_port u p) 1 0 + cond (same_port v p) 1 0) ps → times_in x (map f ps) ≡ port_count u ps + port_count v ps
label_twice x f u v [] h = refl
label_twice x f u v (p ∷ ps) h = let a = h.0 in let b = label_twice x f u v ps h.1 in omega arith
