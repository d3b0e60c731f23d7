-- The wires of a listed net, each once.
use Rattle.std.proofs.Common.{◌≡◌, ℕ, zero, suc, ◌+◌, Bool, true, false, List, [], ◌∷◌, ◌++◌, length, map, filter, ◌⊎◌, inl, inr, refl, sym, ap, subst, ◌∙◌, arith, Option, Some, None, eqb, eq-eqb, if◌then◌else◌}
use Rattle.std.specs.Prelude.{slice_get}
use Rattle.std.specs.List.{flat_map, AllByRecursion}
use Rattle.std.specs.List.Sorted.{IsStrictlySortedBy}
use Rattle.std.specs.Ordering.{is_lt, nat_cmp}
use Rattle.std.specs.declared.cmp.Ordering.{Ordering}
use Rattle.std.specs.declared.cmp.Ordering.TheVariants.{Less, Equal, Greater}
use Rattle.std.proofs.lemmas.Bool.{eqb-true}
use Rattle.std.proofs.lemmas.Map.Keys.{sorted_tail}
use Rattle.std.proofs.lemmas.List.Sums.{length-filter}
use Rattle.ic_name.specs.Names.{Name, name_cmp}
use Rattle.ic_name.specs.declared.ports.Port.{Port}
use Rattle.ic_name.specs.declared.ports.Port.TheVariants.{Of}
use Rattle.ic_name.specs.declared.ports.Port.TheVariants as port
use Rattle.ic_name.proofs.NameOrder.{name_less_apart}
use Rattle.ic_path.specs.Orders.{here, IsIn, IsOnce}
use Rattle.ic_path.specs.Rings.{HasEachOnce}
use Rattle.ic_path.proofs.Picks.{none_in, in_first, in_more, in-cons_cases}
use Rattle.ic_path.proofs.EachOnce.{once_cons, once_rest, each_once_length}
use Rattle.ic_path.proofs.OnceLists.{once_map}
use Rattle.ic_path.proofs.InLists.{in-map, map_cases, in_behind, in-append_cases, filter_cases}
use Rattle.ic_theory.specs.Listed.{NetAgent, ListedNet, IsListing, agent_among, partner_at, partner_among, free_among, shown, port_cmp, ends_from, ends_of, wires_of}
use Rattle.ic_text.specs.Counts.{IsWireOf}
use Rattle.ic_text.proofs.FreePairs.{lesser_apart, numbers_above, frees_found}
use Rattle.ic_text.proofs.Owners.{found_name, found_agent, later_less, later_sorted}

-- two lists that share nothing, one behind the other, have each once what they have once
once-append : {X : Type 0} (xs ys : List X) → IsOnce xs → IsOnce ys → ((x : X) → IsIn x xs → IsIn x ys → ⊥) → IsOnce (xs ++ ys)
once-append [] ys a b apart = b
once-append (x ∷ xs) ys a b apart = once_cons
    (λ i. elim (in-append_cases xs i) [ inl j ↦ a x xs here j | inr j ↦ apart x (in_first x xs) j ])
    (once-append xs ys (once_rest a here) b (λ y i j. apart y (in_more x i) j))

-- what is in front is in both
in_front : {X : Type 0} {x : X} {xs : List X} (ys : List X) → IsIn x xs → IsIn x (xs ++ ys)
in_front {xs = []} ys i = absurd (none_in i)
in_front {xs = z ∷ zs} ys i = elim (in-cons_cases i) [ inl e ↦ subst (λ w. IsIn w (z ∷ (zs ++ ys))) (sym e) (in_first z (zs ++ ys)) | inr j ↦ in_more z (in_front ys j) ]

-- ---- the ports of one agent

-- a port of an agent is that of its number
from_cases : (n : Name) (k : ℕ) (ps : List Port) {x : Port × Port} → IsIn x (ends_from n k ps) → (i : ℕ) × (slice_get ps i ≡ Some x.1) × (x.0 ≡ Of n (k + i))
from_cases n k [] i = absurd (none_in i)
from_cases n k (p ∷ ps) {x} i = elim (in-cons_cases i) [
  | inl e ↦ (0, ap (λ (z : Port × Port). Some z.1) (sym e), ap (λ (z : Port × Port). z.0) e ∙ ap (Of n) (omega arith))
  | inr j ↦ (let r = from_cases n (k + 1) ps j in (suc r.0, r.1, r.2 ∙ ap (Of n) (omega arith)))
]

from_in : (n : Name) (k : ℕ) (ps : List Port) (i : ℕ) {q : Port} → slice_get ps i ≡ Some q → IsIn (Of n (k + i), q) (ends_from n k ps)
from_in n k [] i e = cc
from_in n k (p ∷ ps) zero {q} e =
    let same : p ≡ q = cc in
    let still : k ≡ k + 0 = omega arith in
    let at : (Of n k, p) ≡ (Of n (k + 0), q) = λ u. (ap (Of n) still u, same u) in
    subst (λ z. IsIn z (ends_from n k (p ∷ ps))) at (in_first (Of n k, p) (ends_from n (k + 1) ps))
from_in n k (p ∷ ps) (suc i) {q} e =
    let at : (Of n (k + 1 + i), q) ≡ (Of n (k + suc i), q) = ap (λ m. (Of n m, q)) (omega arith) in
    subst (λ z. IsIn z (ends_from n k (p ∷ ps))) at (in_more (Of n k, p) (from_in n (k + 1) ps i e))

from_once : (n : Name) (k : ℕ) (ps : List Port) → IsOnce (ends_from n k ps)
from_once n k [] = λ x rest h i. elim h [ ]
from_once n k (p ∷ ps) = once_cons
    (λ i. let r = from_cases n (k + 1) ps i in absurd (apart r.0 (port_number r.0 r.2)))
    (from_once n (k + 1) ps)
  where
    number : Port → ℕ
    number (Of m j) = j
    number (port.Name j) = j

    port_number : (i : ℕ) → Of n k ≡ Of n (k + 1 + i) → k ≡ k + 1 + i
    port_number i e = ap number e

    apart : (i : ℕ) → k ≡ k + 1 + i → ⊥
    apart i e = omega (arith, e)

-- and of all ports from the first one on
own_cases : (n : Name) (ps : List Port) {x : Port × Port} → IsIn x (ends_from n 0 ps) → (i : ℕ) × (slice_get ps i ≡ Some x.1) × (x.0 ≡ Of n i)
own_cases n ps i = let r = from_cases n 0 ps i in (r.0, r.1, r.2 ∙ ap (Of n) (omega arith))

own_in : (n : Name) (ps : List Port) (i : ℕ) {q : Port} → slice_get ps i ≡ Some q → IsIn (Of n i, q) (ends_from n 0 ps)
own_in n ps i {q} e =
    let at : 0 + i ≡ i = omega arith in
    subst (λ m. IsIn (Of n m, q) (ends_from n 0 ps)) at (from_in n 0 ps i e)

-- ---- the ports of all agents

abbrev agent_ends : List NetAgent → List (Port × Port)
agent_ends as' = flat_map (λ (a : NetAgent). ends_from a.name 0 a.partners) as'

agents_cases : (as' : List NetAgent) {x : Port × Port} → IsIn x (agent_ends as') → (a : NetAgent) × IsIn a as' × IsIn x (ends_from a.name 0 a.partners)
agents_cases [] i = absurd (none_in i)
agents_cases (a ∷ as') i = elim (in-append_cases (ends_from a.name 0 a.partners) i) [
  | inl j ↦ (a, in_first a as', j)
  | inr j ↦ (let r = agents_cases as' j in (r.0, in_more a r.1, r.2))
]

agents_in : (as' : List NetAgent) (a : NetAgent) {x : Port × Port} → IsIn a as' → IsIn x (ends_from a.name 0 a.partners) → IsIn x (agent_ends as')
agents_in [] a i j = absurd (none_in i)
agents_in (b ∷ bs) a {x} i j = elim (in-cons_cases i) [
  | inl e ↦ in_front (agent_ends bs) (subst (λ (z : NetAgent). IsIn x (ends_from z.name 0 z.partners)) e j)
  | inr k ↦ in_behind (ends_from b.name 0 b.partners) (agents_in bs a k j)
]

-- the agent of a port
abbrev owner : Port → Option Name
owner (Of n i) = Some n
owner (port.Name j) = None

agents_once : (as' : List NetAgent) → IsStrictlySortedBy name_cmp (map (λ (a : NetAgent). a.name) as') → IsOnce (agent_ends as')
agents_once [] s = λ x rest h i. elim h [ ]
agents_once (a ∷ as') s = once-append (ends_from a.name 0 a.partners) (agent_ends as') (from_once a.name 0 a.partners) (agents_once as' (later_sorted a as' s)) apart
  where
    apart : (x : Port × Port) → IsIn x (ends_from a.name 0 a.partners) → IsIn x (agent_ends as') → ⊥
    apart x i j =
        let one = own_cases a.name a.partners i in
        let other = agents_cases as' j in
        let two = own_cases other.0.name other.0.partners other.2 in
        let same : Some a.name ≡ Some other.0.name = ap owner (sym one.2 ∙ two.2) in
        let named : a.name ≡ other.0.name = cc in
        name_less_apart a.name other.0.name (later_less a other.0 as' s other.1) named

-- ---- the free names

-- what holds of each of a list holds of what is in it
at_each : {X : Type 0} (P : X → Type 0) (xs : List X) → AllByRecursion P xs → {x : X} → IsIn x xs → P x
at_each P [] h i = absurd (none_in i)
at_each P (y ∷ ys) h {x} i = elim (in-cons_cases i) [ inl e ↦ subst P (sym e) h.0 | inr j ↦ at_each P ys h.1 j ]

abbrev free_ends : List (ℕ × Port) → List (Port × Port)
free_ends fs = map (λ (x : ℕ × Port). (port.Name x.0, x.1)) fs

free_found : (j : ℕ) (fs : List (ℕ × Port)) {q : Port} → free_among j fs ≡ Some q → IsIn (j, q) fs
free_found j [] e = cc
free_found j (x ∷ fs) {q} e = go (eqb j x.0) refl e (λ k. free_found j fs k)
  where
    go : (b : Bool) → eqb j x.0 ≡ b → (if b then Some x.1 else free_among j fs) ≡ Some q → (free_among j fs ≡ Some q → IsIn (j, q) fs) → IsIn (j, q) (x ∷ fs)
    go true t k later =
        let same : x.1 ≡ q = cc in
        let at : x ≡ (j, q) = λ u. (sym (eqb-true j x.0 t) u, same u) in
        subst (λ z. IsIn z (x ∷ fs)) at (in_first x fs)
    go false t k later = in_more x (later k)

frees_once : (fs : List (ℕ × Port)) → IsStrictlySortedBy nat_cmp (map (λ (x : ℕ × Port). x.0) fs) → IsOnce fs
frees_once [] s = λ x rest h i. elim h [ ]
frees_once (x ∷ fs) s = once_cons
    (λ i. let less = at_each (λ (y : ℕ × Port). nat_cmp x.0 y.0 ≡ Less) fs (numbers_above x.0 fs s) i in
    clash (sym (lesser_apart x.0 x.0 less) ∙ eq-eqb x.0 x.0 refl))
    (frees_once fs (sorted_tail nat_cmp x.0 (map (λ (y : ℕ × Port). y.0) fs) s))
  where
    clash : false ≡ true → ⊥
    clash e = cc

-- ---- the wires

module _ (l : ListedNet) (ok : IsListing l) where
  -- what stands among the ends is a port with its partner
  end_partner : {x : Port × Port} → IsIn x (ends_of l) → (shown l).partner x.0 ≡ Some x.1
  end_partner {x} i = elim (in-append_cases (agent_ends l.agents) i) [
    | inl j ↦ (let r = agents_cases l.agents j in
        let f = own_cases r.0.name r.0.partners r.2 in
        ap (partner_among l) f.2 ∙ ap (partner_at f.0) (found_agent r.0 ok.in_order r.1.1) ∙ f.1)
    | inr j ↦ (let r = map_cases (λ (y : ℕ × Port). (port.Name y.0, y.1)) l.frees j in
        ap (λ (z : Port × Port). partner_among l z.0) (sym r.2) ∙ at_each (λ (y : ℕ × Port). free_among y.0 l.frees ≡ Some y.1) l.frees (frees_found l.frees ok.numbered) r.1 ∙ ap (λ (z : Port × Port). Some z.1) r.2)
  ]

  -- and each does
  partner_end : (p q : Port) → (shown l).partner p ≡ Some q → IsIn (p, q) (ends_of l)
  partner_end (Of n i) q e = go (agent_among n l.agents) refl e
    where
      go : (o : Option NetAgent) → agent_among n l.agents ≡ o → partner_at i o ≡ Some q → IsIn (Of n i, q) (ends_of l)
      go None f k = cc
      go (Some a) f k =
          let r = found_name n l.agents f in
          in_front (free_ends l.frees) (subst (λ m. IsIn (Of m i, q) (agent_ends l.agents)) r.0 (agents_in l.agents a r.1 (own_in a.name a.partners i k)))
  partner_end (port.Name j) q e = in_behind (agent_ends l.agents) (in-map (λ (y : ℕ × Port). (port.Name y.0, y.1)) (free_found j l.frees e))

  -- none stands there twice
  ends_once : IsOnce (ends_of l)
  ends_once = once-append (agent_ends l.agents) (free_ends l.frees) (agents_once l.agents ok.in_order)
      (once_map (λ (y : ℕ × Port). (port.Name y.0, y.1)) l.frees one (frees_once l.frees ok.numbered)) apart
    where
      number : Port → ℕ
      number (Of m j) = j
      number (port.Name j) = j

      one : (x y : ℕ × Port) → IsIn x l.frees → IsIn y l.frees → ◌≡◌ {A = Port × Port} (port.Name x.0, x.1) (port.Name y.0, y.1) → x ≡ y
      one x y i j e = λ u. (number (e u).0, (e u).1)

      apart : (x : Port × Port) → IsIn x (agent_ends l.agents) → IsIn x (free_ends l.frees) → ⊥
      apart x i j =
          let r = agents_cases l.agents i in
          let f = own_cases r.0.name r.0.partners r.2 in
          let g = map_cases (λ (y : ℕ × Port). (port.Name y.0, y.1)) l.frees j in
          let same : None ≡ Some r.0.name = ap (λ (z : Port × Port). owner z.0) g.2 ∙ ap owner f.2 in
          cc

  -- the lesser end of a wire
  abbrev is_lesser : Port × Port → Bool
  is_lesser x = is_lt (port_cmp x.0 x.1)

  less_of : (o : Ordering) → is_lt o ≡ true → o ≡ Less
  less_of Less e = refl
  less_of Equal e = cc
  less_of Greater e = cc

  kept : {x : Port × Port} {xs : List (Port × Port)} → is_lesser x ≡ true → IsIn x xs → IsIn x (filter is_lesser xs)
  kept {xs = []} t i = absurd (none_in i)
  kept {x} {xs = y ∷ ys} t i = go (is_lesser y) refl (in-cons_cases i) (λ j. kept t j)
    where
      go : (b : Bool) → is_lesser y ≡ b → (x ≡ y) ⊎ IsIn x ys → (IsIn x ys → IsIn x (filter is_lesser ys)) → IsIn x (filter is_lesser (y ∷ ys))
      go true e (inl q) later = rw e (subst (λ z. IsIn z (y ∷ filter is_lesser ys)) (sym q) (in_first y (filter is_lesser ys)))
      go true e (inr j) later = rw e (in_more y (later j))
      go false e (inl q) later = let c : false ≡ true = sym e ∙ ap is_lesser (sym q) ∙ t in absurd cc
      go false e (inr j) later = rw e (later j)

  once_kept : (xs : List (Port × Port)) → IsOnce xs → IsOnce (filter is_lesser xs)
  once_kept [] o = o
  once_kept (y ∷ ys) o = go (is_lesser y) refl (once_kept ys (once_rest o here))
    where
      go : (b : Bool) → is_lesser y ≡ b → IsOnce (filter is_lesser ys) → IsOnce (filter is_lesser (y ∷ ys))
      go true e later = rw e (once_cons (λ i. o y ys here (filter_cases is_lesser ys i).0) later)
      go false e later = rw e later

  -- the wires, each once, by the lesser end
  pub wires_listed : HasEachOnce (IsWireOf l) (filter is_lesser (ends_of l))
  wires_listed = record {
    each = λ x w. kept (ap is_lt w.1) (partner_end x.0 x.1 w.0);
    only = λ x i. let r = filter_cases is_lesser (ends_of l) i in (end_partner r.0, less_of (port_cmp x.0 x.1) r.1);
    once = once_kept (ends_of l) ends_once;
  }

  -- and how many they are
  pub wires_counted : (wires : List (Port × Port)) → HasEachOnce (IsWireOf l) wires → length wires ≡ wires_of l
  wires_counted wires h = each_once_length wires (filter is_lesser (ends_of l)) h wires_listed ∙ length-filter is_lesser (ends_of l)
