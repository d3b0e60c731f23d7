-- The ports of an active pair, and the ends of the links that its rule makes.
use Rattle.std.proofs.Common.{◌≡◌, ◌≢◌, ℕ, suc, zero, ◌+◌, ◌≤◌, Bool, true, false, List, ◌∷◌, ◌⊎◌, inl, inr, refl, sym, ap, arith, ◌∙◌, Some}
use Rattle.std.specs.Prelude.{if◌then◌else◌, ◌||◌, ◌&&◌, eqb, leb}
use Rattle.std.proofs.lemmas.Bool.{le-leb, leb-true}
use Rattle.ic_name.specs.Names.{Name, child_name}
use Rattle.ic_name.specs.Kinds.{arity}
use Rattle.ic_name.specs.Events.{Event}
use Rattle.ic_name.specs.Same.{same_name}
use Rattle.ic_name.proofs.SameFacts.{same_name_true, same_name_self}
use Rattle.ic_name.specs.declared.kinds.Kind.{Kind}
use Rattle.ic_name.specs.declared.kinds.Kind.TheVariants.{Gamma, Delta, Eps}
use Rattle.ic_name.specs.declared.rules.Profile.{Profile}
use Rattle.ic_name.specs.declared.rules.Profile.TheVariants.{Classic, Straight}
use Rattle.ic_name.specs.declared.ports.Port.{Port}
use Rattle.ic_name.specs.declared.ports.Port.TheVariants.{Of}
use Rattle.ic_name.specs.declared.ports.Port.TheVariants as port
use Rattle.ic_path.specs.Orders.{IsIn}
use Rattle.ic_theory.specs.Rules.{born_ends}
use Rattle.ic_theory.specs.Born.{born_agents}
use Rattle.ic_theory.specs.Starts.{Start, port_times, IsProper}
use Rattle.ic_theory.specs.Sets.{agents, named_times, consumed_times}
use Rattle.ic_theory.specs.Wires.{IsLoose}
use Rattle.ic_theory.specs.Active.{IsActive}
use Rattle.ic_theory.specs.Firings.{IsFired, fired}
use Rattle.ic_theory.specs.Nets.{net_of}
use Rattle.ic_theory.proofs.Counts.{rule_ports, rule_free, ports_bound, named_times-append, children_bound, names_once}
use Rattle.ic_theory.proofs.Exact.{is_auxiliary, rule_ends}
use Rattle.ic_theory.proofs.Future.{fired_apart, loose_agent, far_by, unequal, named_in, same_kind}
use Rattle.ic_theory.proofs.Loose.{partner_is}
use Rattle.ic_theory.proofs.Cases.{Fits, gone, end_times, end_degree}

-- the port is one of the pair's agents'
abbrev pub is_of_pair : Event → Port → Bool
is_of_pair e (Of n i) = (same_name n e.lead && leb i (arity e.lead_kind)) || (same_name n e.other && leb i (arity e.other_kind))
is_of_pair e (port.Name j) = false

-- the rule table names the pair's ports and the children's
fits_rule : (pair : Port → Bool) (v : Profile) (ka kb : Kind) (e : Event)
    → ((i j : ℕ) → pair (Of (child_name e.lead i) j) ≡ false)
    → ((j : ℕ) → leb j (arity ka) ≡ true → pair (Of e.lead j) ≡ true)
    → ((j : ℕ) → leb j (arity kb) ≡ true → pair (Of e.other j) ≡ true)
    → Fits pair e (born_ends v ka kb)
fits_rule pair v Gamma Delta e c l o = (c 0 0, l 1 refl, refl, (c 1 0, l 2 refl, refl, (c 2 0, o 1 refl, refl, (c 3 0, o 2 refl, refl, (c 0 1, c 2 1, refl, (c 0 2, c 3 1, refl, (c 1 1, c 2 2, refl, (c 1 2, c 3 2, refl, tt))))))))
fits_rule pair v Delta Gamma e c l o = (c 0 0, o 1 refl, refl, (c 1 0, o 2 refl, refl, (c 2 0, l 1 refl, refl, (c 3 0, l 2 refl, refl, (c 0 1, c 2 1, refl, (c 0 2, c 3 1, refl, (c 1 1, c 2 2, refl, (c 1 2, c 3 2, refl, tt))))))))
fits_rule pair v Gamma Eps e c l o = (c 0 0, l 1 refl, refl, (c 1 0, l 2 refl, refl, tt))
fits_rule pair v Delta Eps e c l o = (c 0 0, l 1 refl, refl, (c 1 0, l 2 refl, refl, tt))
fits_rule pair v Eps Gamma e c l o = (c 0 0, o 1 refl, refl, (c 1 0, o 2 refl, refl, tt))
fits_rule pair v Eps Delta e c l o = (c 0 0, o 1 refl, refl, (c 1 0, o 2 refl, refl, tt))
fits_rule pair Classic Gamma Gamma e c l o = (l 1 refl, o 2 refl, refl, (l 2 refl, o 1 refl, refl, tt))
fits_rule pair Straight Gamma Gamma e c l o = (l 1 refl, o 1 refl, refl, (l 2 refl, o 2 refl, refl, tt))
fits_rule pair v Delta Delta e c l o = (l 1 refl, o 1 refl, refl, (l 2 refl, o 2 refl, refl, tt))
fits_rule pair v Eps Eps e c l o = tt

-- a test counts 1 at most
pub at_most_one : (b : Bool) → (if b then 1 else 0) ≤ 1
at_most_one true = omega arith
at_most_one false = omega arith

-- or false changes nothing
or_false : (b : Bool) → (b || false) ≡ b
or_false true = refl
or_false false = refl

-- of a port of the pair none is left to take only where it is the principal one
first_port : (i : ℕ) (k : Kind) → leb i (arity k) && eqb (if is_auxiliary i k then 1 else 0) 0 ≡ true → i ≡ 0
first_port zero k h = refl
first_port (suc i) k h = go (leb (suc i) (arity k)) (rw l at h)
  where
    l : leb 1 (suc i) ≡ true
    l = le-leb 1 (suc i) (omega arith)

    go : (t : Bool) → t && eqb (if t then 1 else 0) 0 ≡ true → suc i ≡ 0
    go true h = cc
    go false h = cc

-- and at the principal one none is left
principal_gone : (k : Kind) → leb 0 (arity k) && eqb (if is_auxiliary 0 k then 1 else 0) 0 ≡ true
principal_gone Gamma = refl
principal_gone Delta = refl
principal_gone Eps = refl

module _ (s : Start) (ok : IsProper s) (e : Event) (es : List Event) (f : IsFired s es) (a : IsActive s es e) where
  -- the ports of the rule's links
  abbrev pub joins : List (Port × Port)
  joins = rule_ports e (born_ends s.profile e.lead_kind e.other_kind)

  -- the lead isn't consumed before
  pub lead_stands : consumed_times e.lead es ≡ 0
  lead_stands = loose_agent s es e.lead a.wire.from_loose

  -- nor is the other agent
  pub other_stands : consumed_times e.other es ≡ 0
  other_stands = loose_agent s es e.other a.wire.to_loose

  -- the lead is an agent
  lead_named : 1 ≤ named_times e.lead (agents s es)
  lead_named = named_in e.lead refl a.present.lead.1

  -- so is the other one
  other_named : 1 ≤ named_times e.other (agents s es)
  other_named = named_in e.other refl a.present.other.1

  -- they are two
  differ : e.lead ≢ e.other
  differ = unequal a.present.ordered

  -- the test is false where the names differ
  test_no : (m n : Name) → m ≢ n → same_name m n ≡ false
  test_no m n h = go (same_name m n) refl
    where
      go : (t : Bool) → same_name m n ≡ t → same_name m n ≡ false
      go true i = absurd (h (same_name_true m n i))
      go false i = i

  -- the lead has its own name
  lead_self : same_name e.lead e.lead ≡ true
  lead_self = same_name_self e.lead

  -- so has the other agent
  other_self : same_name e.other e.other ≡ true
  other_self = same_name_self e.other

  -- the lead isn't the other agent
  lead_other : same_name e.lead e.other ≡ false
  lead_other = test_no e.lead e.other differ

  -- and the other agent isn't the lead
  other_lead : same_name e.other e.lead ≡ false
  other_lead = test_no e.other e.lead (λ i. differ (sym i))

  -- each name is the old agents' or the children's
  pub named_once : (n : Name) → named_times n (born_agents e) + named_times n (agents s es) ≤ 1
  named_once n = let h = names_once s (e ∷ es) (fired_apart s (fired f a)) n in let d = named_times-append n (born_agents e) (agents s es) in omega arith

  -- no child has an old agent's name, so it has none of its ports
  not_born : (n : Name) (i : ℕ) → 1 ≤ named_times n (agents s es) → port_times n i (born_agents e) ≡ 0
  not_born n i h = let o = named_once n in let b = ports_bound n i (born_agents e) in omega arith

  -- whose port it is
  pub data Whose (n : Name) : Type 0 where
    leads : n ≡ e.lead → Whose n
    others : n ≡ e.other → Whose n
    neither : same_name n e.lead ≡ false → same_name n e.other ≡ false → Whose n

  -- a name is the lead's, the other agent's or neither's
  pub whose : (n : Name) → Whose n
  whose n = go (same_name n e.lead) (same_name n e.other) refl refl
    where
      go : (x y : Bool) → same_name n e.lead ≡ x → same_name n e.other ≡ y → Whose n
      go true y i j = leads (same_name_true n e.lead i)
      go false true i j = others (same_name_true n e.other j)
      go false false i j = neither i j

  -- the lead's ports are the pair's, up to its arity
  pub pair_lead : (i : ℕ) → is_of_pair e (Of e.lead i) ≡ leb i (arity e.lead_kind)
  pair_lead i = rw (lead_self, lead_other) (or_false (leb i (arity e.lead_kind)))

  -- so are the other agent's
  pub pair_other : (i : ℕ) → is_of_pair e (Of e.other i) ≡ leb i (arity e.other_kind)
  pair_other i = rw (other_lead, other_self) refl

  -- nobody else's are
  pair_neither : (n : Name) (i : ℕ) → same_name n e.lead ≡ false → same_name n e.other ≡ false → is_of_pair e (Of n i) ≡ false
  pair_neither n i x y = rw (x, y) refl

  -- the ends that the rule makes at a port, by whose it is
  ends_at : (n : Name) (i : ℕ) → end_times (Of n i) joins ≡ port_times n i (born_agents e) + ((if is_auxiliary i e.lead_kind then (if same_name n e.lead then 1 else 0) else 0) + (if is_auxiliary i e.other_kind then (if same_name n e.other then 1 else 0) else 0))
  ends_at n i = sym (end_degree (Of n i) (Some e) 0 joins) ∙ rule_ends (Some e) s.profile e n i

  -- either way 0
  if_zero : (t : Bool) → ◌≡◌ {A = ℕ} (if t then 0 else 0) 0
  if_zero true = refl
  if_zero false = refl

  -- one at each auxiliary port of the lead
  pub ends_lead : (i : ℕ) → end_times (Of e.lead i) joins ≡ (if is_auxiliary i e.lead_kind then 1 else 0)
  ends_lead i = let z = not_born e.lead i lead_named in let h = ends_at e.lead i in let q = if_zero (is_auxiliary i e.other_kind) in let h' = rw (lead_self, lead_other, z, q) at h in omega (arith, h')

  -- one at each auxiliary port of the other agent
  pub ends_other : (i : ℕ) → end_times (Of e.other i) joins ≡ (if is_auxiliary i e.other_kind then 1 else 0)
  ends_other i = let z = not_born e.other i other_named in let h = ends_at e.other i in let q = if_zero (is_auxiliary i e.lead_kind) in let h' = rw (other_lead, other_self, z, q) at h in omega (arith, h')

  -- elsewhere one at each port of a child
  pub ends_neither : (n : Name) (i : ℕ) → same_name n e.lead ≡ false → same_name n e.other ≡ false → end_times (Of n i) joins ≡ port_times n i (born_agents e)
  ends_neither n i x y = let h = ends_at n i in let q = if_zero (is_auxiliary i e.lead_kind) in let r = if_zero (is_auxiliary i e.other_kind) in let h' = rw (x, y, q, r) at h in omega (arith, h')

  -- and none at a name
  pub ends_name : (j : ℕ) → end_times (port.Name j) joins ≡ 0
  ends_name j = sym (end_degree (port.Name j) (Some e) 0 joins) ∙ rule_free (Some e) s.profile e.lead_kind e.other_kind e j

  -- each port has one end of the rule's links at most
  pub once : (x : Port) → end_times x joins ≤ 1
  once (port.Name j) = let h = ends_name j in omega arith
  once (Of n i) = go (whose n)
    where
      go : Whose n → end_times (Of n i) joins ≤ 1
      go (leads h) = rw h (let k = ends_lead i in let m = at_most_one (is_auxiliary i e.lead_kind) in omega arith)
      go (others h) = rw h (let k = ends_other i in let m = at_most_one (is_auxiliary i e.other_kind) in omega arith)
      go (neither x y) = let k = ends_neither n i x y in let b = ports_bound n i (born_agents e) in let o = named_once n in omega arith

  -- before the first link is taken only the principal ports are gone
  pub only_principal : (x : Port) → gone (is_of_pair e) joins x ≡ true → (x ≡ Of e.lead 0) ⊎ (x ≡ Of e.other 0)
  only_principal (port.Name j) h = cc
  only_principal (Of n i) h = go (whose n)
    where
      at_zero : (m : Name) (k : Kind) → n ≡ m → is_of_pair e (Of m i) ≡ leb i (arity k) → end_times (Of m i) joins ≡ (if is_auxiliary i k then 1 else 0) → ◌≡◌ {A = Port} (Of n i) (Of m 0)
      at_zero m k j p q =
          let h' : gone (is_of_pair e) joins (Of m i) ≡ true = rw j at h in
          let h'' : leb i (arity k) && eqb (if is_auxiliary i k then 1 else 0) 0 ≡ true = rw (p, q) at h' in
          let z = first_port i k h'' in
          cc

      go : Whose n → (◌≡◌ {A = Port} (Of n i) (Of e.lead 0)) ⊎ (◌≡◌ {A = Port} (Of n i) (Of e.other 0))
      go (leads j) = inl (at_zero e.lead e.lead_kind j (pair_lead i) (ends_lead i))
      go (others j) = inr (at_zero e.other e.other_kind j (pair_other i) (ends_other i))
      go (neither x y) = let p = pair_neither n i x y in let h' : false && eqb (end_times (Of n i) joins) 0 ≡ true = rw p at h in cc

  -- the lead's is
  pub lead_gone : gone (is_of_pair e) joins (Of e.lead 0) ≡ true
  lead_gone = rw (pair_lead 0, ends_lead 0) (principal_gone e.lead_kind)

  -- and the other agent's
  pub other_gone : gone (is_of_pair e) joins (Of e.other 0) ≡ true
  other_gone = rw (pair_other 0, ends_other 0) (principal_gone e.other_kind)

  -- the ports of the pair are loose
  pub pair_loose : (x : Port) → is_of_pair e x ≡ true → IsLoose s es x
  pair_loose (port.Name j) h = cc
  pair_loose (Of n i) h = go (whose n)
    where
      go : Whose n → IsLoose s es (Of n i)
      go (leads j) = let h' : is_of_pair e (Of e.lead i) ≡ true = rw j at h in let l : leb i (arity e.lead_kind) ≡ true = sym (pair_lead i) ∙ h' in rw j (e.lead_kind, a.present.lead, leb-true i (arity e.lead_kind) l, lead_stands)
      go (others j) = let h' : is_of_pair e (Of e.other i) ≡ true = rw j at h in let l : leb i (arity e.other_kind) ≡ true = sym (pair_other i) ∙ h' in rw j (e.other_kind, a.present.other, leb-true i (arity e.other_kind) l, other_stands)
      go (neither x y) = let p = pair_neither n i x y in let z : false ≡ true = sym p ∙ h in cc

  -- a loose port of one of the pair's agents is the pair's
  module _ (n : Name) (i : ℕ) (l : IsLoose s es (Of n i)) where
    -- it has that port
    port_test : leb i (arity l.0) ≡ true
    port_test = le-leb i (arity l.0) l.2

    -- its kind is one
    kind_is : (k : Kind) → IsIn (n, k) (agents s es) → l.0 ≡ k
    kind_is k j = same_kind s ok es (fired_apart s f) n refl refl l.1 j

    -- where it is the lead's
    pub lead_port : n ≡ e.lead → is_of_pair e (Of n i) ≡ true
    lead_port j =
        let there : IsIn (n, e.lead_kind) (agents s es) = rw j a.present.lead in
        let t : leb i (arity e.lead_kind) ≡ true = rw (kind_is e.lead_kind there) at port_test in
        rw j (pair_lead i ∙ t)

    -- and where it is the other agent's
    pub other_port : n ≡ e.other → is_of_pair e (Of n i) ≡ true
    other_port j =
        let there : IsIn (n, e.other_kind) (agents s es) = rw j a.present.other in
        let t : leb i (arity e.other_kind) ≡ true = rw (kind_is e.other_kind there) at port_test in
        rw j (pair_other i ∙ t)

  -- any other loose port is no end of a link
  pub loose_pair : (x : Port) → IsLoose s es x → is_of_pair e x ≡ false → end_times x joins ≡ 0
  loose_pair (port.Name j) l p = ends_name j
  loose_pair (Of n i) l p = go (whose n)
    where
      go : Whose n → end_times (Of n i) joins ≡ 0
      go (leads j) = let z : true ≡ false = sym (lead_port n i l j) ∙ p in cc
      go (others j) = let z : true ≡ false = sym (other_port n i l j) ∙ p in cc
      go (neither x y) = ends_neither n i x y ∙ not_born n i (named_in n refl l.1.1)

  -- a child's port is not the pair's
  pub child_pair : (i j : ℕ) → is_of_pair e (Of (child_name e.lead i) j) ≡ false
  child_pair i j = pair_neither (child_name e.lead i) j (test_no _ _ (λ h. away e.lead h lead_named)) (test_no _ _ (λ h. away e.other h other_named))
    where
      away : (n : Name) → child_name e.lead i ≡ n → 1 ≤ named_times n (agents s es) → ⊥
      away n h m = let b = children_bound s es e.lead i in let z = lead_stands in let m' : 1 ≤ named_times (child_name e.lead i) (agents s es) = rw h m in absurd (omega (arith, m'))

  -- so the rule's ends fit the test
  pub fits : Fits (is_of_pair e) e (born_ends s.profile e.lead_kind e.other_kind)
  fits = fits_rule (is_of_pair e) s.profile e.lead_kind e.other_kind e child_pair (λ j h. pair_lead j ∙ h) (λ j h. pair_other j ∙ h)

  -- the principal ports are partners
  pub meet : (net_of s es).partner (Of e.lead 0) ≡ Some (Of e.other 0)
  meet = partner_is s ok es f (Of e.lead 0) a.wire.from_loose ∙ ap Some (far_by s ok es (fired_apart s f) e.lead e.other (λ i. differ (sym i)) a.wire.path.trail)
