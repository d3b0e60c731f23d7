-- Each loose port has one link end, and its partner is another loose port.
use Rattle.std.proofs.Common.{◌≡◌, ◌≢◌, ℕ, suc, zero, ◌+◌, ◌≤◌, Bool, true, false, List, [], ◌∷◌, ◌⊎◌, inl, inr, refl, sym, ap, arith, ◌∙◌, subst, Option, Some, None}
use Rattle.std.specs.Prelude.{if◌then◌else◌, leb}
use Rattle.std.proofs.lemmas.Bool.{eqb-true, eq-eqb, le-leb, leb-true}
use Rattle.ic_name.specs.Names.{Name}
use Rattle.ic_name.specs.Kinds.{arity}
use Rattle.ic_name.specs.declared.kinds.Kind.{Kind}
use Rattle.ic_name.specs.declared.ports.Port.{Port}
use Rattle.ic_name.specs.declared.ports.Port.TheVariants.{Of}
use Rattle.ic_name.specs.declared.ports.Port.TheVariants as port
use Rattle.ic_name.specs.Events.{Event}
use Rattle.ic_name.specs.Same.{same_name}
use Rattle.ic_name.proofs.SameFacts.{same_name_true}
use Rattle.ic_path.specs.Links.{Shape, degree, IsSlim}
use Rattle.ic_path.specs.Orders.{Pick, here, there, IsIn}
use Rattle.ic_path.specs.Trails.{Trail, stays, goes, Reaches}
use Rattle.ic_path.specs.FarEnds.{far}
use Rattle.ic_path.proofs.Ends.{hit, hit_self, even-trail, degree-trail, reaches_far, reaches_one, starts}
use Rattle.ic_path.proofs.Orders.{far-far}
use Rattle.ic_theory.specs.Born.{Link}
use Rattle.ic_theory.specs.Starts.{Start, net_shape, port_times, IsProper}
use Rattle.ic_theory.specs.Sets.{agents, links, named_times, consumed_times}
use Rattle.ic_theory.specs.Wires.{IsLoose, Path, IsWire}
use Rattle.ic_theory.specs.Firings.{IsFired}
use Rattle.ic_theory.specs.Nets.{kind_of, has_port, is_loose, is_free, net_of}
use Rattle.ic_theory.proofs.Counts.{names_once, slim}
use Rattle.ic_theory.proofs.Exact.{is_auxiliary, joints_by, joints_times, exact_degree}
use Rattle.ic_theory.proofs.Future.{fired_apart, was_fired, WasFired, consumer, Consumer, named_in, is_named, test_off, lead_far, other_far, loose_end}
use Rattle.ic_theory.proofs.NameKinds.{kind_there, kind_parts}

-- a name of no agent has no port
no_port : (n : Name) (i : ℕ) (xs : List (Name × Kind)) → named_times n xs ≡ 0 → port_times n i xs ≡ 0
no_port n i [] h = refl
no_port n i (x ∷ xs) h = go (same_name n x.0) refl (no_port n i xs (omega arith))
  where
    go : (b : Bool) → same_name n x.0 ≡ b → port_times n i xs ≡ 0 → port_times n i (x ∷ xs) ≡ 0
    go true e ih = let h' = rw e at h in absurd (omega (arith, h'))
    go false e ih = rw e (omega (arith, ih))

-- a name that is one agent's has the ports of that agent, each once
pub port_once : (n : Name) (i : ℕ) {x : Name × Kind} {xs rest : List (Name × Kind)} → n ≡ x.0 → named_times n xs ≤ 1 → Pick x xs rest → port_times n i xs ≡ (if leb i (arity x.1) then 1 else 0)
port_once n i {x = x} e h (here {xs = rest}) = let t : same_name n x.0 ≡ true = is_named e in let h' = rw t at h in let z = no_port n i rest (omega (arith, h')) in rw t (omega (arith, z))
port_once n i {x = x} e h (there {y = y} {xs = xs} k) = go (same_name n y.0) refl (named_in n e k) (port_once n i e (omega arith) k)
  where
    go : (b : Bool) → same_name n y.0 ≡ b → 1 ≤ named_times n xs → port_times n i xs ≡ (if leb i (arity x.1) then 1 else 0) → port_times n i (y ∷ xs) ≡ (if leb i (arity x.1) then 1 else 0)
    go true f j ih = let h' = rw f at h in absurd (omega (arith, h', j))
    go false f j ih = rw f (omega (arith, ih))

-- where a port is counted there is an agent that has it
pub port_owner : (n : Name) (i : ℕ) (xs : List (Name × Kind)) → 1 ≤ port_times n i xs → (k : Kind) × IsIn (n, k) xs × (leb i (arity k) ≡ true)
port_owner n i [] h = absurd (omega arith)
port_owner n i (x ∷ xs) h = go (same_name n x.0) (leb i (arity x.1)) refl refl (port_owner n i xs)
  where
    more_in : ((k : Kind) × IsIn (n, k) xs × (leb i (arity k) ≡ true)) → (k : Kind) × IsIn (n, k) (x ∷ xs) × (leb i (arity k) ≡ true)
    more_in r = (r.0, (_, there r.1.1), r.2)

    go : (b c : Bool) → same_name n x.0 ≡ b → leb i (arity x.1) ≡ c → (1 ≤ port_times n i xs → (k : Kind) × IsIn (n, k) xs × (leb i (arity k) ≡ true)) → (k : Kind) × IsIn (n, k) (x ∷ xs) × (leb i (arity k) ≡ true)
    go true true e f r = let j : n ≡ x.0 = same_name_true n x.0 e in let same : ◌≡◌ {A = Name × Kind} x (n, x.1) = λ t. (sym j t, x.1) in (x.1, (xs, rw (← same) here), f)
    go true false e f r = let h' = rw (e, f) at h in more_in (r (omega (arith, h')))
    go false c e f r = let h' = rw e at h in more_in (r (omega (arith, h')))

-- two tests count less than one
aux_bound : (a b : Bool) → (if a then (if b then 1 else 0) else 0) ≤ (if b then 1 else 0)
aux_bound true b = omega arith
aux_bound false b = omega arith

-- only consumed agents have joints
pub joints_bound : (n : Name) (i : ℕ) (es : List Event) → joints_times n i es ≤ consumed_times n es
joints_bound n i [] = omega arith
joints_bound n i (e ∷ es) =
    let ih = joints_bound n i es in
    let a = aux_bound (is_auxiliary i e.lead_kind) (same_name n e.lead) in
    let b = aux_bound (is_auxiliary i e.other_kind) (same_name n e.other) in
    omega arith

-- an event makes a joint only of what it consumes
joint_by : (n : Name) (i : ℕ) (e : Event) → joints_by n i e.lead_kind e.other_kind e ≤ (if same_name n e.lead then 1 else 0) + (if same_name n e.other then 1 else 0)
joint_by n i e = let a = aux_bound (is_auxiliary i e.lead_kind) (same_name n e.lead) in let b = aux_bound (is_auxiliary i e.other_kind) (same_name n e.other) in omega arith

-- an agent of an event of the list is consumed
in_times : (n : Name) {e : Event} {es rest : List Event} → (n ≡ e.lead) ⊎ (n ≡ e.other) → Pick e es rest → 1 ≤ consumed_times n es
in_times n (inl h) here = rw (is_named h) (omega arith)
in_times n (inr h) here = rw (is_named h) (omega arith)
in_times n h (there k) = let ih = in_times n h k in omega arith

-- the auxiliary ports of a consumed agent are joints, each once
lead_joints : (n : Name) (i : ℕ) {e : Event} {es rest : List Event} → n ≡ e.lead → consumed_times n es ≤ 1 → Pick e es rest → joints_times n i es ≡ (if is_auxiliary i e.lead_kind then 1 else 0)
lead_joints n i {e = e} h c (here {xs = rest}) =
    let t : same_name n e.lead ≡ true = is_named h in
    let c' = rw t at c in
    let b = joints_bound n i rest in
    let x = aux_bound (is_auxiliary i e.other_kind) (same_name n e.other) in
    rw t (omega (arith, c', b, x))
lead_joints n i h c (there {y = y} {xs = xs} k) = let ih = lead_joints n i h (omega arith) k in let m = in_times n (inl h) k in let x = joint_by n i y in omega arith

-- those of the other agent
other_joints : (n : Name) (i : ℕ) {e : Event} {es rest : List Event} → n ≡ e.other → consumed_times n es ≤ 1 → Pick e es rest → joints_times n i es ≡ (if is_auxiliary i e.other_kind then 1 else 0)
other_joints n i {e = e} h c (here {xs = rest}) =
    let t : same_name n e.other ≡ true = is_named h in
    let c' = rw t at c in
    let b = joints_bound n i rest in
    let x = aux_bound (is_auxiliary i e.lead_kind) (same_name n e.lead) in
    rw t (omega (arith, c', b, x))
other_joints n i h c (there {y = y} {xs = xs} k) = let ih = other_joints n i h (omega arith) k in let m = in_times n (inr h) k in let x = joint_by n i y in omega arith

-- the far end of a port with one link end is another port with one
module _ {P L : Type 0} (g : Shape P L) (ls : List L) (slim : IsSlim g ls) (p : P) (d : degree g ls p ≡ 1) where
  -- the trail from the port to its far end
  reach : Reaches g ls p (far g ls p)
  reach = reaches_far g ls p slim (omega arith)

  -- the far end is another port
  pub far_other : far g ls p ≡ p → ⊥
  far_other e =
      let r : Reaches g ls p p = rw e at reach in
      let k = even-trail g r.trail p in
      let k2 = k.1 in
      let t = degree-trail g r.trail p in
      let o : hit g p p ≡ 1 = hit_self g p in
      let st = r.stops in
      omega arith

  -- and has one link end
  pub far_degree : degree g ls (far g ls p) ≡ 1
  far_degree =
      let r = reach in
      let k = even-trail g r.trail (far g ls p) in
      let k2 = k.1 in
      let t = degree-trail g r.trail (far g ls p) in
      let o : hit g (far g ls p) (far g ls p) ≡ 1 = hit_self g (far g ls p) in
      let z : hit g (far g ls p) p ≡ 0 = rw (test_off g (far g ls p) p far_other) refl in
      let st = r.stops in
      let s = slim (far g ls p) in
      omega arith

-- a trail to another port has a link
pub path_of : {ls ss rest : List Link} {p q : Port} → Trail net_shape ls p ss q rest → p ≢ q → Path ls p q
path_of stays n = absurd (n refl)
path_of (goes k w t) n = record { first = _; others = _; left_over = _; trail = goes k w t }

module _ (s : Start) (ok : IsProper s) (es : List Event) (f : IsFired s es) where
  -- the number of link ends at a port of an agent that isn't consumed
  pub standing_degree : (n : Name) (i : ℕ) → consumed_times n es ≡ 0 → degree net_shape (links s es) (Of n i) ≡ port_times n i (agents s es)
  standing_degree n i z = let d = exact_degree s ok es n i in let j = joints_bound n i es in omega arith

  -- the test for loose ports says what it is to say
  pub loose_true : (p : Port) → is_loose (kind_of s es) (is_free s es) p ≡ true → IsLoose s es p
  loose_true (port.Name j) h = eqb-true (degree net_shape (links s es) (port.Name j)) 1 h
  loose_true (Of n i) h = go (kind_of s es n) refl h
    where
      go : (k : Option Kind) → kind_of s es n ≡ k → has_port k i ≡ true → IsLoose s es (Of n i)
      go None e t = cc
      go (Some k) e t = let a = kind_parts s es n k e in (k, a.0, leb-true i (arity k) t, a.1)

  -- and the other way round
  pub true_loose : (p : Port) → IsLoose s es p → is_loose (kind_of s es) (is_free s es) p ≡ true
  true_loose (port.Name j) h = eq-eqb (degree net_shape (links s es) (port.Name j)) 1 h
  true_loose (Of n i) h = let k = kind_there s ok es f n h.0 h.1 h.3 in rw k (le-leb i (arity h.0) h.2)

  -- a loose port has one link end
  pub loose_degree : (p : Port) → IsLoose s es p → degree net_shape (links s es) p ≡ 1
  loose_degree (port.Name j) h = h
  loose_degree (Of n i) h =
      let t = port_once n i refl (names_once s es (fired_apart s f) n) h.1.1 in
      let l : leb i (arity h.0) ≡ true = le-leb i (arity h.0) h.2 in
      let t' : port_times n i (agents s es) ≡ 1 = rw l at t in
      standing_degree n i h.3 ∙ t'

  -- of an agent's joints each has two link ends, so a port with one is the principal one
  one_end : (i : ℕ) (k : Kind) → (if leb i (arity k) then 1 else 0) + (if is_auxiliary i k then 1 else 0) ≡ 1 → i ≡ 0
  one_end zero k e = refl
  one_end (suc i) k e = go (leb (suc i) (arity k)) (rw l at e)
    where
      l : leb 1 (suc i) ≡ true
      l = le-leb 1 (suc i) (omega arith)

      go : (t : Bool) → (if t then 1 else 0) + (if t then 1 else 0) ≡ 1 → suc i ≡ 0
      go true e = absurd (omega arith)
      go false e = absurd (omega arith)

  -- a consumed agent's port with one link end is its principal port, and its far end is its partner's
  pub consumed_end : (n : Name) (i : ℕ) → degree net_shape (links s es) (Of n i) ≡ 1 → Consumer n es → (i ≡ 0) × ((m : Name) × (far net_shape (links s es) (Of n 0) ≡ Of m 0) × (1 ≤ consumed_times m es))
  consumed_end n i d c = go c.consumes
    where
      w : WasFired s es c.event
      w = was_fired s f c.among.1

      once : named_times n (agents s es) ≤ 1
      once = names_once s es (fired_apart s f) n

      go : (n ≡ c.event.lead) ⊎ (n ≡ c.event.other) → (i ≡ 0) × ((m : Name) × (far net_shape (links s es) (Of n 0) ≡ Of m 0) × (1 ≤ consumed_times m es))
      go (inl h) =
          let t = port_once n i h once w.present.lead.1 in
          let j = lead_joints n i h (fired_apart s f n) c.among.1 in
          let e = exact_degree s ok es n i in
          let far_is = lead_far s ok es (fired_apart s f) c.event w in
          (one_end i c.event.lead_kind (omega arith), (c.event.other, rw h far_is, in_times c.event.other (inr refl) c.among.1))
      go (inr h) =
          let t = port_once n i h once w.present.other.1 in
          let j = other_joints n i h (fired_apart s f n) c.among.1 in
          let e = exact_degree s ok es n i in
          let far_is = other_far s ok es (fired_apart s f) c.event w in
          (one_end i c.event.other_kind (omega arith), (c.event.lead, rw h far_is, in_times c.event.lead (inl refl) c.among.1))

  -- no port has more than two link ends
  slim_now : IsSlim net_shape (links s es)
  slim_now = slim s ok es (fired_apart s f)

  -- the far end of a loose port is another loose port, whose far end it is
  pub loose_far : (p : Port) → IsLoose s es p → IsLoose s es (far net_shape (links s es) p) × (far net_shape (links s es) p ≢ p) × (far net_shape (links s es) (far net_shape (links s es) p) ≡ p)
  loose_far p h = (go (far net_shape (links s es) p) refl (far_degree net_shape (links s es) slim_now p d), far_other net_shape (links s es) slim_now p d, back)
    where
      d : degree net_shape (links s es) p ≡ 1
      d = loose_degree p h

      back : far net_shape (links s es) (far net_shape (links s es) p) ≡ p
      back = far-far net_shape (links s es) slim_now p (omega (arith, d))

      standing : (x : Port) → x ≡ p → (m : Name) → x ≡ Of m 0 → 1 ≤ consumed_times m es → ⊥
      standing x e m i c = let l : IsLoose s es (Of m 0) = rw (sym e ∙ i) at h in let z = l.3 in absurd (omega arith)

      owned : (n : Name) (i : ℕ) → consumed_times n es ≡ 0 → degree net_shape (links s es) (Of n i) ≡ 1 → IsLoose s es (Of n i)
      owned n i z e = let t = standing_degree n i z in let o = port_owner n i (agents s es) (omega arith) in (o.0, o.1, leb-true i (arity o.0) o.2, z)

      go : (q : Port) → far net_shape (links s es) p ≡ q → degree net_shape (links s es) q ≡ 1 → IsLoose s es q
      go (port.Name j) e t = t
      go (Of n i) e t = by_count (consumed_times n es) refl
        where
          by_count : (m : ℕ) → consumed_times n es ≡ m → IsLoose s es (Of n i)
          by_count zero z = owned n i z t
          by_count (suc m) z =
              let c = consumed_end n i t (consumer n es (omega arith)) in
              let first : Of n i ≡ Of n 0 = ap (λ x. Of n x) c.0 in
              let there_far : far net_shape (links s es) (Of n 0) ≡ p = rw (e ∙ first) at back in
              absurd (standing p refl c.1.0 (sym there_far ∙ c.1.1) c.1.2)

  -- the partner of a loose port is its far end, and no other port has one
  pub partner_is : (p : Port) → IsLoose s es p → (net_of s es).partner p ≡ Some (far net_shape (links s es) p)
  partner_is p h = rw (true_loose p h) refl

  -- a port with a partner is loose, and the partner is its far end
  pub has_partner : (p q : Port) → (net_of s es).partner p ≡ Some q → IsLoose s es p × (q ≡ far net_shape (links s es) p)
  has_partner p q h = go (is_loose (kind_of s es) (is_free s es) p) refl h
    where
      go : (b : Bool) → is_loose (kind_of s es) (is_free s es) p ≡ b → (if b then Some (far net_shape (links s es) p) else None) ≡ Some q → IsLoose s es p × (q ≡ far net_shape (links s es) p)
      go true t e = (loose_true p t, cc)
      go false t e = cc

  -- a port that isn't loose has none
  pub no_partner : (p : Port) → (IsLoose s es p → ⊥) → (net_of s es).partner p ≡ None
  no_partner p n = go (is_loose (kind_of s es) (is_free s es) p) refl
    where
      go : (b : Bool) → is_loose (kind_of s es) (is_free s es) p ≡ b → (if b then Some (far net_shape (links s es) p) else None) ≡ None
      go true t = absurd (n (loose_true p t))
      go false t = refl

  -- a port's partner is another port whose partner it is
  pub partners_back : (p q : Port) → (net_of s es).partner p ≡ Some q → (q ≢ p) × ((net_of s es).partner q ≡ Some p)
  partners_back p q h =
      let a = has_partner p q h in
      let l = loose_far p a.0 in
      let back = partner_is (far net_shape (links s es) p) l.0 ∙ ap Some l.2 in
      (rw a.1 l.1, rw a.1 back)

  -- a port's partner is the other end of its wire
  pub partner_wire : (p q : Port) → (net_of s es).partner p ≡ Some q → IsWire s es p q
  partner_wire p q h =
      let a = has_partner p q h in
      let l = loose_far p a.0 in
      let d = loose_degree p a.0 in
      let r = reaches_far net_shape (links s es) p slim_now (omega (arith, d)) in
      rw a.1 (record { path = path_of r.trail (λ e. l.1 (sym e)); from_loose = a.0; to_loose = l.0 })

  -- and the other end of a port's wire is its partner
  pub wire_partner : (p q : Port) → IsWire s es p q → (net_of s es).partner p ≡ Some q
  wire_partner p q w = partner_is p w.from_loose ∙ ap Some far_is
    where
      dp : degree net_shape (links s es) p ≡ 1
      dp = loose_degree p w.from_loose

      dq : degree net_shape (links s es) q ≡ 1
      dq = loose_degree q w.to_loose

      away : q ≡ p → ⊥
      away e =
          let t : Trail net_shape (links s es) p (w.path.first ∷ w.path.others) p w.path.left_over = subst (λ x. Trail net_shape (links s es) p (w.path.first ∷ w.path.others) x w.path.left_over) e w.path.trail in
          let k = even-trail net_shape t p in
          let k2 = k.1 in
          let m = k.0 in
          let d = degree-trail net_shape t p in
          let i = starts net_shape w.path.first t in
          let o : hit net_shape p p ≡ 1 = hit_self net_shape p in
          let one = dp in
          absurd (omega arith)

      far_is : far net_shape (links s es) p ≡ q
      far_is = reaches_one net_shape slim_now (omega (arith, dp)) (reaches_far net_shape (links s es) p slim_now (omega (arith, dp))) (loose_end net_shape p q slim_now (omega (arith, dq)) away w.path.trail)
