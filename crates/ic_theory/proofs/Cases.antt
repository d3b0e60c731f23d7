-- The links of a rule, taken one by one by their cases, do to the partners what the splices do to the far ends.
use Rattle.std.proofs.Common.{◌≡◌, ◌≢◌, ℕ, ◌+◌, ◌≤◌, Bool, true, false, List, [], ◌∷◌, ◌⊎◌, inl, inr, refl, sym, ap, arith, ◌∙◌, Option, Some, None}
use Rattle.std.specs.Prelude.{if◌then◌else◌, ◌&&◌, eqb, unwrap_or}
use Rattle.std.proofs.Math.Bool.{and-false}
use Rattle.std.proofs.lemmas.Bool.{ne_eqb}
use Rattle.ic_name.specs.Events.{Event}
use Rattle.ic_name.specs.Same.{same_port}
use Rattle.ic_name.proofs.SameFacts.{same_port_self}
use Rattle.ic_name.specs.declared.ports.Port.{Port}
use Rattle.ic_name.specs.declared.rules.RuleEnd.{RuleEnd}
use Rattle.ic_name.specs.declared.rules.RuleEnd.TheVariants.{Child, Lead, Other}
use Rattle.ic_path.specs.Links.{degree}
use Rattle.ic_path.specs.FarEnds.{splice}
use Rattle.ic_theory.specs.Born.{port_of, placed}
use Rattle.ic_theory.specs.Starts.{net_shape}
use Rattle.ic_theory.specs.Steps.{Wiring, without, take_link, take_links, pass_found, join_found}
use Rattle.ic_theory.proofs.Counts.{one_if, rule_ports}
use Rattle.ic_theory.proofs.Splices.{Ends, join, join_all}
use Rattle.ic_theory.proofs.Wirings.{on, off, decide, read, read_gone, read_bare, read_far, AreMates, IsNext, next_mates, stays_bare, stays_held, joins_children, passes_on, joins_found, counts_rings}

-- how many ends of the list are at the port
abbrev pub end_times : Port → List (Port × Port) → ℕ
end_times x [] = 0
end_times x (l ∷ ls) = (one_if (same_port x l.0) + one_if (same_port x l.1)) + end_times x ls

-- the port is one of the pair's, and no link at it is left to take
abbrev pub gone : (Port → Bool) → List (Port × Port) → Port → Bool
gone pair ls x = pair x && eqb (end_times x ls) 0

-- the end is a port of the pair
abbrev pub of_pair : RuleEnd → Bool
of_pair (Child i j) = false
of_pair (Lead j) = true
of_pair (Other j) = true

-- where a child's port is linked to one of the pair it comes first
abbrev pub in_order : RuleEnd → RuleEnd → Bool
in_order (Child i j) y = true
in_order (Lead j) y = of_pair y
in_order (Other j) y = of_pair y

-- the test tells the pair's ports from the children's
abbrev pub Fits : (Port → Bool) → Event → List (RuleEnd × RuleEnd) → Type 0
Fits pair e [] = Unit {0}
Fits pair e (l ∷ ls) = (pair (port_of e l.0) ≡ of_pair l.0) × (pair (port_of e l.1) ≡ of_pair l.1) × (in_order l.0 l.1 ≡ true) × Fits pair e ls

-- the wiring says what the far ends say, while the links of the list are left to take
pub record Tracks (pair : Port → Bool) (ls : List (Port × Port)) (v : Wiring) (w : Ends) : Type 0 where
  pub partners : (x : Port) → v.partner x ≡ read (gone pair ls) w.far x
  pub mates : AreMates (gone pair ls) w.far
  pub fresh : (x : Port) → 1 ≤ end_times x ls → pair x ≡ false → w.far x ≡ x
  pub held : (x : Port) → 1 ≤ end_times x ls → pair x ≡ true → w.far x ≢ x
  pub rings : v.rings ≡ w.rings

module _ (pair : Port → Bool) (a b : Port) (ls : List (Port × Port)) (v : Wiring) (w : Ends) (t : Tracks pair ((a, b) ∷ ls) v w) (once : (x : Port) → end_times x ((a, b) ∷ ls) ≤ 1) where
  -- the link's two ports are two
  differ : a ≢ b
  differ e = let o = once a in let s = same_port_self a in let k : same_port a b ≡ true = on e in let o' = rw (s, k) at o in absurd (omega (arith, o'))

  -- one link at its first port is left to take
  at_a : end_times a ((a, b) ∷ ls) ≡ 1
  at_a = let o = once a in let s = same_port_self a in let o' = rw s at o in rw s (omega (arith, o'))

  -- and one at its second port
  at_b : end_times b ((a, b) ∷ ls) ≡ 1
  at_b = let o = once b in let s = same_port_self b in let o' = rw s at o in rw s (omega (arith, o'))

  -- a port at which a link is left to take isn't gone
  not_gone : (x : Port) → 1 ≤ end_times x ((a, b) ∷ ls) → gone pair ((a, b) ∷ ls) x ≡ false
  not_gone x h = let n : eqb (end_times x ((a, b) ∷ ls)) 0 ≡ false = ne_eqb (end_times x ((a, b) ∷ ls)) 0 (λ e. omega arith) in rw n (and-false (pair x))

  -- once the link is taken there is none at its ports
  none_left : (x : Port) → (x ≡ a) ⊎ (x ≡ b) → end_times x ls ≡ 0
  none_left x (inl i) = let o = once x in let s : same_port x a ≡ true = on i in let o' = rw s at o in omega (arith, o')
  none_left x (inr i) = let o = once x in let s : same_port x b ≡ true = on i in let o' = rw s at o in omega (arith, o')

  -- the port of a pair is gone once its link is taken, a child's isn't
  next : IsNext (gone pair ((a, b) ∷ ls)) (gone pair ls) w.far a b
  next = record {
    others = λ x n k. rw (off n, off k) (let z : 0 + 0 + end_times x ls ≡ end_times x ls = omega arith in ap (λ m. pair x && eqb m 0) (sym z));
    free_a = λ h. free a (inl refl) (omega (arith, at_a)) h;
    free_b = λ h. free b (inr refl) (omega (arith, at_b)) h;
    used_a = λ h. used a (inl refl) (omega (arith, at_a)) h;
    used_b = λ h. used b (inr refl) (omega (arith, at_b)) h;
  }
    where
      free : (x : Port) → (x ≡ a) ⊎ (x ≡ b) → 1 ≤ end_times x ((a, b) ∷ ls) → w.far x ≡ x → gone pair ls x ≡ false
      free x i o h = go (pair x) refl
        where
          go : (c : Bool) → pair x ≡ c → gone pair ls x ≡ false
          go true p = absurd (t.held x o p h)
          go false p = rw p refl

      used : (x : Port) → (x ≡ a) ⊎ (x ≡ b) → 1 ≤ end_times x ((a, b) ∷ ls) → w.far x ≢ x → gone pair ls x ≡ true
      used x i o h = go (pair x) refl
        where
          go : (c : Bool) → pair x ≡ c → gone pair ls x ≡ true
          go true p = rw (p, none_left x i) refl
          go false p = absurd (h (t.fresh x o p))

  -- its first port isn't gone before
  ga : gone pair ((a, b) ∷ ls) a ≡ false
  ga = not_gone a (omega (arith, at_a))

  -- nor is its second port
  gb : gone pair ((a, b) ∷ ls) b ≡ false
  gb = not_gone b (omega (arith, at_b))

  -- a port at which a link is left to take is none of this link's
  later : (x : Port) → 1 ≤ end_times x ls → (x ≢ a) × (x ≢ b)
  later x h = (λ i. let z = none_left x (inl i) in absurd (omega arith), λ i. let z = none_left x (inr i) in absurd (omega arith))

  -- what is left to show of a step: the partners and the rings
  stepped : (v' : Wiring) → ((x : Port) → v'.partner x ≡ read (gone pair ls) (splice net_shape w.far a b) x) → v'.rings ≡ (if same_port (w.far a) b then 1 else 0) + v.rings → Tracks pair ls v' (join w (a, b))
  stepped v' p r = record {
    partners = p;
    mates = next_mates (gone pair ((a, b) ∷ ls)) w.far t.mates a b differ ga gb (gone pair ls) next;
    fresh = λ x h k. let n = later x h in stays_bare (gone pair ((a, b) ∷ ls)) w.far t.mates a b differ ga gb x n.0 n.1 (t.fresh x (omega (arith, h)) k);
    held = λ x h k. let n = later x h in stays_held (gone pair ((a, b) ∷ ls)) w.far t.mates a b differ ga gb x n.0 n.1 (t.held x (omega (arith, h)) k);
    rings = let e = t.rings in rw (← e) r;
  }

  -- a link with a fresh port closes no ring
  no_ring : w.far a ≡ a → same_port (w.far a) b ≡ false
  no_ring h = rw h (off differ)

  -- a link between children
  pub takes_children : pair a ≡ false → pair b ≡ false → Tracks pair ls (take_link (Child 0 0) (Child 0 0) a b v) (join w (a, b))
  takes_children pa pb =
      let ha = t.fresh a (omega (arith, at_a)) pa in
      let hb = t.fresh b (omega (arith, at_b)) pb in
      stepped (take_link (Child 0 0) (Child 0 0) a b v) (joins_children (gone pair ((a, b) ∷ ls)) w.far t.mates a b differ ga gb (gone pair ls) next v t.partners ha hb) (rw (no_ring ha) (omega arith))

  -- a link between a child and the pair
  pub takes_pass : pair a ≡ false → pair b ≡ true → Tracks pair ls (pass_found (v.partner b) a b v) (join w (a, b))
  takes_pass pa pb =
      let ha = t.fresh a (omega (arith, at_a)) pa in
      let hb = t.held b (omega (arith, at_b)) pb in
      let f : v.partner b ≡ Some (w.far b) = t.partners b ∙ read_far (gone pair ((a, b) ∷ ls)) w.far b (w.far b) gb refl (λ e. hb (sym e)) in
      rw f (stepped (pass_found (Some (w.far b)) a b v) (passes_on (gone pair ((a, b) ∷ ls)) w.far t.mates a b differ ga gb (gone pair ls) next v t.partners ha hb) (rw (no_ring ha) (omega arith)))

  -- a link between two ports of the pair
  pub takes_join : pair a ≡ true → pair b ≡ true → Tracks pair ls (join_found (v.partner a) (v.partner b) a b v) (join w (a, b))
  takes_join pa pb =
      let ha = t.held a (omega (arith, at_a)) pa in
      let hb = t.held b (omega (arith, at_b)) pb in
      let fa : v.partner a ≡ Some (w.far a) = t.partners a ∙ read_far (gone pair ((a, b) ∷ ls)) w.far a (w.far a) ga refl (λ e. ha (sym e)) in
      let fb : v.partner b ≡ Some (w.far b) = t.partners b ∙ read_far (gone pair ((a, b) ∷ ls)) w.far b (w.far b) gb refl (λ e. hb (sym e)) in
      rw (fa, fb) (
      stepped (join_found (Some (w.far a)) (Some (w.far b)) a b v)
      (joins_found (gone pair ((a, b) ∷ ls)) w.far t.mates a b differ ga gb (gone pair ls) next v t.partners ha hb)
      (counts_rings (gone pair ((a, b) ∷ ls)) w.far t.mates a b differ ga gb (gone pair ls) next v t.partners)
      )

  -- a port without a partner that is no end of the link stays so
  pub bare_step : (x : Port) → pair x ≡ false → end_times x ((a, b) ∷ ls) ≡ 0 → w.far x ≡ x → (join w (a, b)).far x ≡ x
  bare_step x p z h = stays_bare (gone pair ((a, b) ∷ ls)) w.far t.mates a b differ ga gb x (λ i. let k : same_port x a ≡ true = on i in let z' = rw k at z in absurd (omega (arith, z'))) (λ i. let k : same_port x b ≡ true = on i in let z' = rw k at z in absurd (omega (arith, z'))) h

-- the case that fits takes the link
take_case : (pair : Port → Bool) (x y : RuleEnd) (a b : Port) (ls : List (Port × Port)) (v : Wiring) (w : Ends) → Tracks pair ((a, b) ∷ ls) v w → ((z : Port) → end_times z ((a, b) ∷ ls) ≤ 1)
    → pair a ≡ of_pair x → pair b ≡ of_pair y → in_order x y ≡ true → Tracks pair ls (take_link x y a b v) (join w (a, b))
take_case pair (Child i j) (Child k l) a b ls v w t o p q r = takes_children pair a b ls v w t o p q
take_case pair (Child i j) (Lead l) a b ls v w t o p q r = takes_pass pair a b ls v w t o p q
take_case pair (Child i j) (Other l) a b ls v w t o p q r = takes_pass pair a b ls v w t o p q
take_case pair (Lead j) (Child k l) a b ls v w t o p q r = cc
take_case pair (Other j) (Child k l) a b ls v w t o p q r = cc
take_case pair (Lead j) (Lead l) a b ls v w t o p q r = takes_join pair a b ls v w t o p q
take_case pair (Lead j) (Other l) a b ls v w t o p q r = takes_join pair a b ls v w t o p q
take_case pair (Other j) (Lead l) a b ls v w t o p q r = takes_join pair a b ls v w t o p q
take_case pair (Other j) (Other l) a b ls v w t o p q r = takes_join pair a b ls v w t o p q

-- the links of a rule are taken in turn
pub take_all : (pair : Port → Bool) (e : Event) (ls : List (RuleEnd × RuleEnd)) (v : Wiring) (w : Ends) → Tracks pair (rule_ports e ls) v w → ((z : Port) → end_times z (rule_ports e ls) ≤ 1) → Fits pair e ls
    → Tracks pair [] (take_links e ls v) (join_all w (rule_ports e ls))
take_all pair e [] v w t o f = t
take_all pair e (l ∷ ls) v w t o f =
    let n = take_case pair l.0 l.1 (port_of e l.0) (port_of e l.1) (rule_ports e ls) v w t o f.0 f.1 f.2 in
    take_all pair e ls (take_link l.0 l.1 (port_of e l.0) (port_of e l.1) v) (join w (port_of e l.0, port_of e l.1)) n (λ z. let h = o z in omega arith) f.3

-- a port that isn't the pair's, has no partner and is no end of a link is its own far end at the end
pub bare_all : (pair : Port → Bool) (e : Event) (ls : List (RuleEnd × RuleEnd)) (v : Wiring) (w : Ends) → Tracks pair (rule_ports e ls) v w → ((z : Port) → end_times z (rule_ports e ls) ≤ 1) → Fits pair e ls
    → (x : Port) → pair x ≡ false → end_times x (rule_ports e ls) ≡ 0 → w.far x ≡ x → (join_all w (rule_ports e ls)).far x ≡ x
bare_all pair e [] v w t o f x p z h = h
bare_all pair e (l ∷ ls) v w t o f x p z h =
    let n = take_case pair l.0 l.1 (port_of e l.0) (port_of e l.1) (rule_ports e ls) v w t o f.0 f.1 f.2 in
    let b = bare_step pair (port_of e l.0) (port_of e l.1) (rule_ports e ls) v w t o x p z h in
    bare_all pair e ls (take_link l.0 l.1 (port_of e l.0) (port_of e l.1) v) (join w (port_of e l.0, port_of e l.1)) n (λ y. let k = o y in omega arith) f.3 x p (omega arith) b

-- the number of ends is the degree in the links
pub end_degree : (x : Port) (m : Option Event) (k : ℕ) (ls : List (Port × Port)) → degree net_shape (placed m k ls) x ≡ end_times x ls
end_degree x m k [] = refl
end_degree x m k (l ∷ ls) = let ih = end_degree x m (k + 1) ls in omega arith

-- the partner of each port, before a step's links are taken
module _ (partner : Port → Option Port) (back : (p q : Port) → partner p ≡ Some q → (q ≢ p) × (partner q ≡ Some p)) (a b : Port) (meet : partner a ≡ Some b) where
  -- a port without a partner is its own far end
  abbrev far_of : Port → Port
  far_of x = unwrap_or (partner x) x

  -- a port without a partner is its own far end, as computed
  pub far_none : (x : Port) → partner x ≡ None → far_of x ≡ x
  far_none x h = rw h refl

  -- a port's partner is its far end
  far_some : (x q : Port) → partner x ≡ Some q → far_of x ≡ q
  far_some x q h = rw h refl

  -- a port has a partner or none
  found : (x : Port) → (partner x ≡ None) ⊎ ((q : Port) × (partner x ≡ Some q))
  found x = go (partner x) refl
    where
      go : (o : Option Port) → partner x ≡ o → (partner x ≡ None) ⊎ ((q : Port) × (partner x ≡ Some q))
      go None h = inl h
      go (Some q) h = inr (q, h)

  -- before the first link the wiring says what the far ends say: only the two principal ports are gone
  pub begins : (pair : Port → Bool) (ls : List (Port × Port)) (r : ℕ) → gone pair ls a ≡ true → gone pair ls b ≡ true → ((x : Port) → gone pair ls x ≡ true → (x ≡ a) ⊎ (x ≡ b))
      → ((x q : Port) → partner x ≡ Some q → 1 ≤ end_times x ls → pair x ≡ true) → ((x : Port) → pair x ≡ true → (q : Port) × (partner x ≡ Some q))
      → Tracks pair ls (record { partner = without a (without b partner); rings = r }) (record { far = far_of; rings = r })
  begins pair ls r ga gb only old there = record {
    partners = at_port;
    mates = record { back = far_back; kept = far_kept };
    fresh = λ x h p. bare x h p (found x);
    held = λ x h p e. let w = there x p in let n = back x w.0 w.1 in n.0 (sym (far_some x w.0 w.1) ∙ e);
    rings = refl;
  }
    where
      absent : (x : Port) → (x ≡ a) ⊎ (x ≡ b) → gone pair ls x ≡ true
      absent x (inl i) = rw i ga
      absent x (inr i) = rw i gb

      here_still : (x : Port) → x ≢ a → x ≢ b → gone pair ls x ≡ false
      here_still x n k = go (gone pair ls x) refl
        where
          go : (t : Bool) → gone pair ls x ≡ t → gone pair ls x ≡ false
          go true h = absurd (elim (only x h) [ inl i ↦ n i | inr i ↦ k i ])
          go false h = h

      at_port : (x : Port) → without a (without b partner) x ≡ read (gone pair ls) far_of x
      at_port x = go (decide x a) (decide x b) (found x)
        where
          go : (x ≡ a) ⊎ (x ≢ a) → (x ≡ b) ⊎ (x ≢ b) → (partner x ≡ None) ⊎ ((q : Port) × (partner x ≡ Some q)) → without a (without b partner) x ≡ read (gone pair ls) far_of x
          go (inl i) j k = rw (on i) (sym (read_gone (gone pair ls) far_of x (absent x (inl i))))
          go (inr i) (inl j) k = rw (off i, on j) (sym (read_gone (gone pair ls) far_of x (absent x (inr j))))
          go (inr i) (inr j) (inl k) = rw (off i, off j) (k ∙ sym (read_bare (gone pair ls) far_of x (far_none x k)))
          go (inr i) (inr j) (inr k) = let n = back x k.0 k.1 in rw (off i, off j) (k.1 ∙ sym (read_far (gone pair ls) far_of x k.0 (here_still x i j) (far_some x k.0 k.1) (λ e. n.0 (sym e))))

      far_back : (x : Port) → gone pair ls x ≡ false → far_of (far_of x) ≡ x
      far_back x g = go (found x)
        where
          go : (partner x ≡ None) ⊎ ((q : Port) × (partner x ≡ Some q)) → far_of (far_of x) ≡ x
          go (inl k) = ap far_of (far_none x k) ∙ far_none x k
          go (inr k) = let n = back x k.0 k.1 in ap far_of (far_some x k.0 k.1) ∙ far_some k.0 x n.1

      clash : {x : Port} → gone pair ls x ≡ false → (x ≡ a) ⊎ (x ≡ b) → ⊥
      clash {x} g i = let t = absent x i in let z : true ≡ false = sym t ∙ g in cc

      one_some : {p q : Port} → ◌≡◌ {A = Option Port} (Some p) (Some q) → p ≡ q
      one_some e = cc

      far_kept : (x : Port) → gone pair ls x ≡ false → gone pair ls (far_of x) ≡ false
      far_kept x g = go (found x)
        where
          go : (partner x ≡ None) ⊎ ((q : Port) × (partner x ≡ Some q)) → gone pair ls (far_of x) ≡ false
          go (inl k) = ap (gone pair ls) (far_none x k) ∙ g
          go (inr k) = ap (gone pair ls) (far_some x k.0 k.1) ∙ here_still k.0
              (λ i. clash g (inr (one_some (sym (back x k.0 k.1).1 ∙ (ap partner i ∙ meet)))))
              (λ i. clash g (inl (one_some (sym (back x k.0 k.1).1 ∙ (ap partner i ∙ (back a b meet).1)))))

      bare : (x : Port) → 1 ≤ end_times x ls → pair x ≡ false → (partner x ≡ None) ⊎ ((q : Port) × (partner x ≡ Some q)) → far_of x ≡ x
      bare x h p (inl k) = far_none x k
      bare x h p (inr k) = let t = old x k.0 k.1 h in let z : true ≡ false = sym t ∙ p in cc
