-- Taking one link of a rule by its case does to the partners what a splice does to the far ends.
use Rattle.std.proofs.Common.{◌≡◌, ◌≢◌, ℕ, ◌+◌, Bool, true, false, ◌⊎◌, inl, inr, refl, sym, ap, arith, ◌∙◌, Option, Some, None}
use Rattle.std.specs.Prelude.{if◌then◌else◌, ◌||◌}
use Rattle.ic_name.specs.Same.{same_port}
use Rattle.ic_name.proofs.SameFacts.{same_port_true, same_port_self}
use Rattle.ic_name.specs.declared.ports.Port.{Port}
use Rattle.ic_path.specs.FarEnds.{splice}
use Rattle.ic_theory.specs.Starts.{net_shape}
use Rattle.ic_theory.specs.Steps.{Wiring, without, with_wire, join_found, pass_found}

-- equal ports pass the test
pub on : {x y : Port} → x ≡ y → same_port x y ≡ true
on {x} {y} e = rw e (same_port_self y)

-- ports that differ don't
pub off : {x y : Port} → x ≢ y → same_port x y ≡ false
off {x} {y} n = go (same_port x y) refl
  where
    go : (b : Bool) → same_port x y ≡ b → same_port x y ≡ false
    go true e = absurd (n (same_port_true x y e))
    go false e = e

-- two ports are equal or differ
pub decide : (x y : Port) → (x ≡ y) ⊎ (x ≢ y)
decide x y = go (same_port x y) refl
  where
    go : (b : Bool) → same_port x y ≡ b → (x ≡ y) ⊎ (x ≢ y)
    go true e = inl (same_port_true x y e)
    go false e = inr (λ i. let t : same_port x y ≡ true = on i in let z : true ≡ false = sym t ∙ e in cc)

-- the partners that far ends say, where some ports are gone and a port that is its own far end has none
abbrev pub read : (Port → Bool) → (Port → Port) → Port → Option Port
read gone far x = if gone x || same_port x (far x) then None else Some (far x)

-- a port that is gone has none
pub read_gone : (gone : Port → Bool) (far : Port → Port) (x : Port) → gone x ≡ true → read gone far x ≡ None
read_gone gone far x g = rw g refl

-- nor has one that is its own far end
pub read_bare : (gone : Port → Bool) (far : Port → Port) (x : Port) → far x ≡ x → read gone far x ≡ None
read_bare gone far x h = go (gone x) (on (sym h))
  where
    go : (b : Bool) → same_port x (far x) ≡ true → (if b || same_port x (far x) then None else Some (far x)) ≡ None
    go true t = refl
    go false t = rw t refl

-- another port's partner is its far end
pub read_far : (gone : Port → Bool) (far : Port → Port) (x y : Port) → gone x ≡ false → far x ≡ y → x ≢ y → read gone far x ≡ Some y
read_far gone far x y g h n = rw (g, h, off n) refl

-- they are read at one port
pub read_same : (gone gone' : Port → Bool) (far far' : Port → Port) (x : Port) → gone x ≡ gone' x → far x ≡ far' x → read gone far x ≡ read gone' far' x
read_same gone gone' far far' x g h = rw (g, h) refl

-- a new wire's ports are partners
wire_first : (p q : Port) (partner : Port → Option Port) → with_wire p q partner p ≡ Some q
wire_first p q partner = rw (same_port_self p) refl

-- at both ends
wire_second : (p q : Port) (partner : Port → Option Port) → q ≢ p → with_wire p q partner q ≡ Some p
wire_second p q partner n = rw (off n, same_port_self q) refl

-- other ports keep theirs
wire_off : (p q x : Port) (partner : Port → Option Port) → x ≢ p → x ≢ q → with_wire p q partner x ≡ partner x
wire_off p q x partner n k = rw (off n, off k) refl

-- a port taken away has no partner
without_at : (p x : Port) (partner : Port → Option Port) → x ≡ p → without p partner x ≡ None
without_at p x partner e = rw (on e) refl

-- other ports keep theirs then
without_off : (p x : Port) (partner : Port → Option Port) → x ≢ p → without p partner x ≡ partner x
without_off p x partner n = rw (off n) refl

-- one ring more, or none
rings_if : (t : Bool) (x y : Wiring) (n : ℕ) → x.rings ≡ n + 1 → y.rings ≡ n → (λ (w : Wiring). w.rings) (if t then x else y) ≡ (if t then 1 else 0) + n
rings_if true x y n h k = omega arith
rings_if false x y n h k = omega arith

-- far ends are each other's, but for ports that are gone
pub record AreMates (gone : Port → Bool) (far : Port → Port) : Type 0 where
  pub back : (x : Port) → gone x ≡ false → far (far x) ≡ x
  pub kept : (x : Port) → gone x ≡ false → gone (far x) ≡ false

-- the ports of a link that had partners are gone once it is taken, and no others
pub record IsNext (gone gone' : Port → Bool) (far : Port → Port) (a b : Port) : Type 0 where
  pub others : (x : Port) → x ≢ a → x ≢ b → gone' x ≡ gone x
  pub free_a : far a ≡ a → gone' a ≡ false
  pub free_b : far b ≡ b → gone' b ≡ false
  pub used_a : far a ≢ a → gone' a ≡ true
  pub used_b : far b ≢ b → gone' b ≡ true

module _ (gone : Port → Bool) (far : Port → Port) (m : AreMates gone far) (a b : Port) (differ : a ≢ b) (ga : gone a ≡ false) (gb : gone b ≡ false) where
  -- the far ends once the link is spliced in
  abbrev far' : Port → Port
  far' = splice net_shape far a b

  -- the first port is its far end's far end
  back_a : far (far a) ≡ a
  back_a = m.back a ga

  -- so is the second
  back_b : far (far b) ≡ b
  back_b = m.back b gb

  -- their far ends are two
  ends_differ : far b ≢ far a
  ends_differ e = differ (sym back_a ∙ (ap far (sym e) ∙ back_b))

  -- the far end of the first leads to that of the second
  at_a : far' (far a) ≡ far b
  at_a = rw (same_port_self (far a)) refl

  -- and back
  at_b : far' (far b) ≡ far a
  at_b = rw (off ends_differ, same_port_self (far b)) refl

  -- any other port keeps its far end
  elsewhere : (x : Port) → x ≢ far a → x ≢ far b → far' x ≡ far x
  elsewhere x n k = rw (off n, off k) refl

  -- a port that is its own far end stays so, unless it is one of the link's, and one that has a partner keeps one
  pub stays_bare : (x : Port) → x ≢ a → x ≢ b → far x ≡ x → far' x ≡ x
  stays_bare x n k h = elsewhere x (λ e. n (sym h ∙ (ap far e ∙ back_a))) (λ e. k (sym h ∙ (ap far e ∙ back_b))) ∙ h

  -- a port with a partner keeps one
  pub stays_held : (x : Port) → x ≢ a → x ≢ b → far x ≢ x → far' x ≢ x
  stays_held x n k h e = go (decide x (far a)) (decide x (far b))
    where
      go : (x ≡ far a) ⊎ (x ≢ far a) → (x ≡ far b) ⊎ (x ≢ far b) → ⊥
      go (inl i) j = let t : far' x ≡ far b = rw i at_a in ends_differ (sym t ∙ (e ∙ i))
      go (inr i) (inl j) = let t : far' x ≡ far a = rw j at_b in ends_differ (sym j ∙ (sym e ∙ t))
      go (inr i) (inr j) = h (sym (elsewhere x i j) ∙ e)

  -- the port is not gone once the link is taken
  record Stays (x : Port) : Type 0 where
    there : gone x ≡ false
    not_a : x ≡ a → far a ≡ a
    not_b : x ≡ b → far b ≡ b

  -- such a port is its far end's far end
  back_again : (x : Port) → Stays x → far' (far' x) ≡ x
  back_again x h = go (decide x (far a)) (decide x (far b))
    where
      go : (x ≡ far a) ⊎ (x ≢ far a) → (x ≡ far b) ⊎ (x ≢ far b) → far' (far' x) ≡ x
      go (inl i) j = let t : far' x ≡ far b = rw i at_a in ap far' t ∙ (at_b ∙ sym i)
      go (inr i) (inl j) = let t : far' x ≡ far a = rw j at_b in ap far' t ∙ (at_a ∙ sym j)
      go (inr i) (inr j) =
          let r = m.back x h.there in
          let na : far x ≢ far a = λ e. let q : x ≡ a = sym r ∙ (ap far e ∙ back_a) in i (q ∙ sym (h.not_a q)) in
          let nb : far x ≢ far b = λ e. let q : x ≡ b = sym r ∙ (ap far e ∙ back_b) in j (q ∙ sym (h.not_b q)) in
          ap far' (elsewhere x i j) ∙ (elsewhere (far x) na nb ∙ r)

  -- and its far end isn't gone either
  far_stays : (x : Port) → Stays x → Stays (far' x)
  far_stays x h = go (decide x (far a)) (decide x (far b))
    where
      go : (x ≡ far a) ⊎ (x ≢ far a) → (x ≡ far b) ⊎ (x ≢ far b) → Stays (far' x)
      go (inl i) j =
          let t : far' x ≡ far b = rw i at_a in
          rw t (record {
            there = m.kept b gb;
            not_a = λ e. let q : x ≡ b = i ∙ (ap far (sym e) ∙ back_b) in absurd (differ (sym e ∙ h.not_b q));
            not_b = λ e. e;
          })
      go (inr i) (inl j) =
          let t : far' x ≡ far a = rw j at_b in
          rw t (record {
            there = m.kept a ga;
            not_a = λ e. e;
            not_b = λ e. let q : x ≡ a = j ∙ (ap far (sym e) ∙ back_a) in absurd (differ (sym (h.not_a q) ∙ e));
          })
      go (inr i) (inr j) =
          let r = m.back x h.there in
          rw (elsewhere x i j) (record {
            there = m.kept x h.there;
            not_a = λ e. absurd (i (sym r ∙ ap far e));
            not_b = λ e. absurd (j (sym r ∙ ap far e));
          })

  module _ (gone' : Port → Bool) (next : IsNext gone gone' far a b) where
    -- a port that stays isn't gone
    at_end : (x : Port) → Stays x → gone' x ≡ false
    at_end x h = go (decide x a) (decide x b)
      where
        go : (x ≡ a) ⊎ (x ≢ a) → (x ≡ b) ⊎ (x ≢ b) → gone' x ≡ false
        go (inl i) j = rw i (next.free_a (h.not_a i))
        go (inr i) (inl j) = rw j (next.free_b (h.not_b j))
        go (inr i) (inr j) = next.others x i j ∙ h.there

    -- a port that isn't gone, and would be if it had a partner, has none
    is_bare : (y : Port) → gone' y ≡ false → (far y ≢ y → gone' y ≡ true) → far y ≡ y
    is_bare y g u = go (decide (far y) y)
      where
        go : (far y ≡ y) ⊎ (far y ≢ y) → far y ≡ y
        go (inl i) = i
        go (inr n) = let z : true ≡ false = sym (u n) ∙ g in cc

    -- a port that isn't gone stays
    stays_at : (x : Port) → gone' x ≡ false → Stays x
    stays_at x g = record {
      there = go (decide x a) (decide x b);
      not_a = λ e. is_bare a (ap gone' (sym e) ∙ g) next.used_a;
      not_b = λ e. is_bare b (ap gone' (sym e) ∙ g) next.used_b;
    }
      where
        go : (x ≡ a) ⊎ (x ≢ a) → (x ≡ b) ⊎ (x ≢ b) → gone x ≡ false
        go (inl i) j = rw i ga
        go (inr i) (inl j) = rw j gb
        go (inr i) (inr j) = sym (next.others x i j) ∙ g

    -- far ends are each other's still
    pub next_mates : AreMates gone' far'
    next_mates = record {
      back = λ x g. back_again x (stays_at x g);
      kept = λ x g. at_end (far' x) (far_stays x (stays_at x g));
    }

    module _ (v : Wiring) (tracks : (x : Port) → v.partner x ≡ read gone far x) where
      -- away from the link nothing changes
      same_there : (x : Port) → x ≢ a → x ≢ b → x ≢ far a → x ≢ far b → v.partner x ≡ read gone' far' x
      same_there x n k i j = tracks x ∙ read_same gone gone' far far' x (sym (next.others x n k)) (sym (elsewhere x i j))

      -- a link between two children
      pub joins_children : far a ≡ a → far b ≡ b → (x : Port) → with_wire a b v.partner x ≡ read gone' far' x
      joins_children ha hb x = go (decide x a) (decide x b)
        where
          go : (x ≡ a) ⊎ (x ≢ a) → (x ≡ b) ⊎ (x ≢ b) → with_wire a b v.partner x ≡ read gone' far' x
          go (inl i) j =
              let t : far' a ≡ b = ap far' (sym ha) ∙ (at_a ∙ hb) in
              rw (i, same_port_self a) (sym (read_far gone' far' a b (next.free_a ha) t differ))
          go (inr i) (inl j) =
              let t : far' b ≡ a = ap far' (sym hb) ∙ (at_b ∙ ha) in
              rw (j, off (λ e. differ (sym e)), same_port_self b) (sym (read_far gone' far' b a (next.free_b hb) t (λ e. differ (sym e))))
          go (inr i) (inr j) = rw (off i, off j) (same_there x i j (λ e. i (e ∙ ha)) (λ e. j (e ∙ hb)))

      -- a link between a child and a port of the pair
      pub passes_on : far a ≡ a → far b ≢ b → (x : Port) → (pass_found (Some (far b)) a b v).partner x ≡ read gone' far' x
      passes_on ha hb x = go (decide x a) (decide x (far b)) (decide x b)
        where
          away : far b ≢ a
          away e = differ (sym (sym back_b ∙ (ap far e ∙ ha)))

          go : (x ≡ a) ⊎ (x ≢ a) → (x ≡ far b) ⊎ (x ≢ far b) → (x ≡ b) ⊎ (x ≢ b) → (pass_found (Some (far b)) a b v).partner x ≡ read gone' far' x
          go (inl i) j k =
              let t : far' a ≡ far b = ap far' (sym ha) ∙ at_a in
              rw (i, same_port_self a) (sym (read_far gone' far' a (far b) (next.free_a ha) t (λ e. away (sym e))))
          go (inr i) (inl j) k =
              let t : far' (far b) ≡ a = at_b ∙ ha in
              let g : gone' (far b) ≡ false = next.others (far b) away hb ∙ m.kept b gb in
              rw j (wire_second a (far b) (without b v.partner) away ∙ sym (read_far gone' far' (far b) a g t away))
          go (inr i) (inr j) (inl k) = wire_off a (far b) x (without b v.partner) i j ∙ (without_at b x v.partner k ∙ sym (read_gone gone' far' x (ap gone' k ∙ next.used_b hb)))
          go (inr i) (inr j) (inr k) = wire_off a (far b) x (without b v.partner) i j ∙ (without_off b x v.partner k ∙ same_there x i k (λ e. i (e ∙ ha)) j)

      -- a link between two ports of the pair
      pub joins_found : far a ≢ a → far b ≢ b → (x : Port) → (join_found (Some (far a)) (Some (far b)) a b v).partner x ≡ read gone' far' x
      joins_found ha hb x = by_ring (decide (far a) b)
        where
          by_ring : (far a ≡ b) ⊎ (far a ≢ b) → (join_found (Some (far a)) (Some (far b)) a b v).partner x ≡ read gone' far' x
          by_ring (inl r) = rw (on r) (go (decide x a) (decide x b))
            where
              other_way : far b ≡ a
              other_way = ap far (sym r) ∙ back_a

              go : (x ≡ a) ⊎ (x ≢ a) → (x ≡ b) ⊎ (x ≢ b) → without a (without b v.partner) x ≡ read gone' far' x
              go (inl i) j = rw (i, same_port_self a) (sym (read_gone gone' far' a (next.used_a ha)))
              go (inr i) (inl j) = rw (j, off (λ e. differ (sym e)), same_port_self b) (sym (read_gone gone' far' b (next.used_b hb)))
              go (inr i) (inr j) = rw (off i, off j) (same_there x i j (λ e. j (e ∙ r)) (λ e. i (e ∙ other_way)))
          by_ring (inr r) = rw (off r) (go (decide x (far a)) (decide x (far b)) (decide x a) (decide x b))
            where
              other_way : far b ≢ a
              other_way e = r (ap far (sym e) ∙ back_b)

              go : (x ≡ far a) ⊎ (x ≢ far a) → (x ≡ far b) ⊎ (x ≢ far b) → (x ≡ a) ⊎ (x ≢ a) → (x ≡ b) ⊎ (x ≢ b) → with_wire (far a) (far b) (without a (without b v.partner)) x ≡ read gone' far' x
              go (inl i) j k l =
                  let g : gone' (far a) ≡ false = next.others (far a) ha r ∙ m.kept a ga in
                  rw i (wire_first (far a) (far b) (without a (without b v.partner)) ∙ sym (read_far gone' far' (far a) (far b) g at_a (λ e. ends_differ (sym e))))
              go (inr i) (inl j) k l =
                  let g : gone' (far b) ≡ false = next.others (far b) other_way hb ∙ m.kept b gb in
                  rw j (wire_second (far a) (far b) (without a (without b v.partner)) ends_differ ∙ sym (read_far gone' far' (far b) (far a) g at_b ends_differ))
              go (inr i) (inr j) (inl k) l = wire_off (far a) (far b) x (without a (without b v.partner)) i j ∙ (without_at a x (without b v.partner) k ∙ sym (read_gone gone' far' x (ap gone' k ∙ next.used_a ha)))
              go (inr i) (inr j) (inr k) (inl l) = wire_off (far a) (far b) x (without a (without b v.partner)) i j ∙ (without_off a x (without b v.partner) k ∙ (without_at b x v.partner l ∙ sym (read_gone gone' far' x (ap gone' l ∙ next.used_b hb))))
              go (inr i) (inr j) (inr k) (inr l) = wire_off (far a) (far b) x (without a (without b v.partner)) i j ∙ (without_off a x (without b v.partner) k ∙ (without_off b x v.partner l ∙ same_there x k l i j))

      -- and a ring is counted where the far ends close one
      pub counts_rings : (join_found (Some (far a)) (Some (far b)) a b v).rings ≡ (if same_port (far a) b then 1 else 0) + v.rings
      counts_rings = rings_if (same_port (far a) b) (record { partner = without a (without b v.partner); rings = v.rings + 1 }) (record { partner = with_wire (far a) (far b) (without a (without b v.partner)); rings = v.rings }) v.rings refl refl
