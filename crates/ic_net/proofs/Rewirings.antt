-- Partners that are written one after the other, and what a rule's links do to them.
use Rattle.std.proofs.Common.{◌≡◌, ℕ, suc, ◌+◌, ◌<◌, true, false, List, [], ◌∷◌, ◌++◌, length, get_or, drop, drop-cons, add-one, refl, sym, ap, ◌∙◌, Option, Some, None, Result, Ok, Err}
use Rattle.std.specs.Prelude.{if◌then◌else◌, OnOk}
use Rattle.ic_name.specs.Same.{same_port}
use Rattle.ic_name.specs.Events.{Event}
use Rattle.ic_name.specs.declared.ports.Port.{Port}
use Rattle.ic_name.specs.declared.rules.RuleEnd.{RuleEnd}
use Rattle.ic_name.specs.declared.rules.RuleEnd.TheVariants.{Child, Lead, Other}
use Rattle.ic_theory.specs.Born.{port_of}
use Rattle.ic_theory.specs.Steps.{Wiring, without, with_wire, join_found, pass_found, take_link, take_links}
use Rattle.ic_net.specs.declared.rewiring.Rewiring.{Rewiring}
use Rattle.ic_net.specs.Rewirings.{after_writes, rewired, wiring, IsRuleEnd, AreRuleEnds}

-- what follows from a fact about a call that came out well holds where it came out well
pub on_ok : {T E : Type 0} (r : Result T E) {P Q : Type 0} → (P → Q) → OnOk r P → OnOk r Q
on_ok (Ok x) f p = f p
on_ok (Err e) f p = tt

-- the latest write counts
after-snoc : (x p : Port) (v found : Option Port) (ws : List (Port × Option Port)) → after_writes x found (ws ++ (p, v) ∷ []) ≡ (if same_port x p then v else after_writes x found ws)
after-snoc x p v found [] = refl
after-snoc x p v found (w ∷ ws) = after-snoc x p v (if same_port x w.0 then w.1 else found) ws

-- a port that is written to has no partner any more
cut_is : (f : Port → Option Port) (ws : List (Port × Option Port)) (p : Port) → rewired f (ws ++ (p, None) ∷ []) ≡ without p (rewired f ws)
cut_is f ws p = λ u x. after-snoc x p None (f x) ws u

-- two that are written to one another are partners
pub wire_is : (f : Port → Option Port) (ws : List (Port × Option Port)) (p q : Port) → rewired f ((ws ++ (q, Some p) ∷ []) ++ (p, Some q) ∷ []) ≡ with_wire p q (rewired f ws)
wire_is f ws p q = λ u x. (after-snoc x p (Some q) (f x) (ws ++ (q, Some p) ∷ []) ∙ ap (λ o. if same_port x p then Some q else o) (after-snoc x q (Some p) (f x) ws)) u

-- a rewiring by its parts
pub wiring_by : (f : Port → Option Port) (r : Rewiring) (partner : Port → Option Port) (rings : ℕ) → rewired f r.writes.items ≡ partner → r.rings ≡ rings → wiring f r ≡ record { partner = partner; rings = rings }
wiring_by f r partner rings p e = λ u. record { partner = p u; rings = e u }

module _ (f : Port → Option Port) (old mid : Rewiring) (l r : Port) (items : mid.writes.items ≡ (old.writes.items ++ (r, None) ∷ []) ++ (l, None) ∷ []) where
  -- the two ports of a link are cut off
  both_cut : rewired f mid.writes.items ≡ without l (without r (rewired f old.writes.items))
  both_cut = ap (rewired f) items ∙ cut_is f (old.writes.items ++ (r, None) ∷ []) l ∙ ap (without l) (cut_is f old.writes.items r)

  -- a link between partners closes a ring
  pub join_closes : (x y : Port) → rewired f old.writes.items l ≡ Some x → rewired f old.writes.items r ≡ Some y → same_port x r ≡ true
      → (new : Rewiring) → new.writes.items ≡ mid.writes.items → new.rings ≡ old.rings + 1
      → wiring f new ≡ join_found (rewired f old.writes.items l) (rewired f old.writes.items r) l r (wiring f old)
  join_closes x y ex ey t new e k = rw (ex, ey, t) (wiring_by f new (without l (without r (rewired f old.writes.items))) (old.rings + 1) (ap (rewired f) e ∙ both_cut) k)

  -- and one between other ports joins their partners
  pub join_wires : (x y : Port) → rewired f old.writes.items l ≡ Some x → rewired f old.writes.items r ≡ Some y → same_port x r ≡ false
      → (new : Rewiring) → wiring f new ≡ record { partner = with_wire x y (rewired f mid.writes.items); rings = mid.rings } → mid.rings ≡ old.rings
      → wiring f new ≡ join_found (rewired f old.writes.items l) (rewired f old.writes.items r) l r (wiring f old)
  join_wires x y ex ey t new e k = rw (ex, ey, t) (e ∙ (λ u. record { partner = with_wire x y (both_cut u); rings = k u }))

-- a link from a child's port takes over the partner
pub pass_wires : (f : Port → Option Port) (old mid new : Rewiring) (c p x : Port) → rewired f old.writes.items p ≡ Some x → mid.writes.items ≡ old.writes.items ++ (p, None) ∷ [] → mid.rings ≡ old.rings
    → wiring f new ≡ record { partner = with_wire c x (rewired f mid.writes.items); rings = mid.rings }
    → wiring f new ≡ pass_found (rewired f old.writes.items p) c p (wiring f old)
pass_wires f old mid new c p x e items k h =
    let cut : rewired f mid.writes.items ≡ without p (rewired f old.writes.items) = ap (rewired f) items ∙ cut_is f old.writes.items p in
    rw e (h ∙ (λ u. record { partner = with_wire c x (cut u); rings = k u }))

-- a link between children is taken by its case
pub take_children : (a b : RuleEnd) (i j k l : ℕ) (p q p' q' : Port) (v w : Wiring) → a ≡ Child i j → b ≡ Child k l → p ≡ p' → q ≡ q'
    → w ≡ record { partner = with_wire p q v.partner; rings = v.rings } → w ≡ take_link a b p' q' v
take_children a b i j k l p q p' q' v w ea eb ep eq h = rw (ea, eb, ← ep, ← eq) h

-- so is one between a child and the pair
pub take_pass : (a b : RuleEnd) (i j : ℕ) (p q p' q' : Port) (v w : Wiring) → a ≡ Child i j → ((k l : ℕ) → b ≡ Child k l → ⊥) → p ≡ p' → q ≡ q'
    → w ≡ pass_found (v.partner q) p q v → w ≡ take_link a b p' q' v
take_pass a b i j p q p' q' v w ea nb ep eq h = rw (ea, ← ep, ← eq) (go b nb)
  where
    go : (b : RuleEnd) → ((k l : ℕ) → b ≡ Child k l → ⊥) → w ≡ take_link (Child i j) b p q v
    go (Child k l) n = absurd (n k l refl)
    go (Lead k) n = h
    go (Other k) n = h

-- the other way round, too
pub take_pass_back : (a b : RuleEnd) (k l : ℕ) (p q p' q' : Port) (v w : Wiring) → ((i j : ℕ) → a ≡ Child i j → ⊥) → b ≡ Child k l → p ≡ p' → q ≡ q'
    → w ≡ pass_found (v.partner p) q p v → w ≡ take_link a b p' q' v
take_pass_back a b k l p q p' q' v w na eb ep eq h = rw (eb, ← ep, ← eq) (go a na)
  where
    go : (a : RuleEnd) → ((i j : ℕ) → a ≡ Child i j → ⊥) → w ≡ take_link a (Child k l) p q v
    go (Child i j) n = absurd (n i j refl)
    go (Lead i) n = h
    go (Other i) n = h

-- and so is one between two ports of the pair
pub take_join : (a b : RuleEnd) (p q p' q' : Port) (v w : Wiring) → ((i j : ℕ) → a ≡ Child i j → ⊥) → ((k l : ℕ) → b ≡ Child k l → ⊥) → p ≡ p' → q ≡ q'
    → w ≡ join_found (v.partner p) (v.partner q) p q v → w ≡ take_link a b p' q' v
take_join a b p q p' q' v w na nb ep eq h = rw (← ep, ← eq) (go a b na nb)
  where
    go : (a b : RuleEnd) → ((i j : ℕ) → a ≡ Child i j → ⊥) → ((k l : ℕ) → b ≡ Child k l → ⊥) → w ≡ take_link a b p q v
    go (Child i j) b n m = absurd (n i j refl)
    go (Lead i) (Child k l) n m = absurd (m k l refl)
    go (Other i) (Child k l) n m = absurd (m k l refl)
    go (Lead i) (Lead k) n m = h
    go (Lead i) (Other k) n m = h
    go (Other i) (Lead k) n m = h
    go (Other i) (Other k) n m = h

-- one link more is taken
pub link_taken : (e : Event) (ls : List (RuleEnd × RuleEnd)) (i : ℕ) (d : RuleEnd × RuleEnd) (v w : Wiring) → i < length ls
    → w ≡ take_link (get_or ls i d).0 (get_or ls i d).1 (port_of e (get_or ls i d).0) (port_of e (get_or ls i d).1) v → take_links e (drop (i + 1) ls) w ≡ take_links e (drop i ls) v
link_taken e ls i d v w lt h = rw (drop-cons ls i d lt, add-one, h) refl

-- its ends, and those behind it
pub ends_at : (ls : List (RuleEnd × RuleEnd)) (i : ℕ) (d : RuleEnd × RuleEnd) → i < length ls → AreRuleEnds (drop i ls) → IsRuleEnd (get_or ls i d).0 × IsRuleEnd (get_or ls i d).1 × AreRuleEnds (drop (i + 1) ls)
ends_at ls i d lt h = rw add-one (rw (drop-cons ls i d lt) at h)

-- one write more is read
pub write_read : (x : Port) (ws : List (Port × Option Port)) (i : ℕ) (d : Port × Option Port) (found next : Option Port) → i < length ws → d ≡ get_or ws i d
    → next ≡ (if same_port x d.0 then d.1 else found) → after_writes x next (drop (i + 1) ws) ≡ after_writes x found (drop i ws)
write_read x ws i d found next lt is h =
    let first : drop i ws ≡ d ∷ drop (suc i) ws = drop-cons ws i d lt ∙ ap (λ y. y ∷ drop (suc i) ws) (sym is) in
    rw (first, add-one, h) refl
