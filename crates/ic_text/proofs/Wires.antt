-- The wire between two ports of agents.
use Rattle.std.proofs.Common.{◌≡◌, ◌≢◌, ℕ, Bool, true, false, ◌⊎◌, inl, inr, refl, sym, Some}
use Rattle.std.specs.Prelude.{if◌then◌else◌}
use Rattle.std.specs.declared.cmp.Ordering.{Ordering}
use Rattle.std.specs.declared.cmp.Ordering.TheVariants.{Less, Equal, Greater}
use Rattle.std.specs.Ordering.{nat_cmp, ordering_reverse, is_lt, on, then_cmp}
use Rattle.std.specs.Cmp.{IsTotalOrder, then_total, on_total, nat_cmp_total}
use Rattle.std.proofs.lemmas.Cmp.{ranked}
use Rattle.ic_name.specs.Names.{Name, name_cmp}
use Rattle.ic_name.specs.declared.ports.Port.{Port}
use Rattle.ic_name.specs.declared.ports.Port.TheVariants.{Of}
use Rattle.ic_name.proofs.NameOrder.{name_cmp_total, name_tied}
use Rattle.ic_theory.specs.Listed.{port_cmp}
use Rattle.ic_text.specs.NetText.{wire_of}
use Rattle.ic_name.proofs.Orderings.{then_tied}

-- the order of ports of agents is total
pair_total : IsTotalOrder (then_cmp (on (λ (x : Name × ℕ). x.0) name_cmp) (on (λ (x : Name × ℕ). x.1) nat_cmp))
pair_total = then_total (on_total (λ (x : Name × ℕ). x.0) name_cmp_total) (on_total (λ (x : Name × ℕ). x.1) nat_cmp_total)

-- ports that are tied are one port
port_tied : (m n : Name) (i j : ℕ) → port_cmp (Of m i) (Of n j) ≡ Equal → Of m i ≡ Of n j
port_tied m n i j h =
    let parts = then_tied (name_cmp m n) (nat_cmp i j) h in
    let e : m ≡ n = name_tied m n parts.0 in
    let f : i ≡ j = ranked i j Equal (sym parts.1) in
    λ u. Of (e u) (f u)

-- the wire between two ports of agents is the same from either
pub wire_both : (m n : Name) (i j : ℕ) → Of n j ≢ Of m i → wire_of (Of m i) (Of n j) ≡ wire_of (Of n j) (Of m i)
wire_both m n i j apart = go (port_cmp (Of m i) (Of n j)) (port_cmp (Of n j) (Of m i)) refl refl (pair_total.antisymm (m, i) (n, j))
  where
    go : (r s : Ordering) → port_cmp (Of m i) (Of n j) ≡ r → port_cmp (Of n j) (Of m i) ≡ s → r ≡ ordering_reverse s
        → (if is_lt r then Some (Of m i) else Some (Of n j)) ≡ (if is_lt s then Some (Of n j) else Some (Of m i))
    go Less Greater e f h = refl
    go Greater Less e f h = refl
    go r Equal e f h = absurd (apart (port_tied n m j i f))
    go Less Less e f h = cc
    go Greater Greater e f h = cc
    go Equal Less e f h = cc
    go Equal Greater e f h = cc

-- the wire of two ports, by one of them
pub record Wire (p q : Port) : Type 0 where
  pub wire : Port
  pub is : wire_of p q ≡ Some wire
  pub named : (wire ≡ p) ⊎ (wire ≡ q)

-- a port and a port of an agent have one
pub wire_between : (p : Port) (n : Name) (j : ℕ) → Wire p (Of n j)
wire_between p n j = go (is_lt (port_cmp p (Of n j))) refl
  where
    go : (b : Bool) → is_lt (port_cmp p (Of n j)) ≡ b → Wire p (Of n j)
    go true e = record { wire = p; is = rw e refl; named = inl refl }
    go false e = record { wire = Of n j; is = rw e refl; named = inr refl }
