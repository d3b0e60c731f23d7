-- Ends of pairs of ports, counted port by port.
use Rattle.std.proofs.Common.{◌≡◌, ℕ, ◌+◌, ◌≤◌, Bool, true, false, cond, List, [], ◌∷◌, ◌++◌, ◌⊎◌, inl, inr, refl, arith}
use Rattle.ic_name.specs.Same.{same_port}
use Rattle.ic_name.specs.declared.ports.Port.{Port}
use Rattle.ic_name.proofs.SameFacts.{same_port_true, same_port_self}
use Rattle.ic_theory.specs.Orders.{Pick, here, there, IsIn}
use Rattle.ic_theory.proofs.Picks.{in_first, in_more}
use Rattle.ic_text.proofs.LinkEnds.{hit, ends}

-- 1 for what holds
abbrev one : Bool → ℕ
one b = cond b 1 0

-- how many ends of a pair are at the port
abbrev pub at_pair : Port → Port × Port → ℕ
at_pair p j = hit p j.0 + hit p j.1

-- a port is at itself
pub hit_self : (p : Port) → hit p p ≡ 1
hit_self p = rw (same_port_self p) refl

-- a port is at another once, and is that one, or no time
abbrev pub HitOrOff : Port → Port → Type 0
HitOrOff p q = ((p ≡ q) × (hit p q ≡ 1)) ⊎ (hit p q ≡ 0)

-- each port is
pub hit_cases : (p q : Port) → HitOrOff p q
hit_cases p q = go (same_port p q) refl
  where
    go : (b : Bool) → same_port p q ≡ b → ((p ≡ q) × (one b ≡ 1)) ⊎ (one b ≡ 0)
    go true e = inl (same_port_true p q e, refl)
    go false e = inr refl

-- a pair that is at a port
pub record End (p : Port) (js : List (Port × Port)) : Type 0 where
  pub pair : Port × Port
  pub listed : IsIn pair js
  pub side : (p ≡ pair.0) ⊎ (p ≡ pair.1)

-- where ends are counted, there is one
pub end_there : (p : Port) (js : List (Port × Port)) → 1 ≤ ends p js → End p js
end_there p [] h = absurd (omega arith)
end_there p (j ∷ js) h = go (hit_cases p j.0) (hit_cases p j.1) (λ k. end_there p js k)
  where
    go : HitOrOff p j.0 → HitOrOff p j.1 → (1 ≤ ends p js → End p js) → End p (j ∷ js)
    go (inl a) b ih = record { pair = j; listed = in_first j js; side = inl a.0 }
    go (inr a) (inl b) ih = record { pair = j; listed = in_first j js; side = inr b.0 }
    go (inr a) (inr b) ih = let r = ih (omega arith) in record { pair = r.pair; listed = in_more j r.listed; side = r.side }

-- a pair of the list at a port is counted
pub end_counted : (p : Port) {j : Port × Port} {js rest : List (Port × Port)} → Pick j js rest → at_pair p j ≤ ends p js
end_counted p here = omega arith
end_counted p (there k) = omega (arith, end_counted p k)

-- where each pair has no more ends at p than at q, all have no more
pub ends_most : (p q : Port) (js : List (Port × Port)) → ((j : Port × Port) → IsIn j js → at_pair p j ≤ at_pair q j) → ends p js ≤ ends q js
ends_most p q [] h = omega arith
ends_most p q (j ∷ js) h = omega (arith, h j (in_first j js), ends_most p q js (λ k i. h k (in_more j i)))

-- where no pair has an end at the port, there is none
pub ends_none : (p : Port) (js : List (Port × Port)) → ((j : Port × Port) → IsIn j js → at_pair p j ≡ 0) → ends p js ≡ 0
ends_none p [] h = refl
ends_none p (j ∷ js) h = omega (arith, h j (in_first j js), ends_none p js (λ k i. h k (in_more j i)))

-- the ends of two lists joined
pub ends-append : (p : Port) (xs ys : List (Port × Port)) → ends p (xs ++ ys) ≡ ends p xs + ends p ys
ends-append p [] ys = omega arith
ends-append p (x ∷ xs) ys = omega (arith, ends-append p xs ys)

-- a port is at another once at most
pub hit_most : (p q : Port) → hit p q ≤ 1
hit_most p q = go (hit_cases p q)
  where
    go : HitOrOff p q → hit p q ≤ 1
    go (inl h) = omega (arith, h.1)
    go (inr z) = omega (arith, z)
