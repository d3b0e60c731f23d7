-- The wires between ports of agents, and their places among those that are written with numbers.
use Rattle.std.proofs.Common.{◌≡◌, ℕ, ◌+◌, ◌<◌, ◌≤◌, Bool, true, false, List, [], ◌∷◌, ◌++◌, length, refl, sym, ap, subst, ◌∙◌, arith, Some}
use Rattle.std.specs.Prelude.{cond, if◌then◌else◌, ◌||◌, position}
use Rattle.std.specs.List.{fold, list_any, position_from}
use Rattle.std.proofs.lemmas.Iterator.Adapters.{position_from-zero}
use Rattle.ic_name.specs.Names.{Name}
use Rattle.ic_name.specs.Same.{same_port}
use Rattle.ic_name.specs.declared.ports.Port.{Port}
use Rattle.ic_name.specs.declared.ports.Port.TheVariants.{Of}
use Rattle.ic_name.proofs.SameFacts.{same_port_true, same_port_self}
use Rattle.ic_theory.specs.Orders.{Pick, here, there, IsIn}
use Rattle.ic_theory.proofs.Picks.{in_first, in_more}
use Rattle.ic_theory.specs.Listed.{ListedNet, IsListing, shown}
use Rattle.ic_text.specs.NetText.{partner_of, wire_of, line_wires, add, numbered_wires}
use Rattle.ic_text.proofs.Elements.{in-filter_map, in-flat_map, in_before}
use Rattle.ic_text.proofs.Owners.{owner_of, shown_port}
use Rattle.ic_theory.proofs.InLists.{in_behind}

-- a wire that is there is one of the wires
any_in : (w : Port) (ws : List Port) → list_any (same_port w) ws ≡ true → IsIn w ws
any_in w [] h = cc
any_in w (x ∷ xs) h = go (same_port w x) refl h (any_in w xs)
  where
    go : (b : Bool) → same_port w x ≡ b → (b || list_any (same_port w) xs) ≡ true → (list_any (same_port w) xs ≡ true → IsIn w xs) → IsIn w (x ∷ xs)
    go true e k ih = subst (λ z. IsIn z (x ∷ xs)) (sym (same_port_true w x e)) (in_first x xs)
    go false e k ih = in_more x (ih k)

-- a wire that is added is there
add_has : (ws : List Port) (w : Port) → IsIn w (add ws w)
add_has ws w = go (list_any (same_port w) ws) refl
  where
    go : (b : Bool) → list_any (same_port w) ws ≡ b → IsIn w (if b then ws else ws ++ w ∷ [])
    go true e = any_in w ws e
    go false e = in_behind ws (in_first w [])

-- the others stay
add_keeps : (ws : List Port) (w : Port) {x : Port} → IsIn x ws → IsIn x (add ws w)
add_keeps ws w {x} i = go (list_any (same_port w) ws)
  where
    go : (b : Bool) → IsIn x (if b then ws else ws ++ w ∷ [])
    go true = i
    go false = in_before (w ∷ []) i

-- as more are added, too
fold_keeps : (xs ws : List Port) {x : Port} → IsIn x ws → IsIn x (fold add ws xs)
fold_keeps [] ws i = i
fold_keeps (y ∷ ys) ws i = fold_keeps ys (add ws y) (add_keeps ws y i)

-- each wire that is added is there in the end
fold_has : {xs rest : List Port} {x : Port} (ws : List Port) → Pick x xs rest → IsIn x (fold add ws xs)
fold_has {x = x} ws (here {xs = xs}) = fold_keeps xs (add ws x) (add_has ws x)
fold_has ws (there {y = y} k) = fold_has (add ws y) k

-- the wire between two ports of agents has a number
pub wire_numbered : (l : ListedNet) → IsListing l → (n : Name) (i : ℕ) (q w : Port) → (shown l).partner (Of n i) ≡ Some q → wire_of (Of n i) q ≡ Some w → IsIn w (numbered_wires l.agents)
wire_numbered l h n i q w e is =
    let o = owner_of l h n i q e in
    let there_is : wire_of (Of o.agent.name i) (partner_of o.agent i) ≡ Some w = ap (λ z. wire_of (Of z i) (partner_of o.agent i)) o.name ∙ ap (λ z. wire_of (Of n i) z) o.partner ∙ is in
    let line : IsIn w (line_wires o.agent) = in-filter_map (λ j. wire_of (Of o.agent.name j) (partner_of o.agent j)) (shown_port o.agent.kind i o.within).1 there_is in
    fold_has [] (in-flat_map line_wires o.listed.1 line).1

-- the place of a wire of the list, where places count from i
pub record Place (w : Port) (i : ℕ) (ws : List Port) : Type 0 where
  pub place : ℕ
  pub is : position_from (same_port w) i ws ≡ Some place
  pub below : place < i + length ws

-- a wire of the list has one
place_from : (w : Port) (i : ℕ) {ws rest : List Port} → Pick w ws rest → Place w i ws
place_from w i (here {xs = xs}) = record { place = i; is = rw (same_port_self w) refl; below = omega arith }
place_from w i (there {y = y} {xs = xs} k) = go (same_port w y) refl (place_from w (i + 1) k)
  where
    go : (b : Bool) → same_port w y ≡ b → Place w (i + 1) xs → Place w i (y ∷ xs)
    go true e r = record { place = i; is = rw e refl; below = omega arith }
    go false e r = let s = r.below in record { place = r.place; is = rw e r.is; below = omega (arith, s) }

-- places count from i on
from_low : (w : Port) (i k : ℕ) (ws : List Port) → position_from (same_port w) i ws ≡ Some k → i ≤ k
from_low w i k [] h = cc
from_low w i k (x ∷ xs) h = go (same_port w x) h (from_low w (i + 1) k xs)
  where
    go : (b : Bool) → cond b (Some i) (position_from (same_port w) (i + 1) xs) ≡ Some k → (position_from (same_port w) (i + 1) xs ≡ Some k → i + 1 ≤ k) → i ≤ k
    go true e ih = let s : i ≡ k = cc in omega (arith, s)
    go false e ih = omega (arith, ih e)

-- wires with one place are one wire
from_one : (v w : Port) (i k : ℕ) (ws : List Port) → position_from (same_port v) i ws ≡ Some k → position_from (same_port w) i ws ≡ Some k → v ≡ w
from_one v w i k [] h g = cc
from_one v w i k (x ∷ xs) h g = go (same_port v x) (same_port w x) refl refl h g (from_one v w (i + 1) k xs)
  where
    go : (b c : Bool) → same_port v x ≡ b → same_port w x ≡ c → cond b (Some i) (position_from (same_port v) (i + 1) xs) ≡ Some k → cond c (Some i) (position_from (same_port w) (i + 1) xs) ≡ Some k
        → (position_from (same_port v) (i + 1) xs ≡ Some k → position_from (same_port w) (i + 1) xs ≡ Some k → v ≡ w) → v ≡ w
    go true true e f a b ih = same_port_true v x e ∙ sym (same_port_true w x f)
    go true false e f a b ih = let s : i ≡ k = cc in absurd (omega (arith, s, from_low w (i + 1) k xs b))
    go false true e f a b ih = let s : i ≡ k = cc in absurd (omega (arith, s, from_low v (i + 1) k xs a))
    go false false e f a b ih = ih a b

-- the place of a wire in the list
pub record Number (w : Port) (ws : List Port) : Type 0 where
  pub number : ℕ
  pub is : position (same_port w) ws ≡ Some number
  pub below : number < length ws

-- each wire of the list has one
pub number_of : {w : Port} {ws : List Port} → IsIn w ws → Number w ws
number_of {w} {ws} i = let r = place_from w 0 i.1 in let s = r.below in record { number = r.place; is = position_from-zero (same_port w) ws ∙ r.is; below = omega (arith, s) }

-- wires with one number are one wire
pub one_number : (v w : Port) (k : ℕ) (ws : List Port) → position (same_port v) ws ≡ Some k → position (same_port w) ws ≡ Some k → v ≡ w
one_number v w k ws h g = from_one v w 0 k ws (sym (position_from-zero (same_port v) ws) ∙ h) (sym (position_from-zero (same_port w) ws) ∙ g)
