-- Ports that one link or two lead to.
use Rattle.std.proofs.Common.{◌≡◌, ℕ, ◌+◌, List, ◌⊎◌, inl, inr, refl, arith, Option}
use Rattle.ic_name.specs.Events.{Event}
use Rattle.ic_name.specs.declared.ports.Port.{Port}
use Rattle.ic_theory.specs.Links.{Shape, Leads, degree, IsSlim}
use Rattle.ic_theory.specs.Orders.{Pick, here, there, IsIn}
use Rattle.ic_theory.specs.Trails.{stays, goes, Reaches}
use Rattle.ic_theory.specs.FarEnds.{far}
use Rattle.ic_theory.proofs.Picks.{two_picks, in_first, in_more}
use Rattle.ic_theory.proofs.Degrees.{leads_to, degree-pick}
use Rattle.ic_theory.proofs.Ends.{reaches_far, reaches_one}
use Rattle.ic_theory.specs.Born.{Link, placed}

module _ {P L : Type 0} (g : Shape P L) where
  -- one link leads to a port with one link end
  pub one_step : {ls : List L} {l : L} {x y : P} → IsIn l ls → Leads g l x y → degree g ls y ≡ 1 → Reaches g ls x y
  one_step {y = y} i w d =
      let e = degree-pick g i.1 y in
      let t = leads_to g w in
      record { links = _; rest = i.0; trail = goes i.1 w stays; stops = omega arith }

  -- two links lead to a port with one link end
  pub two_steps : {ls : List L} {k l : L} {x m y : P} → IsIn k ls → IsIn l ls → (k ≡ l → ⊥) → Leads g k x m → Leads g l m y → degree g ls y ≡ 1 → Reaches g ls x y
  two_steps {ls} {k} {l} {x} {m} {y} i j apart v w d = go (two_picks i.1 j.1)
    where
      go : ((k ≡ l) × (i.0 ≡ j.0)) ⊎ ((rest : List L) × Pick l i.0 rest × Pick k j.0 rest) → Reaches g ls x y
      go (inl e) = absurd (apart e.0)
      go (inr r) =
          let e = degree-pick g i.1 y in
          let f = degree-pick g r.1 y in
          let t = leads_to g w in
          record { links = _; rest = r.0; trail = goes i.1 v (goes r.1 w stays); stops = omega arith }

  -- the far end of a port is where a trail that can't go on leads
  pub far_is : {ls : List L} {x y : P} → IsSlim g ls → degree g ls x ≡ 1 → Reaches g ls x y → far g ls x ≡ y
  far_is {ls} {x} slim d r = reaches_one g slim (omega arith) (reaches_far g ls x slim (omega arith)) r

-- a pair of ports among the links
pub record Placed (m : Option Event) (k : ℕ) (js : List (Port × Port)) (x y : Port) : Type 0 where
  pub link : Link
  pub listed : IsIn link (placed m k js)
  pub left : link.a ≡ x
  pub right : link.b ≡ y

-- each pair of the list is one
pub placed_there : (m : Option Event) (k : ℕ) {x y : Port} {js rest : List (Port × Port)} → Pick (x, y) js rest → Placed m k js x y
placed_there m k (here {xs = js}) = record { link = _; listed = in_first _ (placed m (k + 1) js); left = refl; right = refl }
placed_there m k (there {y = j} i) = let r = placed_there m (k + 1) i in record { link = r.link; listed = in_more _ r.listed; left = r.left; right = r.right }
