-- Held spots stand for different ports.
use Rattle.std.proofs.Common.{◌≡◌, true, List, [], ◌∷◌}
use Rattle.ic_name.specs.declared.ids.Link.{Link}
use Rattle.ic_name.specs.declared.ids.Spot.{Spot}
use Rattle.ic_name.specs.declared.ids.Spot.TheVariants as spot
use Rattle.ic_path.specs.Orders.{IsIn}
use Rattle.ic_path.proofs.Picks.{in_first, in_more}
use Rattle.ic_path.proofs.Renamed.{AllIn}
use Rattle.ic_link.specs.Links.{shape}
use Rattle.ic_cause.specs.Naming.{Naming, TellsApart, IsHeld, has_spot, port_of}

-- the spot is held
abbrev pub HasSpot : Naming → Spot → Type 0
HasSpot n p = has_spot n p ≡ true

-- all links of the list are held
abbrev pub AreHeld : Naming → List Link → Type 0
AreHeld n ls = (l : Link) → IsIn l ls → IsHeld n l

-- held spots that stand for one port are one
pub one_port : (n : Naming) → TellsApart n → (p q : Spot) → HasSpot n p → HasSpot n q → port_of n p ≡ port_of n q → p ≡ q
one_port n apart (spot.Agent x i) (spot.Agent y j) h k e =
    let m : n.agent x ≡ n.agent y = cc in
    let s : x ≡ y = apart.agents x y h k m in
    let d : i ≡ j = cc in
    λ u. spot.Agent (s u) (d u)
one_port n apart (spot.Agent x i) (spot.Name j) h k e = cc
one_port n apart (spot.Name i) (spot.Agent y j) h k e = cc
one_port n apart (spot.Name i) (spot.Name j) h k e = cc

-- held links end at held spots
pub all_in : (n : Naming) (ls : List Link) → AreHeld n ls → AllIn shape (HasSpot n) ls
all_in n [] h = tt
all_in n (l ∷ ls) h = let i = h l (in_first l ls) in (i.left, i.right, all_in n ls (λ m j. h m (in_more l j)))
