-- At most two link ends meet at a spot of the links that show a sound set.
use Rattle.std.proofs.Common.{◌≡◌, ◌≤◌, Bool, true, false, List, [], ◌∷◌, ap, arith, refl}
use Rattle.ic_name.specs.Events.{Event}
use Rattle.ic_name.specs.Spots.{same_spot}
use Rattle.ic_name.specs.declared.ids.Link.{Link}
use Rattle.ic_name.specs.declared.ids.Spot.{Spot}
use Rattle.ic_name.proofs.SpotFacts.{same_spot_true}
use Rattle.ic_path.specs.Links.{degree, IsSlim}
use Rattle.ic_path.proofs.Picks.{in_first, in_more}
use Rattle.ic_link.specs.Links.{shape}
use Rattle.ic_theory.specs.Starts.{Start, IsProper}
use Rattle.ic_theory.specs.Sound.{IsSound}
use Rattle.ic_theory.proofs.Counts.{slim}
use Rattle.ic_cause.specs.Naming.{Naming, has_spot, port_of}
use Rattle.ic_cause.specs.Shown.{Shows}
use Rattle.ic_cause.proofs.OnePort.{HasSpot, AreHeld}
use Rattle.ic_cause.proofs.SameEnds.{degree_is}

-- a held spot is no spot that isn't held
other_spot : (n : Naming) (p q : Spot) → has_spot n p ≡ false → HasSpot n q → same_spot p q ≡ false
other_spot n p q none has = by (same_spot p q) refl
  where
    by : (t : Bool) → same_spot p q ≡ t → same_spot p q ≡ false
    by true e = let same : has_spot n p ≡ has_spot n q = ap (has_spot n) (same_spot_true p q e) in absurd cc
    by false e = e

-- no held link ends at a spot that isn't held
pub none_unheld : (n : Naming) (ls : List Link) (p : Spot) → AreHeld n ls → has_spot n p ≡ false → degree shape ls p ≡ 0
none_unheld n [] p h none = refl
none_unheld n (l ∷ ls) p h none =
    let i = h l (in_first l ls) in
    let a = other_spot n p l.a none i.left in
    let b = other_spot n p l.b none i.right in
    let rest = none_unheld n ls p (λ m j. h m (in_more l j)) none in
    rw (a, b) (omega (arith, rest))

-- links that show a sound set are slim
pub slim_shown : (n : Naming) (s : Start) (es : List Event) (ls : List Link) → IsProper s → IsSound s es → Shows n s es ls → IsSlim shape ls
slim_shown n s es ls ok sound h p = by (has_spot n p) refl
  where
    by : (t : Bool) → has_spot n p ≡ t → degree shape ls p ≤ 2
    by true e = let d = degree_is n s es ls h p e in let few = slim s ok es sound.apart (port_of n p) in omega arith
    by false e = let d = none_unheld n ls p h.held e in omega arith
