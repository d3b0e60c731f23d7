-- Where the path from a loose spot ends.
use Rattle.std.proofs.Common.{◌≡◌, List, subst, ◌≤◌, arith}
use Rattle.ic_name.specs.declared.ids.LinkId.{LinkId}
use Rattle.ic_name.specs.declared.ids.Link.{Link}
use Rattle.ic_name.specs.declared.ids.Spot.{Spot}
use Rattle.ic_path.specs.Links.{degree, IsSlim}
use Rattle.ic_path.proofs.Ends.{reaches_one}
use Rattle.ic_link.specs.Links.{shape, Joins}

-- two paths from a loose spot end at one spot
pub one_end : (ls : List Link) (p q r : Spot) (ids others : List LinkId) → IsSlim shape ls → degree shape ls p ≡ 1 → Joins ls p ids q → Joins ls p others r → Joins ls p ids r
one_end ls p q r ids others slim loose x y =
    let few : degree shape ls p ≤ 1 = omega arith in
    let same = reaches_one shape slim few (record { links = x.links; rest = x.rest; trail = x.trail; stops = x.stops }) (record { links = y.links; rest = y.rest; trail = y.trail; stops = y.stops }) in
    subst (λ s. Joins ls p ids s) same x
