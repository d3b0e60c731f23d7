use Rattle.std.proofs.Common.{◌≡◌, rules, ap}
use Rattle.std.specs.Bool.{Decides}
use Rattle.std.proofs.lemmas.Slice.Eq.{slice_eq-Decides}
use Rattle.ic_start.specs.Links.{links_from}
use Rattle.ic_start.proofs.LinkFacts.{same_ends}
use Rattle.ic_start.proofs.links.StartLinks.same.Goals as goal

pub returns : goal.returns
returns c =
    let d : Decides c.eq.result (c.self.inside.ends.items ≡ c.other.inside.ends.items) = slice_eq-Decides (λ a b. search rules) _ _ _ c.eq.ensures in
    rw (← c.self.view_is, ← c.other.view_is) ((λ t. ap (links_from 0) (d.0 t)), (λ e. d.1 (same_ends 0 c.self.inside.ends.items c.other.inside.ends.items e)))
