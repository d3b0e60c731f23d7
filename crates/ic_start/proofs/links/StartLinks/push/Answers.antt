use Rattle.std.proofs.Common.{◌∷◌, [], length, arith, ◌<◌, ◌^◌}
use Rattle.std.proofs.lemmas.List.{length-append}
use Rattle.ic_start.specs.Links.{links_from}
use Rattle.ic_start.proofs.LinkFacts.{as_many, one_more}
use Rattle.ic_start.proofs.links.StartLinks.push.Goals as goal

pub invariant_of-self-2 : goal.invariant_of-self-2
invariant_of-self-2 c =
    let few : length (links_from 0 c.self.inside.ends.items) < 2 ^ 32 = rw c.self.view_is c.requires in
    rw c.in_ok-push.ensures.items (omega (arith, few, as_many 0 c.self.inside.ends.items, length-append c.self.inside.ends.items (c.new.result ∷ [])))

pub returns-clause-link : goal.returns-clause-link
returns-clause-link c =
    rw (c.in_ok-push.ensures.items, ← c.self.view_is, ← c.new.ensures.first, ← c.new.ensures.second)
    (one_more 0 _ c.self.inside.ends.items c.new.result (omega (arith, as_many 0 c.self.inside.ends.items)))
