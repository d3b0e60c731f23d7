use Rattle.std.proofs.Common.{sym, subst}
use Rattle.ic_theory.specs.Listed.{IsListing}
use Rattle.ic_net.specs.Makings.{NetParts, listed_parts}
use Rattle.ic_net.specs.Sheets.{IsNet}
use Rattle.ic_net.proofs.Makings.{parts_are_net}
use Rattle.ic_net.proofs.sheet.making.NetMaker.finish.Goals as goal

pub invariant_of-result : goal.invariant_of-result
invariant_of-result c =
    let made = parts_are_net c.args.self c.args.rings c.lawful.ensures.in_order c.lawful.ensures.numbered c.requires.few_agents c.requires.few_frees c.requires.few_rings c.requires.reached in
    (subst (λ (p : NetParts). IsNet (listed_parts p c.args.rings)) (sym c.self.view_is) made, c.self.invariant.2)

pub returns-clause-listing : goal.returns-clause-listing
returns-clause-listing c =
    let made = parts_are_net c.args.self c.args.rings c.lawful.ensures.in_order c.lawful.ensures.numbered c.requires.few_agents c.requires.few_frees c.requires.few_rings c.requires.reached in
    subst (λ (p : NetParts). IsListing (listed_parts p c.args.rings)) (sym c.self.view_is) made.listing
