use Rattle.std.proofs.Common.{Some, ap, arith, ◌∙◌}
use Rattle.ic_names.specs.Tables.{name_at}
use Rattle.ic_set.proofs.ReadNets.{living_kind, one_partner, three_partners, two_arms}
use Rattle.ic_set.proofs.bare.BareSet.partners.Goals as goal

pub returns-in-Eps-clause-partners : goal.returns-in-Eps-clause-partners
returns-in-Eps-clause-partners g c =
    let v = c.args.self.now.set in
    let set = c.lawful.ensures.set in
    let n = name_at c.args.self.now.names c.args.agent.name.place in
    one_partner v set n _ (living_kind v set c.args.agent.id n c.args.agent.kind c.requires.living ∙ ap Some c.in-Eps.is) c.requires.first

pub returns-in-Gamma-clause-partners : goal.returns-in-Gamma-clause-partners
returns-in-Gamma-clause-partners g c =
    let v = c.args.self.now.set in
    let set = c.lawful.ensures.set in
    let a = c.args.agent in
    let n = name_at c.args.self.now.names a.name.place in
    let two = two_arms v set a.kind c.in-Gamma.is in
    three_partners v set n a.kind _ _ _ two (living_kind v set a.id n a.kind c.requires.living) c.requires.first
    (c.partner_at-second.ensures.partner n a.kind c.requires.living (omega (arith, two)))
    (c.partner_at-third.ensures.partner n a.kind c.requires.living (omega (arith, two)))
