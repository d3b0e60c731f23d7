use Rattle.ic_name.specs.declared.ports.Port.TheVariants as port
use Rattle.ic_set.proofs.LooseSpots.{loose_at}
use Rattle.ic_set.proofs.WirePaths.{joined_partner}
use Rattle.ic_set.proofs.bare.BareSet.partner_at.Goals as goal

pub far_port-requires : goal.far_port-requires
far_port-requires g c =
    let (n, k, living, few) = c.requires in
    (port.Of n c.args.port, loose_at c.args.self.now.set c.lawful.ensures.set (record { id = c.args.agent; name = n; kind = k }) c.args.port living.0 few living.1)

pub returns-clause-partner : goal.returns-clause-partner
returns-clause-partner g c = λ n k living few. (
    let spot = loose_at c.args.self.now.set c.lawful.ensures.set (record { id = c.args.agent; name = n; kind = k }) c.args.port living.0 few living.1 in
    joined_partner c.args.self.now.set c.lawful.ensures.set (port.Of n c.args.port) _ (c.far_port.ensures.wire (port.Of n c.args.port) spot))
