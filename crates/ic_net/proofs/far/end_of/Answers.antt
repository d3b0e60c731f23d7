use Rattle.ic_net.proofs.FarTableFacts.{slot_is, slot_inside}
use Rattle.ic_net.proofs.far.end_of.Goals as goal

pub returns-clause-end : goal.returns-clause-end
returns-clause-end c = slot_is _ _ _ c.args.spot _ _ c.requires.table c.requires.inside c.place_of.ensures.place

pub returns-clause-inside : goal.returns-clause-inside
returns-clause-inside c = slot_inside _ _ _ c.args.spot _ _ c.requires.table c.requires.inside c.place_of.ensures.place
