use Rattle.std.proofs.Common.{sym}
use Rattle.ic_path.specs.Orders.{here}
use Rattle.ic_path.proofs.Degrees.{slim-pick}
use Rattle.ic_path.proofs.Orders.{far-alike, rings-alike}
use Rattle.ic_link.specs.Links.{shape}
use Rattle.ic_link.proofs.Restored.{restored}
use Rattle.ic_link.proofs.laws.there_and_back.Goals as goal

pub returns-clause-same : goal.returns-clause-same
returns-clause-same g c = restored c.args.event c.args.link _ _ _ c.requires.made c.requires.no_other c.in_ok-add.ensures.ok c.take_of.ensures

pub returns-clause-rings : goal.returns-clause-rings
returns-clause-rings g c =
    let same = restored c.args.event c.args.link _ _ _ c.requires.made c.requires.no_other c.in_ok-add.ensures.ok c.take_of.ensures in
    sym (rings-alike shape same (slim-pick shape (here {x = c.args.link}) c.requires.can.room))

pub returns-clause-far_ends : goal.returns-clause-far_ends
returns-clause-far_ends g c =
    let same = restored c.args.event c.args.link _ _ _ c.requires.made c.requires.no_other c.in_ok-add.ensures.ok c.take_of.ensures in
    λ s few. sym (far-alike shape same (slim-pick shape (here {x = c.args.link}) c.requires.can.room) s few)
