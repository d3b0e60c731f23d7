use Rattle.std.proofs.Common.{sym, ◌∙◌}
use Rattle.ic_start.proofs.LinkFacts.{link_read, none_read}
use Rattle.ic_start.proofs.links.StartLinks.get.Goals as goal

pub returns-in_err-ends : goal.returns-in_err-ends
returns-in_err-ends c =
    rw (← c.self.view_is) (c.from_residual.ensures ∙ sym (none_read c.self.inside.ends.items c.deref.result.now c.args.number c.deref.ensures.value c.in_err-ends.ensures.lookup.0))

pub returns : goal.returns
returns c =
    let found = link_read c.self.inside.ends.items c.deref.result.now c.args.number c.in_ok-ends.ends.now c.deref.ensures.value c.in_ok-ends.ensures.lookup.0 c.in_ok-ends.ensures.lookup.1 in
    rw (← c.self.view_is, c.spot.ensures, c.spot-2.ensures, c.a.ensures, c.b.ensures) (sym found)
