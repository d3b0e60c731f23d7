use Rattle.std.proofs.Common.{refl}
use Rattle.ic_roster.proofs.Options.{if_none}
use Rattle.ic_set.proofs.Partners.{joined_unled, none_led}
use Rattle.ic_set.proofs.bare.BareSet.unled.Goals as goal

pub returns-in_err-entry-clause-absent : goal.returns-in_err-entry-clause-absent
returns-in_err-entry-clause-absent g c = rw (← c.self.view_is) (if_none c.from_residual.result _ (λ partner j. c.in_err-entry.ensures.absent j.left j.left_there j.left_id))

pub returns-then-is_lead-clause-absent : goal.returns-then-is_lead-clause-absent
returns-then-is_lead-clause-absent g c =
    rw (← c.self.view_is) (λ partner j.
    let x = c.is_lead.ensures.0 c.if-is_lead.true in
    joined_unled _ c.self.invariant.set j _ c.in_ok-entry.ensures.found refl x.0 x.1 x.2)

pub returns-clause-unled : goal.returns-clause-unled
returns-clause-unled g c = rw (← c.self.view_is) (none_led _ _ c.is_lead.result c.is_lead.ensures c.if-is_lead.false)
