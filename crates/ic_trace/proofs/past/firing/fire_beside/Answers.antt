use Rattle.ic_trace.proofs.past.firing.fire_beside.Goals as goal

pub returns-clause-kept : goal.returns-clause-kept
returns-clause-kept c =
    let found = c.in_ok-causes_of_pair.ensures c.args.event.now c.requires in
    (record { event = c.in_ok-event.event; causes = c.in_ok-causes.causes }, c.in_ok-event.ensures, rw c.in_ok-causes.ensures.ok found, c.in-Ok.ensures.items)
