use Rattle.ic_names.proofs.Queued.{queue_named}
use Rattle.ic_journal.proofs.bench.Bench.active.Goals as goal

pub active_among-requires : goal.active_among-requires
active_among-requires g c =
    let i = c.self-inside.invariant in
    rw (c.in_ok-leads.ensures, c.bare.ensures, ← c.self-inside.view_is) (record { named = queue_named i.queue; once = c.lawful.ensures; each = i.each })

pub returns : goal.returns
returns g c = rw (← c.self.view_is, ← c.bare.ensures) c.active_among.ensures
