use Rattle.std.proofs.Common.{◌≡◌, inl, inr, IfSome, refl, ap, subst, ◌∙◌}
use Rattle.std.specs.Option.{unwrap_or}
use Rattle.ic_set.specs.declared.pairs.ActivePair.{ActivePair}
use Rattle.ic_set.specs.Pairs.{IsActivePair}
use Rattle.ic_set.proofs.QueuedLeads.{lead_queued, still_queued}
use Rattle.ic_journal.proofs.standing.queue.put_pair.Goals as goal

pub unreachable-requires : goal.unreachable-requires
unreachable-requires g c =
    let absent = rw c.roster.ensures.agents at c.in_default-agent.ensures.absent in
    let active = subst (λ o. IfSome o (λ p. IsActivePair c.args.set.now.set p)) c.in-Some.is c.requires.active in
    absent _ active.1.lead refl

pub returns-clause-stay : goal.returns-clause-stay
returns-clause-stay g c = still_queued c.args.set.now.names _ _ (λ n i. (c.put.ensures.entered n).1 (inr i))

pub returns-clause-led : goal.returns-clause-led
returns-clause-led g c =
    let there = rw (c.roster.ensures.agents, c.roster.ensures.names) at c.in-Some-agent.ensures.found in
    let inside = rw c.roster.ensures.names at c.in-Some-agent.ensures.inside in
    λ e p h same. (
    let one : p ≡ c.in-Some.pair = ap (λ o. unwrap_or o p) (same ∙ c.in-Some.is) in
    lead_queued c.args.set.now c.lawful.ensures.set _ c.in-Some.pair.lead c.in-Some-agent.entry.name.place _ there inside ((c.put.ensures.entered c.in-Some-agent.entry.name.place).1 (inl refl)) e p h (ap (λ (q : ActivePair). q.lead) one))
