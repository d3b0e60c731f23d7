use Rattle.std.proofs.Common.{ap, refl, sym, subst}
use Rattle.ic_names.specs.Queues.{leads_of, IsLeast}
use Rattle.std.proofs.lemmas.Bool.{eqb-true}
use Rattle.ic_set.proofs.ActivePairs.{one_id}
use Rattle.ic_roster.specs.Rosters.{Member}
use Rattle.ic_journal.proofs.Fronts.{front_least}
use Rattle.ic_journal.proofs.standing.front.still_front.Goals as goal

pub unreachable-requires : goal.unreachable-requires
unreachable-requires g c =
    let active = rw c.in_ok-pair.was at c.requires.active in
    c.in_default.ensures.absent (record { id = c.in_ok-pair.pair.lead; name = active.0.lead; kind = active.0.lead_kind }) (rw c.roster.ensures.agents active.1.lead) refl

pub returns-in-Some-least : goal.returns-in-Some-least
returns-in-Some-least g c =
    let active = rw c.in_ok-pair.was at c.requires.active in
    let v = c.args.set.now in
    let there = rw (c.roster.ensures.agents, c.roster.ensures.names) at c.in-Some.ensures.found in
    let named = one_id v.set c.lawful.ensures.set _ _ active.1.lead there refl in
    let same = eqb-true c.in-Some-least.least.place c.in-Some.entry.name.place (sym c.if-eq.ensures) in
    let least = subst (IsLeast v.names (leads_of c.args.queue.now)) same (c.in-Some-least.ensures.least v.names c.requires.queue) in
    front_least v c.lawful.ensures.set (leads_of c.args.queue.now) c.in-Some.entry.name.place c.requires.each least active.0 c.in_ok-pair.pair active.1 (ap (λ (m : Member). m.name) named)
