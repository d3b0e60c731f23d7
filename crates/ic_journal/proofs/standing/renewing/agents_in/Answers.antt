use Rattle.std.proofs.Common.{arith, refl}
use Rattle.std.proofs.lemmas.List.{take_more, take_all}
use Rattle.ic_path.proofs.Picks.{none_in}
use Rattle.ic_names.specs.declared.queue.Lead.{Lead}
use Rattle.ic_names.specs.Queues.{leads_of}
use Rattle.ic_names.proofs.Queued.{queue_named}
use Rattle.ic_journal.proofs.QueuedAgents.{named_passes, named_more, leads_named}
use Rattle.ic_journal.proofs.standing.renewing.agents_in.Goals.{in-Some, in_default}
use Rattle.ic_journal.proofs.standing.renewing.agents_in.Goals as goal

-- a lead, where there is none
abbrev none : Lead
none = record { key = record { 0 = 0 }; name = record { place = 0 } }

pub loop-at-init : goal.loop-at-init
loop-at-init g c =
    let empty = c.in_ok-leads.ensures.len in
    let space = c.in_ok-leads.ensures.capacity in
    record { named = λ m l there i. absurd (none_in i); few = omega arith; room = omega arith }

pub push_reserved-requires : goal.push_reserved-requires
push_reserved-requires g c =
    let i = c.loop-at.invariant in
    let few = i.few in
    let room = i.room in
    let below = c.loop-at-test.true in
    omega arith

pub named-requires : goal.named-requires
named-requires g c =
    let named = queue_named c.requires.queue in
    rw (c.lead.ensures, c.roster-roster.ensures.names) (named.inside c.loop-at.at (omega (arith, c.loop-at-test.true, c.len-at-end.ensures)))

pub loop-at-preserved : goal.loop-at-preserved
loop-at-preserved g c =
    let i = c.loop-at.invariant in
    let few = i.few in
    let room = i.room in
    let roster = c.roster-roster.result.now in
    let more = take_more (leads_of c.args.queue.now) c.loop-at.at none (omega (arith, c.loop-at-test.true, c.len-at-end.ensures)) in
    elim c.match-named.branch [
      | in-Some w ↦ (
          let long = w.push_reserved.ensures.len in
          let space = w.push_reserved.ensures.capacity in
          rw w.leads-is (record {
            named = rw (more, w.push_reserved.ensures.items, ← c.lead.ensures) (named_more roster.names roster.agents _ _ _ _ c.lawful.ensures.names w.in-Some.ensures.found.1 refl i.named);
            few = omega arith;
            room = omega arith;
          }))
      | in_default w ↦ rw w.leads-is (record { named = rw (more, ← c.lead.ensures) (named_passes roster.names roster.agents _ _ _ w.in_default.ensures.absent i.named); few = omega arith; room = room })
    ]

pub returns : goal.returns
returns g c =
    let all = take_all c.loop-at.at (leads_of c.args.queue.now) (omega (arith, c.loop-at-test.false, c.len-at-end.ensures)) in
    let roster = c.roster-roster.ensures in
    let named = rw (all, roster.agents, roster.names) at c.loop-at.invariant.named in
    leads_named c.args.set.now (leads_of c.args.queue.now) _ c.requires.each named
