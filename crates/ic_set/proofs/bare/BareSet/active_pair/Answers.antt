use Rattle.std.proofs.Common.{◌≡◌, false, rules, sym, ◌∙◌}
use borrow.Author.Tests.{tests}
use Rattle.ic_name.specs.declared.ids.AgentId.{AgentId}
use Rattle.ic_path.specs.Orders.{IsIn}
use Rattle.ic_roster.proofs.Options.{if_none}
use Rattle.ic_set.specs.Meetings.{IsMeeting}
use Rattle.ic_set.specs.Pairs.{AreJoined}
use Rattle.ic_set.specs.Views.{SetView, NamedView}
use Rattle.ic_set.proofs.ActivePairs.{pair_of}
use Rattle.ic_set.proofs.EventPairs.{member, lead_is, lead_joined, other_is, pair_found}
use Rattle.ic_set.proofs.bare.BareSet.active_pair.Goals as goal

pub returns-in_err-lead-clause-absent : goal.returns-in_err-lead-clause-absent
returns-in_err-lead-clause-absent g c =
    rw (← c.self.view_is) (if_none c.from_residual.result _ (λ active. (let p = pair_of _ c.self.invariant.set _ active in c.in_err-lead.ensures.absent _ p.1.lead (sym c.lead.ensures))))

pub returns-in_err-meeting-clause-absent : goal.returns-in_err-meeting-clause-absent
returns-in_err-meeting-clause-absent g c =
    let v : SetView = record { start = c.self.inside.start; agents = c.self.inside.roster.agents; events = c.self.inside.roster.events } in
    let alone : (b : AgentId) → AreJoined v c.in_ok-lead.lead b → ⊥ = rw (← c.self.view_is) at c.in_err-meeting.ensures.absent in
    rw (← c.self.view_is) (if_none c.from_residual-in_err-meeting.result _ (λ active. (
    let k = c.in_ok-lead.ensures.found in
    let there : IsIn (member c.in_ok-lead.lead c.args.event.now.lead k.0) c.self.inside.roster.agents = rw c.lead.ensures at k.1 in
    let j = lead_joined _ c.self.invariant.set _ _ _ there active in
    alone j.0 j.1)))

pub returns-then-ne-clause-absent : goal.returns-then-ne-clause-absent
returns-then-ne-clause-absent g c =
    let v : NamedView = record { set = record { start = c.self.inside.start; agents = c.self.inside.roster.agents; events = c.self.inside.roster.events }; names = c.self.inside.roster.names } in
    let m : IsMeeting v c.in_ok-lead.lead c.in_ok-meeting.meeting = rw (← c.self.view_is) at c.in_ok-meeting.ensures.found in
    let k = c.in_ok-lead.ensures.found in
    let there : IsIn (member c.in_ok-lead.lead c.args.event.now.lead k.0) v.set.agents = rw c.lead.ensures at k.1 in
    rw (← c.self.view_is) (λ active. (
    let same : c.in_ok-meeting.meeting.entry.kind ≡ c.lead_kind.result = (lead_is v.set c.self.invariant.set _ _ _ there active _ _ m.first.there).1 ∙ sym c.lead_kind.ensures in
    let off : c.ne.result ≡ false = search (rules, tests) in
    absurd cc))

pub returns-then-ne-2-clause-absent : goal.returns-then-ne-2-clause-absent
returns-then-ne-2-clause-absent g c =
    let v : NamedView = record { set = record { start = c.self.inside.start; agents = c.self.inside.roster.agents; events = c.self.inside.roster.events }; names = c.self.inside.roster.names } in
    let m : IsMeeting v c.in_ok-lead.lead c.in_ok-meeting.meeting = rw (← c.self.view_is) at c.in_ok-meeting.ensures.found in
    let k = c.in_ok-lead.ensures.found in
    let there : IsIn (member c.in_ok-lead.lead c.args.event.now.lead k.0) v.set.agents = rw c.lead.ensures at k.1 in
    rw (← c.self.view_is) (λ active. (
    let same : c.in_ok-meeting.meeting.other.kind ≡ c.other_kind.result = (other_is v.set c.self.invariant.set _ _ _ there active _ _ _ m.second.there m.joined).1 ∙ sym c.other_kind.ensures in
    let off : c.ne-2.result ≡ false = search (rules, tests) in
    absurd cc))

pub returns-then-not-is-clause-absent : goal.returns-then-not-is-clause-absent
returns-then-not-is-clause-absent g c =
    let v : NamedView = record { set = record { start = c.self.inside.start; agents = c.self.inside.roster.agents; events = c.self.inside.roster.events }; names = c.self.inside.roster.names } in
    let m : IsMeeting v c.in_ok-lead.lead c.in_ok-meeting.meeting = rw (← c.self.view_is) at c.in_ok-meeting.ensures.found in
    let k = c.in_ok-lead.ensures.found in
    let there : IsIn (member c.in_ok-lead.lead c.args.event.now.lead k.0) v.set.agents = rw c.lead.ensures at k.1 in
    rw (← c.self.view_is) (λ active. (
    let is = other_is v.set c.self.invariant.set _ _ _ there active _ _ _ m.second.there m.joined in
    let held = (rw c.names.ensures at c.is.ensures.1) (record { within = m.second.inside; named = is.0 ∙ sym c.other.ensures }) in
    let fails = c.if-not-is.true in
    absurd cc))

pub returns-clause-found : goal.returns-clause-found
returns-clause-found g c =
    let v : NamedView = record { set = record { start = c.self.inside.start; agents = c.self.inside.roster.agents; events = c.self.inside.roster.events }; names = c.self.inside.roster.names } in
    let m : IsMeeting v c.in_ok-lead.lead c.in_ok-meeting.meeting = rw (← c.self.view_is) at c.in_ok-meeting.ensures.found in
    let k = c.in_ok-lead.ensures.found in
    let there : IsIn (member c.in_ok-lead.lead c.args.event.now.lead k.0) v.set.agents = rw c.lead.ensures at k.1 in
    let lead : c.in_ok-meeting.meeting.entry.kind ≡ c.lead_kind.result = search (rules, tests) in
    let other : c.in_ok-meeting.meeting.other.kind ≡ c.other_kind.result = search (rules, tests) in
    let name = (rw c.names.ensures at c.is.ensures.0) c.if-not-is.false in
    rw (← c.self.view_is) (pair_found v.set c.self.invariant.set _ _ _ there c.lawful.ensures _ _ m.first.there (lead ∙ c.lead_kind.ensures) _ _ _ m.second.there (name.named ∙ c.other.ensures) (other ∙ c.other_kind.ensures) m.joined)
