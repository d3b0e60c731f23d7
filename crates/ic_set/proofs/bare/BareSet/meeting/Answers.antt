use Rattle.std.proofs.Common.{subst}
use Rattle.ic_name.specs.declared.ids.AgentId.{AgentId}
use Rattle.ic_roster.proofs.Options.{if_none}
use Rattle.ic_set.specs.Meetings.{HasEntry}
use Rattle.ic_set.specs.Pairs.{AreJoined}
use Rattle.ic_set.specs.Views.{SetView, NamedView}
use Rattle.ic_set.proofs.Partners.{joined_far, joined_one, far_joined, joined_back}
use Rattle.ic_set.proofs.bare.BareSet.meeting.Goals as goal

pub returns-in_err-entry-clause-absent : goal.returns-in_err-entry-clause-absent
returns-in_err-entry-clause-absent g c = if_none c.from_residual-in_err-entry.result _ c.in_err-entry.ensures.absent

pub returns-in_err-partner-clause-absent : goal.returns-in_err-partner-clause-absent
returns-in_err-partner-clause-absent g c =
    rw (← c.self.view_is) (if_none c.from_residual.result _ (λ partner j. c.in_err-partner.ensures.absent partner (joined_far _ _ c.self.invariant c.args.agent partner c.far.result j c.far.ensures)))

pub returns-in_err-other-clause-absent : goal.returns-in_err-other-clause-absent
returns-in_err-other-clause-absent g c =
    let v : SetView = record { start = c.self.inside.start; agents = c.self.inside.roster.agents; events = c.self.inside.roster.events } in
    let alone : (b : AgentId) → AreJoined v c.in_ok-partner.partner b → ⊥ = rw (← c.self.view_is) at c.in_err-other.ensures.absent in
    rw (← c.self.view_is) (if_none c.from_residual-in_err-other.result _ (λ partner j.
    let same = joined_one _ _ c.self.invariant c.args.agent partner _ c.far.result j c.far.ensures c.in_ok-partner.ensures.found in
    alone c.args.agent (subst (λ b. AreJoined v b c.args.agent) same (joined_back v c.self.invariant.set j))))

pub returns-clause-found : goal.returns-clause-found
returns-clause-found g c =
    let v : NamedView = record { set = record { start = c.self.inside.start; agents = c.self.inside.roster.agents; events = c.self.inside.roster.events }; names = c.self.inside.roster.names } in
    let first : HasEntry v c.args.agent c.in_ok-entry.entry = rw (← c.self.view_is) at c.in_ok-entry.ensures.found in
    let second : HasEntry v c.in_ok-partner.partner c.in_ok-other.other = rw (← c.self.view_is) at c.in_ok-other.ensures.found in
    let free = rw (← c.self.view_is) at c.in_ok-entry.ensures.unled in
    let there = rw (← c.self.view_is) at c.in_ok-other.ensures.unled in
    rw (← c.self.view_is) (record {
      joined = far_joined v.set _ c.self.invariant _ _ c.far.result first.there second.there free there c.far.ensures c.in_ok-partner.ensures.found;
      first = first;
      second = second;
    })
