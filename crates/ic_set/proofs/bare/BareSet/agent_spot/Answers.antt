use Rattle.std.proofs.Common.{◌≡◌, ◌≤◌, refl, sym, arith, subst}
use Rattle.ic_name.specs.Kinds.{arity}
use Rattle.ic_theory.specs.Sets.{consumed_times}
use Rattle.ic_set.specs.Views.{SetView, standing}
use Rattle.ic_set.proofs.LooseSpots.{loose_member, loose_entry, loose_at, entry_named}
use Rattle.ic_set.proofs.bare.BareSet.agent_spot.Goals as goal

pub returns-in_err-agent-clause-absent : goal.returns-in_err-agent-clause-absent
returns-in_err-agent-clause-absent g c = rw (← c.self.view_is, c.from_residual.ensures) (λ loose. (
    let l = loose_member _ c.self.invariant.set c.args.name.now c.args.number loose in
    c.in_err-agent.ensures.absent l.0 l.1 l.2))

pub returns-in_err-entry-clause-absent : goal.returns-in_err-entry-clause-absent
returns-in_err-entry-clause-absent g c = let i = c.in_ok-agent.ensures.found in absurd (c.in_err-entry.ensures.absent _ i.1 refl)

pub returns-then-number-arity-clause-absent : goal.returns-then-number-arity-clause-absent
returns-then-number-arity-clause-absent g c =
    let v : SetView = record { start = c.self.inside.start; agents = c.self.inside.roster.agents; events = c.self.inside.roster.events } in
    let i = c.in_ok-agent.ensures.found in
    let n = entry_named v c.self.invariant.set c.in_ok-agent.agent c.args.name.now _ i.0 c.in_ok-entry.entry.kind i.1 c.in_ok-entry.ensures.found in
    rw (← c.self.view_is) (λ loose. (
    let few = (loose_entry v c.self.invariant.set _ c.args.number n.0 loose).0 in
    let is = c.arity.ensures in
    let past = c.if-number-arity.true in
    omega (arith, few, is, past)))

pub principal_partner-requires-clause-there : goal.principal_partner-requires-clause-there
principal_partner-requires-clause-there g c = rw (← c.self.view_is) (_, c.in_ok-entry.ensures.found)

pub returns-in_err-principal_partner-clause-absent : goal.returns-in_err-principal_partner-clause-absent
returns-in_err-principal_partner-clause-absent g c =
    let v : SetView = record { start = c.self.inside.start; agents = c.self.inside.roster.agents; events = c.self.inside.roster.events } in
    let i = c.in_ok-agent.ensures.found in
    let n = entry_named v c.self.invariant.set c.in_ok-agent.agent c.args.name.now _ i.0 c.in_ok-entry.entry.kind i.1 c.in_ok-entry.ensures.found in
    let used = rw (← c.self.view_is) at c.in_err-principal_partner.ensures.consumed in
    rw (← c.self.view_is, c.from_residual-in_err-principal_partner.ensures) (λ loose. used (subst (λ x. consumed_times x (standing v) ≡ 0) (sym n.1) (loose_entry v c.self.invariant.set _ c.args.number n.0 loose).1))

pub returns-clause-found : goal.returns-clause-found
returns-clause-found g c =
    let v : SetView = record { start = c.self.inside.start; agents = c.self.inside.roster.agents; events = c.self.inside.roster.events } in
    let i = c.in_ok-agent.ensures.found in
    let n = entry_named v c.self.invariant.set c.in_ok-agent.agent c.args.name.now _ i.0 c.in_ok-entry.entry.kind i.1 c.in_ok-entry.ensures.found in
    let unused = rw (← c.self.view_is) at c.in_ok-principal_partner.ensures.living in
    let few : c.args.number ≤ arity c.in_ok-entry.entry.kind = (let is = c.arity.ensures in let past = c.if-number-arity.false in omega (arith, is, past)) in
    rw (← c.self.view_is) (loose_at v c.self.invariant.set _ c.args.number n.0 few (subst (λ x. consumed_times x (standing v) ≡ 0) n.1 unused))
