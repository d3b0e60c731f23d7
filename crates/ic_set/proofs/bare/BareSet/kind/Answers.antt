use Rattle.std.proofs.Common.{◌≡◌, ◌≢◌, inl, refl, ap, subst, ◌∙◌}
use Rattle.ic_roster.specs.Rosters.{Member}
use Rattle.ic_theory.specs.Sets.{consumed_times}
use Rattle.ic_path.specs.Orders.{IsIn}
use Rattle.ic_set.specs.Sets.{IsStandingSet}
use Rattle.ic_set.specs.Views.{SetView, standing}
use Rattle.ic_set.proofs.ConsumedAgents.{kind_there, kind_consumed, kind_absent}
use Rattle.ic_set.proofs.Namings.{same_member}
use Rattle.ic_set.proofs.bare.BareSet.kind.Goals as goal

pub returns-in_err-agent : goal.returns-in_err-agent
returns-in_err-agent g c = rw (← c.self.view_is) (c.from_residual.ensures ∙ kind_absent _ c.self.invariant.set c.args.name.now c.in_err-agent.ensures.absent)

pub returns-in_err-entry : goal.returns-in_err-entry
returns-in_err-entry g c = let i = c.in_ok-agent.ensures.found in absurd (c.in_err-entry.ensures.absent _ i.1 refl)

pub principal_partner-requires-clause-there : goal.principal_partner-requires-clause-there
principal_partner-requires-clause-there g c = rw (← c.self.view_is) (_, c.in_ok-entry.ensures.found)

-- the agent's name is the one that was asked for
named : (v : SetView) → IsStandingSet v → (m n : Member) → IsIn m v.agents → IsIn n v.agents → m.id ≡ n.id → m.name ≡ n.name
named v set m n i j same = ap (λ (y : Member). y.name) (same_member v.agents m n set.own_names i j (inl same))

pub returns-in_err-principal_partner : goal.returns-in_err-principal_partner
returns-in_err-principal_partner g c =
    let v : SetView = record { start = c.self.inside.start; agents = c.self.inside.roster.agents; events = c.self.inside.roster.events } in
    let same = named v c.self.invariant.set _ _ c.in_ok-entry.ensures.found c.in_ok-agent.ensures.found.1 refl in
    let used = rw (← c.self.view_is) at c.in_err-principal_partner.ensures.consumed in
    rw (← c.self.view_is) (c.from_residual-in_err-principal_partner.ensures ∙ kind_consumed v c.self.invariant.set c.args.name.now (subst (λ n. consumed_times n (standing v) ≢ 0) same used))

pub returns : goal.returns
returns g c =
    let v : SetView = record { start = c.self.inside.start; agents = c.self.inside.roster.agents; events = c.self.inside.roster.events } in
    let same = named v c.self.invariant.set _ _ c.in_ok-entry.ensures.found c.in_ok-agent.ensures.found.1 refl in
    let unused = rw (← c.self.view_is) at c.in_ok-principal_partner.ensures.living in
    rw (← c.self.view_is) (kind_there v c.self.invariant.set _ c.args.name.now c.in_ok-entry.ensures.found same (subst (λ n. consumed_times n (standing v) ≡ 0) same unused))
