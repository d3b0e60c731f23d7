use Rattle.std.proofs.Common.{◌≡◌, refl, sym, subst}
use Rattle.std.specs.declared.cmp.Ordering.TheVariants.{Less}
use Rattle.ic_name.specs.Names.{name_cmp}
use Rattle.ic_name.specs.Events.{Event}
use Rattle.ic_set.specs.Views.{SetView}
use Rattle.ic_set.proofs.ActivePairs.{one_id}
use Rattle.ic_set.proofs.bare.BareSet.interaction_of.Goals as goal

pub unreachable-requires : goal.unreachable-requires
unreachable-requires g c = let h = rw (← c.self.view_is) at c.requires in c.in_default.ensures.absent _ h.1.lead refl

pub unreachable-requires-in_default-agent : goal.unreachable-requires-in_default-agent
unreachable-requires-in_default-agent g c = let h = rw (← c.self.view_is) at c.requires in c.in_default-agent.ensures.absent _ h.1.other refl

-- the agents under the ids of a pair are the event's
its_event : goal.returns-clause-event
its_event g c =
    let v : SetView = record { start = c.self.inside.start; agents = c.self.inside.roster.agents; events = c.self.inside.roster.events } in
    rw (← c.self.view_is) (λ e h. (
    let lead = one_id v c.self.invariant.set _ _ c.in-Some.ensures.found h.lead refl in
    let other = one_id v c.self.invariant.set _ _ c.in-Some-agent.ensures.found h.other refl in
    λ u. record { lead = (lead u).name; lead_kind = (lead u).kind; other = (other u).name; other_kind = (other u).kind }))

pub returns-clause-event : goal.returns-clause-event
returns-clause-event g c = its_event g c

pub returns-clause-named : goal.returns-clause-named
returns-clause-named g c =
    let same = its_event g c c.requires.0 c.requires.1 in
    let less = c.requires.1.active.present.ordered in
    record {
      lead = rw (← c.self.view_is) c.in-Some.ensures.inside;
      other = rw (← c.self.view_is) c.in-Some-agent.ensures.inside;
      ordered = subst (λ (e : Event). name_cmp e.lead e.other ≡ Less) (sym same) less;
    }
