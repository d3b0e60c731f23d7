use Rattle.std.proofs.Common.{◌≡◌, ◌+◌, ◌++◌, List, map, sym, ap, ◌∙◌, subst}
use Rattle.ic_name.specs.Names.{Name}
use Rattle.ic_name.specs.Events.{Event}
use Rattle.ic_name.specs.declared.ids.AgentId.{AgentId}
use Rattle.ic_path.specs.Orders.{Alike}
use Rattle.ic_path.proofs.Alikes.{alike_self, alike_back}
use Rattle.ic_link.specs.Links.{IsLawful}
use Rattle.ic_theory.specs.Born.{born_agents}
use Rattle.ic_theory.specs.Machine.{IsDeep}
use Rattle.ic_path.proofs.Errors.{at_error}
use Rattle.ic_roster.specs.declared.interaction.Interaction.{Interaction}
use Rattle.ic_roster.specs.Rosters.{Member, Stander, event_in, IsNamed}
use Rattle.ic_set.specs.Entering.{GrowsBy, Enters}
use Rattle.ic_set.specs.Removal.{LosesEach}
use Rattle.ic_set.specs.Views.{SetView, NamedView}
use Rattle.ic_set.specs.Sets.{IsStandingSet}
use Rattle.ic_set.proofs.GrownNames.{grown_keeps, kept_event}
use Rattle.ic_set.proofs.KeptOrders.{kept_alike}
use Rattle.ic_set.proofs.Admissions.{same_again, same_self, ends_same, ranks_fit, can_enter, can_put_in, put_keeps, put_admits, put_awakes}
use Rattle.ic_set.proofs.bare.BareSet.admit.Goals as goal

-- a list that is the same is alike
same_alike : {X : Type 0} {xs ys : List X} → ys ≡ xs → Alike xs ys
same_alike {xs = xs} same = subst (λ zs. Alike xs zs) (sym same) (alike_self xs)

pub returns-in_err-causes-clause-unchanged : goal.returns-in_err-causes-clause-unchanged
returns-in_err-causes-clause-unchanged g c = at_error _ (same_self _)

pub rank_over-rank-requires-clause-low : goal.rank_over-rank-requires-clause-low
rank_over-rank-requires-clause-low g c = ranks_fit c.args.self.now.set (subst (λ (w : NamedView). IsStandingSet w.set) c.self.view_is c.self.invariant.set) c.requires.few_events

pub rank_over-rank-requires-clause-standing : goal.rank_over-rank-requires-clause-standing
rank_over-rank-requires-clause-standing g c = λ d i. (let y = (c.in_ok-causes.ensures c.requires.active.0 c.requires.active.1).only d (rw c.deref.ensures at i) in (y.0, y.1, y.2))

pub enter_born-requires-clause-shallow : goal.enter_born-requires-clause-shallow
enter_born-requires-clause-shallow g c =
    let e = c.requires.active.0 in
    let active = c.requires.active.1 in
    let same = rw (← c.self.view_is) at (c.requires.event e active) in
    subst (λ (f : Event). ¬ (IsDeep f)) (sym same) (c.requires.shallow e active)

pub enter_born-requires-clause-can : goal.enter_born-requires-clause-can
enter_born-requires-clause-can g c =
    let e = c.requires.active.0 in
    let active = c.requires.active.1 in
    let same = rw (← c.self.view_is) at (c.requires.event e active) in
    let view = c.self.inside in
    let v : SetView = record { start = view.start; agents = view.roster.agents; events = view.roster.events } in
    let ls = g.L.LinkStore.links view.store in
    can_enter v c.args.self.now.set (ap (λ (w : NamedView). w.set) c.self.view_is) ls c.self.invariant e c.args.pair active c.args.line c.requires.new_line _ (ap born_agents same)

pub invariant_of-self : goal.invariant_of-self
invariant_of-self g c =
    let view = c.self.inside in
    kept_alike view.start c.in_err-born.ensures.unchanged (same_alike c.enter_born.ensures.events) (alike_self (g.L.LinkStore.links view.store)) c.self.invariant

pub returns-in_err-born-clause-unchanged : goal.returns-in_err-born-clause-unchanged
returns-in_err-born-clause-unchanged g c =
    let view = c.self.inside in
    let v : SetView = record { start = view.start; agents = view.roster.agents; events = view.roster.events } in
    at_error _ (same_again {v = v} (ap (λ (w : NamedView). w.set) c.self.view_is) c.in_err-born.ensures.unchanged (same_alike c.enter_born.ensures.events))

-- the event of the two agents is still the one that was asked for
its_event : {before after : List Name} {i : Interaction} {e : Event} → GrowsBy 4 before after → IsNamed before i → event_in before i ≡ e → event_in after i ≡ e
its_event {before} {after} {i = i} grown named same = kept_event before after (grown_keeps before after grown) i named ∙ same

pub put_event-requires-clause-can : goal.put_event-requires-clause-can
put_event-requires-clause-can g c =
    let e = c.requires.active.0 in
    let active = c.requires.active.1 in
    let view = c.self.inside in
    let v : SetView = record { start = view.start; agents = view.roster.agents; events = view.roster.events } in
    let ls = g.L.LinkStore.links view.store in
    let same = rw (← c.self.view_is) at (c.requires.event e active) in
    let its = its_event c.enter_born.ensures.grown (rw (← c.self.view_is) at c.requires.named) same in
    let events = c.enter_born.ensures.events in
    let ends = ends_same c.outcome-rules.ensures.links c.profile.ensures (ap (λ (e : Event). e.lead_kind) same) (ap (λ (e : Event). e.other_kind) same) in
    let enters : Enters v.agents (born_agents (event_in view.roster.names c.args.event)) (c.args.line + 1) c.in_ok-born.born.items c.enter_born.new.roster.agents = c.in_ok-born.ensures.entered in
    let lawful : IsLawful ls = record { slim = c.lawful.ensures.slim; own_ids = c.lawful.ensures.own_ids } in
    rw (its, c.as_slice.ensures, ends, c.deref-2.ensures, events)
    (can_put_in v c.args.self.now.set (ap (λ (w : NamedView). w.set) c.self.view_is) ls c.self.invariant e c.args.pair active c.args.line c.requires.new_line
    _ (ap born_agents same) c.in_ok-born.born.items _ enters c.lawful-2.ensures.names
    c.rank_over-rank.result c.in_ok-causes.causes.items (c.in_ok-causes.ensures e active) lawful)

pub invariant_of-self-2 : goal.invariant_of-self-2
invariant_of-self-2 g c =
    let e = c.requires.active.0 in
    let active = c.requires.active.1 in
    let view = c.self.inside in
    let v : SetView = record { start = view.start; agents = view.roster.agents; events = view.roster.events } in
    let ls = g.L.LinkStore.links view.store in
    let same = rw (← c.self.view_is) at (c.requires.event e active) in
    let its = its_event c.enter_born.ensures.grown (rw (← c.self.view_is) at c.requires.named) same in
    let events = c.enter_born.ensures.events in
    let ends = ends_same c.outcome-rules.ensures.links c.profile.ensures (ap (λ (e : Event). e.lead_kind) same) (ap (λ (e : Event). e.other_kind) same) in
    let enters : Enters v.agents (born_agents (event_in view.roster.names c.args.event)) (c.args.line + 1) c.in_ok-born.born.items c.enter_born.new.roster.agents = c.in_ok-born.ensures.entered in
    let over = rw c.deref.ensures at c.rank_over-rank.ensures in
    let puts = rw (its, c.as_slice.ensures, ends, c.deref-2.ensures, events) at c.in_ok-id.ensures.put.1 in
    rw c.in_ok-id.ensures.agents
    (put_keeps v c.args.self.now.set (ap (λ (w : NamedView). w.set) c.self.view_is) ls c.self.invariant e c.args.pair active c.args.line c.requires.new_line
    _ (ap born_agents same) c.in_ok-born.born.items _ enters c.lawful-2.ensures.names
    c.rank_over-rank.result c.in_ok-causes.causes.items (c.in_ok-causes.ensures e active) over
    c.in_ok-id.id c.in_ok-id.ensures.put.0 _ _ c.lawful-3.ensures.lines puts (c.requires.shallow e active))

pub returns-clause-admitted : goal.returns-clause-admitted
returns-clause-admitted g c = λ e active. (
    let view = c.self.inside in
    let v : SetView = record { start = view.start; agents = view.roster.agents; events = view.roster.events } in
    let ls = g.L.LinkStore.links view.store in
    let same = rw (← c.self.view_is) at (c.requires.event e active) in
    let its = its_event c.enter_born.ensures.grown (rw (← c.self.view_is) at c.requires.named) same in
    let events = c.enter_born.ensures.events in
    let ends = ends_same c.outcome-rules.ensures.links c.profile.ensures (ap (λ (e : Event). e.lead_kind) same) (ap (λ (e : Event). e.other_kind) same) in
    let enters : Enters v.agents (born_agents (event_in view.roster.names c.args.event)) (c.args.line + 1) c.in_ok-born.born.items c.enter_born.new.roster.agents = c.in_ok-born.ensures.entered in
    let over = rw c.deref.ensures at c.rank_over-rank.ensures in
    let puts = rw (its, c.as_slice.ensures, ends, c.deref-2.ensures, events) at c.in_ok-id.ensures.put.1 in
    rw c.in_ok-id.ensures.agents
    (put_admits v c.args.self.now.set (ap (λ (w : NamedView). w.set) c.self.view_is) ls c.self.invariant e c.args.pair active c.args.line c.requires.new_line
    _ (ap born_agents same) c.in_ok-born.born.items _ enters c.lawful-2.ensures.names
    c.rank_over-rank.result c.in_ok-causes.causes.items (c.in_ok-causes.ensures e active) over
    c.in_ok-id.id c.in_ok-id.ensures.put.0 _ _ c.lawful-3.ensures.lines puts))

pub returns-clause-awoken : goal.returns-clause-awoken
returns-clause-awoken g c =
    let e = c.requires.active.0 in
    let active = c.requires.active.1 in
    let view = c.self.inside in
    let v : SetView = record { start = view.start; agents = view.roster.agents; events = view.roster.events } in
    let ls = g.L.LinkStore.links view.store in
    let same = rw (← c.self.view_is) at (c.requires.event e active) in
    let its = its_event c.enter_born.ensures.grown (rw (← c.self.view_is) at c.requires.named) same in
    let events = c.enter_born.ensures.events in
    let ends = ends_same c.outcome-rules.ensures.links c.profile.ensures (ap (λ (e : Event). e.lead_kind) same) (ap (λ (e : Event). e.other_kind) same) in
    let enters : Enters v.agents (born_agents (event_in view.roster.names c.args.event)) (c.args.line + 1) c.in_ok-born.born.items c.enter_born.new.roster.agents = c.in_ok-born.ensures.entered in
    let over = rw c.deref.ensures at c.rank_over-rank.ensures in
    let puts = rw (its, c.as_slice.ensures, ends, c.deref-2.ensures, events) at c.in_ok-id.ensures.put.1 in
    let joins = rw (c.as_slice.ensures, ends) at c.in_ok-id.ensures.joins in
    let act = rw c.in_ok-id.ensures.agents at c.active_joins.ensures in
    rw c.in_ok-id.ensures.agents
    (put_awakes v c.args.self.now.set (ap (λ (w : NamedView). w.set) c.self.view_is) ls c.self.invariant e c.args.pair active c.args.line c.requires.new_line
    _ (ap born_agents same) c.in_ok-born.born.items _ enters c.lawful-2.ensures.names
    c.rank_over-rank.result c.in_ok-causes.causes.items (c.in_ok-causes.ensures e active) over
    c.in_ok-id.id c.in_ok-id.ensures.put.0 _ _ c.lawful-3.ensures.lines puts (c.requires.shallow e active) _ joins _ act)

-- the agents that were entered have gone again
gone_again : (entered : List Member) {old mid new : List Member} {ids born : List AgentId} → map (λ m. m.id) entered ≡ born → ids ≡ born → Alike (entered ++ old) mid → LosesEach ids mid new → Alike old new
gone_again entered {old} under same alike lost = lost entered old (under ∙ sym same) (alike_back alike)

-- the events are those of before
events_again : {old mid new : List Stander} → mid ≡ old → Alike mid new → Alike old new
events_again {new = new} same alike = subst (λ ss. Alike ss new) same alike

pub invariant_of-self-in_err-id : goal.invariant_of-self-in_err-id
invariant_of-self-in_err-id g c =
    let view = c.self.inside in
    let enters = c.in_ok-born.ensures.entered in
    let left = c.in_err-id.ensures.unchanged in
    let back = gone_again enters.entered enters.under c.as_slice.ensures enters.alike c.in_err-id.ensures.children in
    kept_alike view.start back (events_again c.enter_born.ensures.events left.events) left.links c.self.invariant

pub returns-in_err-id-clause-unchanged : goal.returns-in_err-id-clause-unchanged
returns-in_err-id-clause-unchanged g c =
    let view = c.self.inside in
    let v : SetView = record { start = view.start; agents = view.roster.agents; events = view.roster.events } in
    let enters = c.in_ok-born.ensures.entered in
    let left = c.in_err-id.ensures.unchanged in
    let back = gone_again enters.entered enters.under c.as_slice.ensures enters.alike c.in_err-id.ensures.children in
    at_error _ (same_again {v = v} (ap (λ (w : NamedView). w.set) c.self.view_is) back (events_again c.enter_born.ensures.events left.events))
