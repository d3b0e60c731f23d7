use Rattle.std.proofs.Common.{map, refl, ap, ◌∙◌}
use Rattle.std.proofs.lemmas.List.{append-nil}
use Rattle.ic_roster.specs.Rosters.{RosterView}
use Rattle.ic_set.specs.Joining.{moved_link}
use Rattle.ic_set.proofs.EmptySets.{can_enter_start, start_numbers, start_slim, start_kept, start_serials}
use Rattle.ic_set.proofs.StartLinks.{own_moved}
use Rattle.ic_set.proofs.bare.BareSet.over_agents.Goals as goal

pub enter_all-requires : goal.enter_all-requires
enter_all-requires g c =
    let named = c.in_ok-entering.ensures in
    record {
      inside = rw c.deref.ensures.value named.inside;
      can = rw (c.deref.ensures.value, named.agents, ap (λ (r : RosterView). r.agents) (c.reserve_events.ensures ∙ c.reserve_agents.ensures) ∙ c.new-roster.ensures.agents, named.named, c.kinds.ensures) (can_enter_start c.args.start);
    }

pub add_start-requires-clause-numbers : goal.add_start-requires-clause-numbers
add_start-requires-clause-numbers g c =
    let named = c.in_ok-entering.ensures in
    let entered = rw (c.deref.ensures.value, named.agents, ap (λ (r : RosterView). r.agents) (c.reserve_events.ensures ∙ c.reserve_agents.ensures) ∙ c.new-roster.ensures.agents, named.named, c.kinds.ensures) at c.in_ok-ids.ensures.entered in
    rw c.as_slice.ensures (start_numbers c.args.start c.lawful.ensures.proper _ _ c.links.result.now entered c.lawful-2.ensures.names c.links.ensures.joins c.links.ensures.placed)

pub add_start-requires-clause-slim : goal.add_start-requires-clause-slim
add_start-requires-clause-slim g c =
    let named = c.in_ok-entering.ensures in
    let entered = rw (c.deref.ensures.value, named.agents, ap (λ (r : RosterView). r.agents) (c.reserve_events.ensures ∙ c.reserve_agents.ensures) ∙ c.new-roster.ensures.agents, named.named, c.kinds.ensures) at c.in_ok-ids.ensures.entered in
    let all = append-nil (map (moved_link c.in_ok-ids.ids.items) c.links.result.now) in
    rw (c.as_slice.ensures, c.empty-store.ensures, all)
    (start_slim c.args.start c.lawful.ensures.proper _ _ c.links.result.now entered c.lawful-2.ensures.names c.links.ensures.joins c.links.ensures.placed)

pub add_start-requires-clause-own_ids : goal.add_start-requires-clause-own_ids
add_start-requires-clause-own_ids g c =
    let all = append-nil (map (moved_link c.in_ok-ids.ids.items) c.links.result.now) in
    rw (c.as_slice.ensures, c.empty-store.ensures, all) (own_moved _ _ _ 0 c.links.result.now c.links.ensures.placed)

pub invariant_of-set : goal.invariant_of-set
invariant_of-set g c =
    let named = c.in_ok-entering.ensures in
    let entered = rw (c.deref.ensures.value, named.agents, ap (λ (r : RosterView). r.agents) (c.reserve_events.ensures ∙ c.reserve_agents.ensures) ∙ c.new-roster.ensures.agents, named.named, c.kinds.ensures) at c.in_ok-ids.ensures.entered in
    let all = append-nil (map (moved_link c.in_ok-ids.ids.items) c.links.result.now) in
    let added = rw (c.as_slice.ensures, c.empty-store.ensures, all) at c.in_ok-add_start.ensures.added in
    rw (c.in_ok-ids.ensures.events ∙ named.events ∙ ap (λ (r : RosterView). r.events) (c.reserve_events.ensures ∙ c.reserve_agents.ensures) ∙ c.new-roster.ensures.events)
    (start_kept c.args.start c.lawful.ensures.proper _ _ c.links.result.now entered c.lawful-2.ensures.names c.links.ensures.joins c.links.ensures.placed _ added)

pub returns-clause-set : goal.returns-clause-set
returns-clause-set g c =
    let named = c.in_ok-entering.ensures in
    let entered = rw (c.deref.ensures.value, named.agents, ap (λ (r : RosterView). r.agents) (c.reserve_events.ensures ∙ c.reserve_agents.ensures) ∙ c.new-roster.ensures.agents, named.named, c.kinds.ensures) at c.in_ok-ids.ensures.entered in
    record {
      start = refl;
      events = c.in_ok-ids.ensures.events ∙ named.events ∙ ap (λ (r : RosterView). r.events) (c.reserve_events.ensures ∙ c.reserve_agents.ensures) ∙ c.new-roster.ensures.events;
      serials = start_serials c.args.start c.lawful.ensures.proper _ _ c.links.result.now entered c.lawful-2.ensures.names c.links.ensures.joins c.links.ensures.placed;
    }

pub returns-clause-ids : goal.returns-clause-ids
returns-clause-ids g c =
    let named = c.in_ok-entering.ensures in
    rw (c.deref.ensures.value, named.agents, ap (λ (r : RosterView). r.agents) (c.reserve_events.ensures ∙ c.reserve_agents.ensures) ∙ c.new-roster.ensures.agents, named.named, c.kinds.ensures) at c.in_ok-ids.ensures.entered
