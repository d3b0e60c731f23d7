use Rattle.std.proofs.Common.{◌<◌, [], ◌∷◌, length, take, get_or, refl, subst, ◌∙◌}
use Rattle.std.proofs.lemmas.List.{map-append, take_more, take_all}
use Rattle.ic_name.specs.declared.kinds.Kind.TheVariants.{Gamma}
use Rattle.ic_path.specs.Orders.{IsIn}
use Rattle.ic_path.proofs.ListPlaces.{item_in}
use Rattle.ic_roster.specs.declared.agent_records.PlacedAgent.{PlacedAgent}
use Rattle.ic_roster.specs.Placed.{member_in}
use Rattle.ic_roster.specs.Rosters.{AreByName}
use Rattle.ic_set.specs.Views.{NamedView}
use Rattle.ic_set.proofs.LastNames.{ids_of, last_at}
use Rattle.ic_set.proofs.ReadNets.{none_come, one_more, all_come}
use Rattle.ic_set.proofs.bare.BareSet.put_agents.Goals as goal

-- an agent, where there is none
abbrev none : PlacedAgent
none = record { id = record { slot = 0; serial = 0 }; name = record { place = 0 }; kind = Gamma }

pub put_agent-requires : goal.put_agent-requires
put_agent-requires g c =
    let xs = c.deref-agent-items.result.now in
    let i = c.loop-agent.agent-index in
    let listed = subst (λ ys. IsIn (get_or xs i none) ys) c.deref-agent-items.ensures.value (item_in xs i (get_or xs i none) none c.loop-agent-test.true refl) in
    let told = subst (λ (w : NamedView). IsIn (member_in w.names (get_or xs i none)) w.set.agents × ((get_or xs i none).name.place < length w.names)) c.self.view_is (c.in_ok-in_order.ensures.told (get_or xs i none) listed) in
    record {
      names = c.loop-agent.invariant.names ∙ c.requires.names;
      there = told.0;
      inside = told.1;
      last = last_at c.args.self.now.set c.lawful.ensures.set xs _ i none c.loop-agent.maker.agents c.deref-agent-items.ensures.value
          (subst (λ (w : NamedView). AreByName w.set.agents (ids_of c.in_ok-in_order.field-0.items)) c.self.view_is c.in_ok-in_order.ensures.order) c.loop-agent-test.true c.loop-agent.invariant.agents.from;
    }

pub loop-agent-init : goal.loop-agent-init
loop-agent-init g c = record { agents = rw c.requires.none (none_come c.args.self.now.set); names = refl; frees = refl; profile = refl }

pub loop-agent-preserved : goal.loop-agent-preserved
loop-agent-preserved g c =
    let i = c.loop-agent.invariant in
    let xs = c.deref-agent-items.result.now in
    let k = c.loop-agent.agent-index in
    let last = last_at c.args.self.now.set c.lawful.ensures.set xs _ k none c.loop-agent.maker.agents c.deref-agent-items.ensures.value
    (subst (λ (w : NamedView). AreByName w.set.agents (ids_of c.in_ok-in_order.field-0.items)) c.self.view_is c.in_ok-in_order.ensures.order) c.loop-agent-test.true i.agents.from in
    record {
      agents = rw (take_more xs k none c.loop-agent-test.true, map-append (λ (x : PlacedAgent). x.id) (take k xs) (get_or xs k none ∷ [])) (one_more c.args.self.now.set c.lawful.ensures.set _ _ _ _ last i.agents c.in_ok-put_agent.ensures.agents);
      names = c.in_ok-put_agent.ensures.names ∙ i.names;
      frees = c.in_ok-put_agent.ensures.frees ∙ i.frees;
      profile = c.in_ok-put_agent.ensures.profile ∙ i.profile;
    }

pub returns-clause-agents : goal.returns-clause-agents
returns-clause-agents g c =
    let i = c.loop-agent.invariant in
    let whole = take_all c.loop-agent.agent-index c.deref-agent-items.result.now c.loop-agent-test.false in
    let all = subst (λ (w : NamedView). AreByName w.set.agents (ids_of c.in_ok-in_order.field-0.items)) c.self.view_is c.in_ok-in_order.ensures.order in
    all_come c.args.self.now.set c.lawful.ensures.set (ids_of c.in_ok-in_order.field-0.items) _ all (rw (whole, c.deref-agent-items.ensures.value) at i.agents)
