use Rattle.std.proofs.Common.{◌≡◌, ◌∙◌, ◌∷◌, ◌++◌, rules, ap, sym, map}
use Rattle.std.proofs.lemmas.List.Elements.{All-nil, All-push}
use Rattle.ic_net.specs.declared.sheet.placed.PlacedAgent.{PlacedAgent}
use Rattle.ic_net.specs.Placed.{IsAgentInside, listed_at}
use Rattle.ic_net.specs.Sheets.{listed_agent}
use Rattle.ic_net.proofs.PlacedNames.{agent_left, shown_more}
use Rattle.ic_net.proofs.placing.place_agents.Goals as goal

pub loop-name-init : goal.loop-name-init
loop-name-init c =
    let all : c.into_iter-name-iterator.result ≡ c.args.agents.now.entries = search rules in
    record { shown = search rules; inside = rw c.in_ok-placed.ensures.items (All-nil (IsAgentInside c.args.names.now)); left = rw all c.requires }

pub place_of-requires : goal.place_of-requires
place_of-requires c =
    let is : c.loop-name.name-iterator ≡ (c.in-Some.name.now, c.in-Some.agent.now) ∷ c.next.new.self = search rules in
    (agent_left c.args.names.now c.loop-name.name-iterator c.next.new.self (c.in-Some.name.now, c.in-Some.agent.now) is c.loop-name.invariant.left).0.name

pub place_partners-requires : goal.place_partners-requires
place_partners-requires c =
    let is : c.loop-name.name-iterator ≡ (c.in-Some.name.now, c.in-Some.agent.now) ∷ c.next.new.self = search rules in
    (agent_left c.args.names.now c.loop-name.name-iterator c.next.new.self (c.in-Some.name.now, c.in-Some.agent.now) is c.loop-name.invariant.left).0.partners

pub loop-name-preserved : goal.loop-name-preserved
loop-name-preserved c =
    let is : c.loop-name.name-iterator ≡ (c.in-Some.name.now, c.in-Some.agent.now) ∷ c.next.new.self = search rules in
    let names = c.args.names.now in
    let done = c.loop-name.placed.items in
    let placed : PlacedAgent = record { name = c.place_of.result; kind = c.in-Some.agent.now.kind; partners = c.place_partners.result } in
    let same : listed_at names placed ≡ listed_agent (c.in-Some.name.now, c.in-Some.agent.now) = λ i. record { name = c.place_of.ensures.named i; kind = c.in-Some.agent.now.kind; partners = c.place_partners.ensures.shown i } in
    record {
      shown = rw c.in_ok-push.ensures.items
          (shown_more (listed_at names) done placed (map listed_agent c.next.new.self)
          ∙ ap (λ a. map (listed_at names) done ++ a ∷ map listed_agent c.next.new.self) same
          ∙ ap (λ rest. map (listed_at names) done ++ map listed_agent rest) (sym is)
          ∙ c.loop-name.invariant.shown);
      inside = rw c.in_ok-push.ensures.items (All-push (IsAgentInside names) done placed c.loop-name.invariant.inside (record { name = c.place_of.ensures.within; partners = c.place_partners.ensures.inside }));
      left = (agent_left c.args.names.now c.loop-name.name-iterator c.next.new.self (c.in-Some.name.now, c.in-Some.agent.now) is c.loop-name.invariant.left).1;
    }
