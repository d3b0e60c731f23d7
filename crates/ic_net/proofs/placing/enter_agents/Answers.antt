use Rattle.std.proofs.Common.{◌≡◌, ◌∷◌, [], rules}
use Rattle.std.proofs.lemmas.List.Elements.{All-nil}
use Rattle.ic_net.specs.Placed.{HasAgentNames}
use Rattle.ic_net.proofs.PlacedNames.{agent_entered}
use Rattle.ic_net.proofs.placing.enter_agents.Goals as goal

pub loop-name-init : goal.loop-name-init
loop-name-init c =
    let all : c.into_iter-name-iterator.result ≡ c.args.agents.now.entries = search rules in
    record { entered = λ ns kept h. rw (← all) h; kept = λ n s. s }

pub loop-name-preserved : goal.loop-name-preserved
loop-name-preserved c =
    let is : c.loop-name.name-iterator ≡ (c.in-Some.name.now, c.in-Some.agent.now) ∷ c.next.new.self = search rules in
    record {
      entered = agent_entered c.loop-name.names c.enter_agent.new.names c.enter_agent.ensures.kept c.args.agents.now.entries c.loop-name.name-iterator c.next.new.self (c.in-Some.name.now, c.in-Some.agent.now) is c.in_ok-enter_agent.ensures.entered c.loop-name.invariant.entered;
      kept = λ n s. c.enter_agent.ensures.kept n (c.loop-name.invariant.kept n s);
    }

pub returns-clause-entered : goal.returns-clause-entered
returns-clause-entered c =
    let none : c.loop-name.name-iterator ≡ [] = search rules in
    c.loop-name.invariant.entered c.loop-name.names (λ n s. s) (rw none (All-nil (HasAgentNames c.loop-name.names)))
