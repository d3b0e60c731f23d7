use Rattle.std.proofs.Common.{◌≡◌, take}
use Rattle.ic_set.proofs.LastNames.{ids_of}
use Rattle.ic_set.proofs.ReadNets.{HaveCome}
use Rattle.ic_set.proofs.bare.BareSet.put_agents.Given as goal

-- the agents so far
abbrev pub invariant-loop-agent : goal.invariant-loop-agent
invariant-loop-agent g l = record {
  agents : HaveCome l.self.set (ids_of (take l.agent-index l.agent-items)) l.maker.agents;
  names : l.maker.names ≡ l.initial.maker.names;
  frees : l.maker.frees ≡ l.initial.maker.frees;
  profile : l.maker.profile ≡ l.initial.maker.profile;
}
