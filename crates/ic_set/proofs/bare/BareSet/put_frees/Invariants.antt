use Rattle.std.proofs.Common.{◌≡◌}
use Rattle.ic_set.proofs.ReadNets.{AreFreesTo}
use Rattle.ic_set.proofs.bare.BareSet.put_frees.Given as goal

-- the free names so far
abbrev pub invariant-loop-number : goal.invariant-loop-number
invariant-loop-number g l = record {
  agents : l.maker.agents ≡ l.initial.maker.agents;
  frees : AreFreesTo l.self.set l.number l.maker.frees;
  names : l.maker.names ≡ l.initial.maker.names;
  profile : l.maker.profile ≡ l.initial.maker.profile;
}
