use Rattle.std.proofs.Common.{◌≡◌, take}
use Rattle.ic_name.specs.Names.{start_name}
use Rattle.ic_theory.specs.Born.{named}
use Rattle.ic_set.specs.Entering.{agents_in, AreNamed}
use Rattle.ic_set.proofs.entering.agents_of_kinds.Given as goal

abbrev pub invariant-loop-number : goal.invariant-loop-number
invariant-loop-number l = record {
  listed : agents_in l.roster.names l.agents.items ≡ named start_name 0 (take l.number l.kinds);
  inside : AreNamed l.roster.names l.agents.items;
  agents : l.roster.agents ≡ l.initial.roster.agents;
  events : l.roster.events ≡ l.initial.roster.events;
}
