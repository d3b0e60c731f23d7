use Rattle.std.proofs.Common.{take}
use Rattle.std.specs.Prelude.{All}
use Rattle.ic_name.specs.Names.{Name}
use Rattle.ic_net.specs.Placed.{Stands, HasPortName}
use Rattle.ic_net.proofs.placing.enter_agent.Given as goal

abbrev pub invariant-loop-port : goal.invariant-loop-port
invariant-loop-port l = record {
  name : Stands l.names l.name;
  partners : All (HasPortName l.names) (take l.port-index l.port-items);
  kept : (n : Name) → Stands l.fn.names n → Stands l.names n;
}
