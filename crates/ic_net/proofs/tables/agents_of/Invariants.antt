use Rattle.std.proofs.Common.{◌≡◌, length, map, take}
use Rattle.std.specs.BTreeMap.{IsOrdered}
use Rattle.ic_name.specs.Names.{name_cmp}
use Rattle.ic_net.specs.FarTables.{agent_partner}
use Rattle.ic_net.specs.Sheets.{listed_agent}
use Rattle.ic_net.specs.Nets.{listed_from}
use Rattle.ic_net.proofs.tables.agents_of.Given as goal

abbrev pub invariant-loop-number : goal.invariant-loop-number
invariant-loop-number l = record {
  listed : map listed_agent l.agents.entries ≡ listed_from (agent_partner (length l.kinds) l.ends) 0 (take l.number l.kinds);
  ordered : IsOrdered name_cmp l.agents;
}
