use Rattle.std.proofs.Common.{◌≡◌, ◌++◌, map}
use Rattle.std.specs.List.{filter_map}
use Rattle.ic_net.specs.Sheets.{listed_agent}
use Rattle.ic_net.specs.Nets.{pair_led_by}
use Rattle.ic_net.proofs.pairs.active_of.Given as goal

abbrev pub invariant-loop-name : goal.invariant-loop-name
invariant-loop-name l = l.pairs.items ++ filter_map pair_led_by (map listed_agent l.name-iterator) ≡ filter_map pair_led_by (map listed_agent l.agents.entries)
