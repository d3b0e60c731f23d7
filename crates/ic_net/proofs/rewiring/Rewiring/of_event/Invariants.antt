use Rattle.std.proofs.Common.{◌≡◌, ◌<◌, ◌^◌, drop}
use Rattle.ic_theory.specs.Listed.{shown}
use Rattle.ic_theory.specs.Steps.{without_pair, take_links}
use Rattle.ic_net.specs.Rewirings.{wiring, AreRuleEnds}
use Rattle.ic_net.proofs.rewiring.Rewiring.of_event.Given as goal

abbrev pub invariant-loop-a : goal.invariant-loop-a
invariant-loop-a l = record {
  taken : take_links l.event (drop l.a-index l.links) (wiring (shown l.net).partner l.rewiring) ≡ take_links l.event l.links (record { partner = without_pair l.event (shown l.net).partner; rings = l.net.rings });
  small : AreRuleEnds (drop l.a-index l.links);
  few : l.rewiring.rings < 2 ^ 63;
}
