use Rattle.std.proofs.Common.{◌≡◌, drop}
use Rattle.std.specs.Prelude.{option_copied}
use Rattle.ic_theory.specs.Listed.{shown}
use Rattle.ic_net.specs.Rewirings.{after_writes, rewired}
use Rattle.ic_net.proofs.rewiring.Rewiring.partner.Given as goal

abbrev pub invariant-loop-write : goal.invariant-loop-write
invariant-loop-write l = after_writes l.port (option_copied l.found) (drop l.write-index l.self.writes.items) ≡ rewired (shown l.net).partner l.self.writes.items l.port
