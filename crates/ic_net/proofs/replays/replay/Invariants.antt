use Rattle.std.proofs.Common.{[]}
use Rattle.ic_theory.specs.Listed.{shown}
use Rattle.ic_theory.specs.Nets.{net_of}
use Rattle.ic_net.proofs.Replayed.{IsAt}
use Rattle.ic_net.proofs.replays.replay.Given as goal

abbrev pub invariant-loop-place : goal.invariant-loop-place
invariant-loop-place l = IsAt (net_of l.start []) l.events l.place (shown l.net)
