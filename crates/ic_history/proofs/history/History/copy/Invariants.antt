use Rattle.std.proofs.Common.{◌≡◌, take}
use Rattle.ic_history.proofs.history.History.copy.Given as goal

abbrev pub invariant-loop-proposal : goal.invariant-loop-proposal
invariant-loop-proposal l = l.inactive.items ≡ take l.proposal-index l.proposal-items
