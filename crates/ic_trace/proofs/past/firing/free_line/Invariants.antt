use Rattle.std.proofs.Common.{◌+◌, ◌<◌, ◌≤◌, ℕ, length, map}
use Rattle.ic_path.specs.Orders.{IsIn}
use Rattle.ic_trace.proofs.past.firing.free_line.Given as goal

-- the lines so far are in use
abbrev pub invariant-loop-tried : goal.invariant-loop-tried
invariant-loop-tried l = (k : ℕ) → k ≤ length l.roster.events → length l.roster.events < l.tried + k → IsIn k (map (λ x. x.id.line) l.roster.events)
