use Rattle.std.proofs.Common.{inl, inr, refl}
use Rattle.ic_trace.proofs.CausesByNumber.{concurrent_by_number, no_concurrence}
use Rattle.ic_trace.proofs.concurrency.are_concurrent.Goals as goal
use Rattle.ic_trace.proofs.concurrency.are_concurrent.Goals.{then-a-b-via-then-a-b, then-a-b-via-else-a-b+then-is_cause}

pub returns-then-a-b : goal.returns-then-a-b
returns-then-a-b c = λ s ok known. (
  λ t. absurd cc,
  λ k. absurd (no_concurrence s c.args.known.now known c.args.a c.args.b c.requires.left c.requires.right
      (elim c.then-a-b.branch [ then-a-b-via-then-a-b w ↦ inl w.if-a-b.true | then-a-b-via-else-a-b+then-is_cause w ↦ inr ((w.if-is_cause.ensures s known).0 refl) ]) k),
)

pub returns : goal.returns
returns c = λ s ok known.
    concurrent_by_number s c.args.known.now known ok c.args.a c.args.b c.requires.left c.requires.right c.is_cause.result c.is_cause-2.result c.if-a-b.false (c.is_cause.ensures s known) (c.is_cause-2.ensures s known) c.if-is_cause.false
