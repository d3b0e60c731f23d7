use Rattle.std.proofs.Common.{◌≡◌, ◌+◌, ◌≤◌, false, length, vec_len, vec_capacity}
use Rattle.ic_shared.specs.Runs.{Runs}
use Rattle.ic_shared.proofs.locked.Locked.run.Given as goal

abbrev pub invariant-loop-calls : goal.invariant-loop-calls
invariant-loop-calls g l = record {
  holds : g.C.Chooser.holds l.chooser;
  run : Runs g.C.Chooser.chooses g.C.Chooser.hears l.fn.self.bench l.fn.chooser l.fn.ran.items l.self.bench l.chooser l.ran.items l.calls false;
  parts : l.share.parts ≡ l.fn.share.parts;
  amount : l.share.amount + length l.fn.ran.items ≡ l.fn.share.amount + length l.ran.items;
  room : vec_len l.ran + l.most ≤ vec_capacity l.ran + l.calls;
}
