use Rattle.std.proofs.Common.{ap, map}
use Rattle.std.proofs.lemmas.List.Elements.{All-nil}
use Rattle.ic_history.specs.Noted.{line_in, IsLineNamed}
use Rattle.ic_journal.specs.Views.{view_of}
use Rattle.ic_journal.proofs.Answering.{opened}
use Rattle.ic_journal.proofs.bench.Bench.over.Goals as goal

pub invariant_of-result : goal.invariant_of-result
invariant_of-result g c = record {
  running = opened c.args.start (view_of c.in_ok-set.set c.new.result) (record {
    start = c.in_ok-set.ensures.start;
    events = c.in_ok-set.ensures.events;
    lines = ap (map (line_in c.in_ok-set.set.names)) c.new.ensures.lines;
    room = c.new.ensures.room;
    serials = c.in_ok-set.ensures.serials;
  });
  named = rw c.new.ensures.lines (All-nil (IsLineNamed c.in_ok-set.set.names));
}
