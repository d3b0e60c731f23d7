use Rattle.std.proofs.lemmas.Option.{slice_get-get_or}
use Rattle.ic_history.proofs.NotedLines.{line_named}
use Rattle.ic_history.proofs.history.History.read.Goals as goal

pub read-requires-clause-named : goal.read-requires-clause-named
read-requires-clause-named c =
    let within = rw c.deref-line-items.ensures.value at c.loop-line-test.true in
    let all = rw (← c.self.view_is) at c.requires in
    rw (c.deref.ensures.value, c.deref-line-items.ensures.value) (line_named c.args.roster.now.names c.self.inside.inactive.items c.self.inside.lines.items c.loop-line.line-index _ (slice_get-get_or c.self.inside.lines.items c.loop-line.line-index _ within) all)
