use Rattle.ic_history.proofs.NotedLines.{line_within, line_read, line_named, found_same}
use Rattle.ic_history.proofs.history.History.is_line_of.Goals as goal

pub is_same-requires-clause-named : goal.is_same-requires-clause-named
is_same-requires-clause-named c =
    let inside = c.self.inside in
    let found = line_within inside.inactive.items inside.lines.items c.args.number c.index-line.result.now (rw (← c.self.view_is) at c.requires.within) c.index-line.ensures in
    rw c.deref.ensures.value (line_named c.args.names.now.table.now inside.inactive.items inside.lines.items c.args.number _ found (rw (← c.self.view_is) at c.requires.now))

pub is_same-requires-clause-named_then : goal.is_same-requires-clause-named_then
is_same-requires-clause-named_then c =
    let inside = c.earlier.inside in
    let found = line_within inside.inactive.items inside.lines.items c.args.number c.index.result.now (rw (← c.earlier.view_is) at c.requires.within_then) c.index.ensures in
    rw c.deref-2.ensures.value (line_named c.args.names.now.known.now inside.inactive.items inside.lines.items c.args.number _ found (rw (← c.earlier.view_is) at c.requires.then))

pub returns : goal.returns
returns c =
    let now = c.self.inside in
    let then = c.earlier.inside in
    let found = line_within now.inactive.items now.lines.items c.args.number c.index-line.result.now (rw (← c.self.view_is) at c.requires.within) c.index-line.ensures in
    let found_then = line_within then.inactive.items then.lines.items c.args.number c.index.result.now (rw (← c.earlier.view_is) at c.requires.within_then) c.index.ensures in
    let read = line_read c.args.names.now.table.now now.inactive.items now.lines.items c.args.number _ found in
    let read_then = line_read c.args.names.now.known.now then.inactive.items then.lines.items c.args.number _ found_then in
    rw (← c.self.view_is, ← c.earlier.view_is) (found_same _ _ _ _ read read_then (rw (c.deref.ensures.value, c.deref-2.ensures.value) at c.is_same.ensures))
