use Rattle.std.proofs.Common.{rules, tests}
use Rattle.ic_history.proofs.NotedLines.{line_found, line_read, line_named, none_read}
use Rattle.ic_history.proofs.history.History.line_is.Goals as goal

pub has_call-requires-clause-named : goal.has_call-requires-clause-named
has_call-requires-clause-named c =
    let found = line_found c.self.inside.lines.items c.deref.result.now c.args.number c.in-Some.line.now c.deref.ensures.value c.in-Some.ensures.lookup.0 c.in-Some.ensures.lookup.1 in
    rw c.deref-in-Some.ensures.value (line_named c.args.names.now c.self.inside.inactive.items c.self.inside.lines.items c.args.number _ found (rw (← c.self.view_is) at c.requires))

pub returns-then-has_call : goal.returns-then-has_call
returns-then-has_call c =
    let found = line_found c.self.inside.lines.items c.deref.result.now c.args.number c.in-Some.line.now c.deref.ensures.value c.in-Some.ensures.lookup.0 c.in-Some.ensures.lookup.1 in
    let read = line_read c.args.names.now c.self.inside.inactive.items c.self.inside.lines.items c.args.number _ found in
    rw (← c.self.view_is) (rw read (search (rules, tests)))

pub returns-else-has_call : goal.returns-else-has_call
returns-else-has_call c =
    let found = line_found c.self.inside.lines.items c.deref.result.now c.args.number c.in-Some.line.now c.deref.ensures.value c.in-Some.ensures.lookup.0 c.in-Some.ensures.lookup.1 in
    let read = line_read c.args.names.now c.self.inside.inactive.items c.self.inside.lines.items c.args.number _ found in
    rw (← c.self.view_is) (rw read (search (rules, tests)))

pub returns-in-None : goal.returns-in-None
returns-in-None c =
    let none = none_read c.args.names.now c.self.inside.inactive.items c.self.inside.lines.items c.deref.result.now c.args.number c.deref.ensures.value c.in-None.ensures.lookup.0 in
    rw (← c.self.view_is) (rw none (search (rules, tests)))
