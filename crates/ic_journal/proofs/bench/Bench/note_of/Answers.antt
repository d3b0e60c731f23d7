use Rattle.std.proofs.lemmas.Option.{IfSome_then}
use Rattle.ic_history.proofs.PairNotes.{found_read, none_of_a_pair}
use Rattle.ic_journal.proofs.bench.Bench.note_of.Goals as goal

pub returns-clause-read : goal.returns-clause-read
returns-clause-read g c =
    let s = c.self.inside.set in
    let h = c.self.inside.history in
    rw (← c.self.view_is) (IfSome_then c.note_of.result c.note_of.ensures.noted (found_read s.names h.lines c.self.invariant.named c.args.number))

pub returns-clause-none : goal.returns-clause-none
returns-clause-none g c = rw (← c.self.view_is) (none_of_a_pair c.self.inside.set.names c.self.inside.history.lines c.args.number c.note_of.result c.note_of.ensures.none)
