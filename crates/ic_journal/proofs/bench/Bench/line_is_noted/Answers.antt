use Rattle.std.proofs.Common.{◌≡◌, ◌↔◌, IsTrue, Some, rules, tests}
use Rattle.ic_names.specs.Tables.{EachOnce}
use Rattle.ic_history.proofs.PairNotes.{found_note}
use Rattle.ic_journal.proofs.bench.Bench.line_is_noted.Goals as goal

pub returns : goal.returns
returns g c =
    let s = c.self.inside.set in
    let h = c.self.inside.history in
    let once : EachOnce s.names = rw c.bare.ensures at c.lawful.ensures.table.once in
    let same : IsTrue c.eq.result ↔ (c.note_of.result ≡ Some c.args.note) = search (rules, tests) in
    let tells = found_note s.names h.lines c.self.invariant.named c.args.number once c.note_of.result c.note_of.ensures.noted c.note_of.ensures.none c.args.note in
    rw (← c.self.view_is) (λ t. tells.0 (same.0 t), λ l. same.1 (tells.1 l))
