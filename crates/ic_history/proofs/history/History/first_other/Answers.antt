use Rattle.std.proofs.Common.{◌≡◌, ◌<◌, length, map, refl, arith}
use Rattle.std.specs.Prelude.{slice_get}
use Rattle.std.proofs.lemmas.List.{length-map}
use Rattle.ic_history.specs.Noted.{line_in}
use Rattle.ic_history.proofs.FirstElements.{take_same}
use Rattle.ic_history.proofs.history.History.first_other.Goals as goal

pub loop-number-preserved : goal.loop-number-preserved
loop-number-preserved c =
    let line = rw (c.of-both.ensures.table, c.of-both.ensures.known) at (c.if-not-is_line_of.ensures.0 refl) in
    let same : slice_get (map (line_in c.args.names.now) c.args.self.now.lines) c.loop-number.number ≡ slice_get c.args.lines.now c.loop-number.number = rw (← c.lines.view_is) line in
    let count = length-map c.lines.inside.history.lines (line_in c.lines.inside.names) in
    let within : c.loop-number.number < length c.args.lines.now = rw (← c.lines.view_is) (omega (arith, count, c.loop-number-test.true, c.line_count-number-end.ensures.count)) in
    take_same _ c.args.lines.now c.loop-number.number c.loop-number.invariant within same
