use Rattle.std.proofs.Common.{take, drop}
use Rattle.ic_trace.specs.Cursors.{list_in}
use Rattle.ic_trace.specs.Readings.{AreInside, letters_in}
use Rattle.ic_trace.proofs.CheckedMoves.{AreMade}
use Rattle.ic_trace.proofs.checking.leads.Given as goal

-- the moves so far are made
abbrev pub invariant-loop-step : goal.invariant-loop-step
invariant-loop-step l = record {
  inside : AreInside l.trace.known.items (list_in l.cursor);
  made : AreMade l.start (letters_in l.trace.known.items (list_in l.initial.cursor)) (take l.step-index l.moves) (drop l.step-index l.moves) (letters_in l.trace.known.items (list_in l.cursor));
}
