-- The numbers of faults.
use Rattle.std.specs.Prelude.{ℕ}
use Rattle.ic_name.specs.declared.numbers.TheConstants.{MEMORY, TOO_MANY_LETTERS, NOT_LEGAL}
use Rattle.ic_trace.specs.declared.faults.TraceFault.{TraceFault}
use Rattle.ic_trace.specs.declared.faults.TraceFault.TheVariants.{TooMany, NotLegal, Memory}

-- the number of a refusal of `moves_to_canonical`
abbrev pub trace_number : TraceFault → ℕ
trace_number TooMany = TOO_MANY_LETTERS
trace_number (NotLegal i) = NOT_LEGAL
trace_number Memory = MEMORY
