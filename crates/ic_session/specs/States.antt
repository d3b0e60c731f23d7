-- States that a history leads to.
use Rattle.std.specs.Prelude.{◌≤◌, List}
use Rattle.ic_name.specs.declared.limits.TheConstants.{MAX_LINES}
use Rattle.ic_name.specs.declared.lines.Line.{Line}
use Rattle.ic_theory.specs.Starts.{Start}
use Rattle.ic_theory.specs.Machine.{State, IsHistory}

-- a history that isn't too long leads to the state
abbrev pub IsReached : Start → State → Type 0
IsReached s st = (lines : List Line) × IsHistory s lines st × (st.lines ≤ MAX_LINES)
