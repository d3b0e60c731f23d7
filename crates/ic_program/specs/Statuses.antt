-- The exit statuses, and what is said of a fault.
use Rattle.std.specs.Prelude.{ℕ, List, ◌++◌, codes}
use Rattle.ic_session.specs.declared.fault.Fault.{Fault}
use Rattle.ic_session.specs.declared.fault.Fault.TheVariants.{Read, Write, Memory, Settle}
use Rattle.ic_session.specs.declared.session.Status.{Status}
use Rattle.ic_session.specs.declared.session.Status.TheVariants.{Ended, Stopped, NetRefused}

-- the status of a session that ended so
abbrev pub session_status : Status → ℕ
session_status Ended = 0
session_status NetRefused = 2
session_status Stopped = 5

-- the status of a fault
abbrev pub fault_status : Fault → ℕ
fault_status Read = 1
fault_status Write = 1
fault_status Memory = 3
fault_status Settle = 4

-- the line that is said of a fault
abbrev pub fault_line : Fault → List ℕ
fault_line Read = codes "icbench: read failed\n"
fault_line Write = codes "icbench: write failed\n"
fault_line Memory = codes "icbench: no memory\n"
fault_line Settle = codes "icbench: settle failed\n"

-- what is said of a file that can't be opened or read
abbrev pub unread_line : List ℕ → List ℕ
unread_line name = codes "icbench: " ++ name ++ codes ": cannot be read\n"
