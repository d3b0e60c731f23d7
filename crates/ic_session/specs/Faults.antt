-- The faults of a session.
use Rattle.ic_desk.specs.declared.fault.DeskFault.{DeskFault}
use Rattle.ic_desk.specs.declared.fault.DeskFault.TheVariants as desk
use Rattle.ic_command.specs.declared.lines.piece.IoFault.{IoFault}
use Rattle.ic_command.specs.declared.lines.piece.IoFault.TheVariants as io
use Rattle.ic_session.specs.declared.fault.Fault.{Fault}
use Rattle.ic_session.specs.declared.fault.Fault.TheVariants.{Read, Write, Memory, Settle}

-- the fault that a fault of reading or writing is to a session
abbrev pub fault_of : IoFault → Fault
fault_of io.Read = Read
fault_of io.Write = Write
fault_of io.Memory = Memory

-- the fault that a fault of the desk is to a session
abbrev pub fault_at_desk : DeskFault → Fault
fault_at_desk desk.Memory = Memory
fault_at_desk desk.Settle = Settle
