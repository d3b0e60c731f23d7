-- The numbers of faults.
use Rattle.std.specs.Prelude.{ℕ}
use Rattle.ic_name.specs.declared.faults.ChildFault.{ChildFault}
use Rattle.ic_name.specs.declared.faults.ChildFault.TheVariants as child
use Rattle.ic_name.specs.declared.faults.NameFault.{NameFault}
use Rattle.ic_name.specs.declared.faults.NameFault.TheVariants as name
use Rattle.ic_name.specs.declared.numbers.TheConstants.{BAD_NAME, DEEP, MEMORY}

-- the number of a fault of `AgentName::child`
abbrev pub child_number : ChildFault → ℕ
child_number child.Deep = DEEP
child_number child.Memory = MEMORY

-- the number of a fault of `AgentName::read`
abbrev pub name_number : NameFault → ℕ
name_number (name.BadName _) = BAD_NAME
name_number name.Deep = DEEP
name_number name.Memory = MEMORY
