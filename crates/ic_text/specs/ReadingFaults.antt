-- The numbers of faults.
use Rattle.std.specs.Prelude.{ℕ}
use Rattle.ic_name.specs.declared.numbers.TheConstants.{MEMORY}
use Rattle.ic_text.specs.Faults.{code}
use Rattle.ic_text.specs.declared.fault.TextFault.{TextFault}
use Rattle.ic_text.specs.declared.fault.TextFault.TheVariants as faults

-- the number of a fault of `read_net`: that of want of memory, or of what is wrong with the text
abbrev pub text_number : TextFault → ℕ
text_number faults.Memory = MEMORY
text_number (faults.Refused f) = code f
