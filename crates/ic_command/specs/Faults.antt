-- Where a fault of reading comes from, and what a fault of writing leaves.
use Rattle.std.specs.Prelude.{◌≡◌, ℕ, List, ◌++◌, Option}
use Rattle.std.specs.Io.KnownBytes.{Appends}
use Rattle.ic_command.specs.declared.lines.piece.IoFault.{IoFault}
use Rattle.ic_command.specs.declared.lines.piece.IoFault.TheVariants.{Read, Write, Memory}

-- a fault of reading, by how many calls of the reader are left: with none left it can't be read on; reading never ends in
-- a fault of writing
abbrev pub IsReadFault : ℕ → IoFault → Type 0
IsReadFault left Read = left ≡ 0
IsReadFault left Write = ⊥
IsReadFault left Memory = Unit {0}

-- a front of the bytes was appended
pub record AppendsFront (old new : Option (List ℕ)) (bytes : List ℕ) : Type 0 where
  pub front : List ℕ
  pub behind : List ℕ
  pub parts : bytes ≡ front ++ behind
  pub appended : Appends old new front
