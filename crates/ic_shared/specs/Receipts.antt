-- Lines with their numbers.
use Rattle.std.specs.Prelude.{ℕ, ◌+◌, List, [], ◌∷◌, Some}
use Rattle.ic_name.specs.declared.lines.Line.{Line}
use Rattle.ic_shared.specs.declared.receipts.Receipt.{Receipt}
use Rattle.ic_shared.specs.Passes.{Told}

-- the receipt for a line
abbrev pub receipt_of : ℕ → Line → Receipt
receipt_of number line = record { number = number; call = line.call; reply = line.reply }

-- a receipt for each line, numbered from here on
abbrev pub receipts_of : ℕ → List Line → List Receipt
receipts_of number [] = []
receipts_of number (line ∷ lines) = receipt_of number line ∷ receipts_of (number + 1) lines

-- what a receipt for each line tells, numbered from here on
abbrev pub told_of : ℕ → List Line → List Told
told_of number [] = []
told_of number (line ∷ lines) = record { number = number; line = Some line } ∷ told_of (number + 1) lines
