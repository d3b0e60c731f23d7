-- What a pass is seen as, and its two columns.
use Rattle.std.specs.Prelude.{◌≡◌, ℕ, ◌+◌, List, [], ◌∷◌, Option, Some, length, map}
use Rattle.ic_name.specs.Names.{Name}
use Rattle.ic_name.specs.declared.lines.Line.{Line}
use Rattle.ic_history.specs.Notes.{line_read}
use Rattle.ic_shared.specs.declared.receipts.Receipt.{Receipt}
use Rattle.ic_shared.specs.declared.receipts.RunReceipt.{RunReceipt}
use Rattle.ic_shared.specs.declared.passes.Column.{Column}
use Rattle.ic_shared.specs.declared.passes.Column.TheVariants.{Calls, Runs}

-- the receipts of the caller's calls, and those of its runs of firings, each in their order
pub record PassView : Type 0 where
  pub receipts : List Receipt
  pub ran : List RunReceipt

-- the pass of a caller that has added no line
abbrev pub empty_pass : PassView
empty_pass = record { receipts = []; ran = [] }

-- how many lines the caller of a pass added
abbrev pub added_by : PassView → ℕ
added_by pass = length pass.receipts + length pass.ran

-- how many the callers of all passes added
abbrev pub added_by_all : List PassView → ℕ
added_by_all [] = 0
added_by_all (pass ∷ passes) = added_by pass + added_by_all passes

-- what a receipt tells: a line with its number; no line where it tells an event by places that aren't those of known names
pub record Told : Type 0 where
  pub number : ℕ
  pub line : Option Line

-- what the receipt of a call tells
abbrev pub told_by : Receipt → Told
told_by r = record { number = r.number; line = Some (record { call = r.call; reply = r.reply }) }

-- what that of a run tells, by the names at its places
abbrev pub told_in : List Name → RunReceipt → Told
told_in ns r = record { number = r.number; line = line_read ns r.note }

-- it is for the line with this number
abbrev pub IsFor : ℕ → Line → Told → Type 0
IsFor number line told = told ≡ record { number = number; line = Some line }

-- what the receipts of a column tell
abbrev pub column : List Name → PassView → Column → List Told
column ns pass Calls = map told_by pass.receipts
column ns pass Runs = map (told_in ns) pass.ran

-- the columns of all passes, two for each
abbrev pub columns : List Name → List PassView → List (List Told)
columns ns [] = []
columns ns (pass ∷ passes) = column ns pass Calls ∷ column ns pass Runs ∷ columns ns passes
