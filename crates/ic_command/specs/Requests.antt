-- What a line of a session asks for: to mark what stands, to go back to a mark, or a command of the bench.
use Rattle.std.specs.Prelude.{◌≡◌, ℕ, true, List, [], ◌∷◌, codes}
use Rattle.std.specs.Io.BufRead.{strip_last}
use Rattle.ic_command.specs.declared.command.Command.{Command}
use Rattle.ic_command.specs.declared.request.Request.{Request}
use Rattle.ic_command.specs.declared.request.Request.TheVariants.{Bench, Mark, Back, Absorb}
use Rattle.ic_command.specs.Commands as commands
use Rattle.ic_command.specs.Commands.{AreWordsOf, IsCommand, is_well_formed}
use Rattle.ic_command.specs.MarkNames.{IsMarkName}
use Rattle.ic_command.specs.Words.{words}

-- words that ask for something with a mark
pub data AsksMark : List (List ℕ) → Request → Type 0 where
  mark : {name : List ℕ} → IsMarkName name → AsksMark (codes "mark" ∷ name ∷ []) (Mark name)
  back : {name : List ℕ} → IsMarkName name → AsksMark (codes "back" ∷ name ∷ []) (Back name)

-- what words ask for
pub data AreRequestWords (ws : List (List ℕ)) : Request → Type 0 where
  for_mark : {r : Request} → AsksMark ws r → AreRequestWords ws r
  for_bench : {c : Command} → ((r : Request) → ¬ (AsksMark ws r)) → AreWordsOf ws c → AreRequestWords ws (Bench c)

-- the request of a line; a carriage return at its end goes first
pub data IsRequest (line : List ℕ) : Request → Type 0 where
  of_mark : {r : Request} → is_well_formed (strip_last 13 line) ≡ true → AsksMark (words (strip_last 13 line)) r → IsRequest line r
  of_bench : {c : Command} → ((r : Request) → is_well_formed (strip_last 13 line) ≡ true → ¬ (AsksMark (words (strip_last 13 line)) r))
      → IsCommand line c → IsRequest line (Bench c)

-- the request in a session that fires at most so many events at once
abbrev pub within : ℕ → Request → Request
within budget (Bench c) = Bench (commands.within budget c)
within budget (Mark name) = Mark name
within budget (Back name) = Back name
within budget (Absorb names) = Absorb names
