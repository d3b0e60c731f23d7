-- What a line of a session asks for, alone or with the lines behind it.
use Rattle.std.specs.Prelude.{◌≡◌, ◌≤◌, ℕ, true, List, [], ◌∷◌, codes}
use Rattle.std.specs.Fmt.{decimal}
use Rattle.std.specs.Io.BufRead.{strip_last}
use Rattle.ic_name.specs.declared.limits.TheConstants.{MAX_ABSORBED}
use Rattle.ic_command.specs.declared.asked.Asked.{Asked}
use Rattle.ic_command.specs.declared.asked.Asked.TheVariants.{Alone, Absorb}
use Rattle.ic_command.specs.declared.command.Command.TheVariants.{Malformed}
use Rattle.ic_command.specs.declared.request.Request.{Request}
use Rattle.ic_command.specs.declared.request.Request.TheVariants.{Bench}
use Rattle.ic_command.specs.Commands.{is_well_formed}
use Rattle.ic_command.specs.Requests.{AreRequestWords, IsRequest}
use Rattle.ic_command.specs.Words.{words}

-- what a line asks for that is no command
abbrev pub malformed : Asked
malformed = Alone (Bench Malformed)

-- the words ask to absorb so many events: a decimal number without leading zeros
pub data AsksAbsorb : List (List ℕ) → ℕ → Type 0 where
  absorb : {w : List ℕ} {n : ℕ} → w ≡ decimal n → n ≤ MAX_ABSORBED → AsksAbsorb (codes "absorb" ∷ w ∷ []) n

-- the line asks to absorb so many events; a carriage return at its end goes first
abbrev pub IsAbsorb : List ℕ → ℕ → Type 0
IsAbsorb line n = (is_well_formed (strip_last 13 line) ≡ true) × AsksAbsorb (words (strip_last 13 line)) n

-- what words ask for
pub data AreAskedWords (ws : List (List ℕ)) : Asked → Type 0 where
  to_absorb : {n : ℕ} → AsksAbsorb ws n → AreAskedWords ws (Absorb n)
  to_request : {r : Request} → ((n : ℕ) → ¬ (AsksAbsorb ws n)) → AreRequestWords ws r → AreAskedWords ws (Alone r)

-- what a line asks for: to absorb the events that so many lines behind it list, or what it says alone
pub data IsAsked (line : List ℕ) : Asked → Type 0 where
  of_absorb : {n : ℕ} → IsAbsorb line n → IsAsked line (Absorb n)
  of_request : {r : Request} → ((n : ℕ) → ¬ (IsAbsorb line n)) → IsRequest line r → IsAsked line (Alone r)
