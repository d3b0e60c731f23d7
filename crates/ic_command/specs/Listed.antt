-- The lines behind an `absorb`, each of which lists an event.
use Rattle.std.specs.Prelude.{◌≡◌, ◌⊎◌, ℕ, true, List, [], ◌∷◌, ◌++◌, codes, Option, Some, None}
use Rattle.std.specs.Io.BufRead.{strip_last}
use Rattle.ic_name.specs.Events.{Pair}
use Rattle.ic_command.specs.Commands.{AreAgents, IsNumberUpTo, is_well_formed}
use Rattle.ic_command.specs.Words.{words}
use Rattle.ic_command.specs.declared.listed.TheConstants.{MAX_RANK}

-- the word is a rank: a decimal number without leading zeros, of seven digits at most
abbrev pub IsRankWord : List ℕ → Type 0
IsRankWord w = (rank : ℕ) × IsNumberUpTo MAX_RANK w rank

-- the words of a line that lists an event: its two agents, and maybe a rank, which isn't compared with anything
pub data Lists : List (List ℕ) → Pair → Type 0 where
  bare : {ws : List (List ℕ)} {e : Pair} → AreAgents ws e → Lists ws e
  ranked : {ws : List (List ℕ)} {w : List ℕ} {e : Pair} → AreAgents ws e → IsRankWord w → Lists (ws ++ codes "rank" ∷ w ∷ []) e

-- no words, or those of a rank
abbrev pub IsRankPart : List (List ℕ) → Type 0
IsRankPart ws = (ws ≡ []) ⊎ ((w : List ℕ) × (ws ≡ codes "rank" ∷ w ∷ []) × IsRankWord w)

-- the event that the words list, if they list one
abbrev pub ListsIn : List (List ℕ) → Option Pair → Type 0
ListsIn ws (Some e) = Lists ws e
ListsIn ws None = (e : Pair) → ¬ (Lists ws e)

-- the line lists the event; a carriage return at its end goes first
abbrev pub IsListed : List ℕ → Pair → Type 0
IsListed line e = (is_well_formed (strip_last 13 line) ≡ true) × Lists (words (strip_last 13 line)) e

-- the event that a line lists, if it lists one
abbrev pub IsListedIn : List ℕ → Option Pair → Type 0
IsListedIn line (Some e) = IsListed line e
IsListedIn line None = (e : Pair) → ¬ (IsListed line e)
