-- What a command line says.
use Rattle.std.specs.Prelude.{◌≡◌, ◌≢◌, ◌≤◌, ℕ, ◌==◌, ◌||◌, ◌&&◌, nat_le, min, Bool, true, false, List, [], ◌∷◌, length, codes, Option, None, Some}
use Rattle.std.specs.Fmt.{decimal}
use Rattle.std.specs.Str.{bytes_eq}
use Rattle.std.specs.List.{list_all}
use Rattle.std.specs.Io.BufRead.{strip_last}
use Rattle.ic_name.specs.Names.{Name, IsName}
use Rattle.ic_name.specs.Events.{Pair, pair_of}
use Rattle.ic_name.specs.NameTexts.{name_text, IsShallowText}
use Rattle.ic_name.specs.declared.limits.TheConstants.{MAX_LINES}
use Rattle.ic_command.specs.declared.command.TheConstants.{MAX_COMMAND}
use Rattle.ic_command.specs.declared.command.Command.{Command}
use Rattle.ic_command.specs.declared.command.Command.TheVariants.{Nothing, Net, Active, Journal, Fire, Undo, Why, Unwind, UndoAll, Reduce, Malformed}
use Rattle.ic_command.specs.declared.command.Deed.{Deed}
use Rattle.ic_command.specs.declared.command.Deed.TheVariants as deeds
use Rattle.ic_command.specs.Words.{words}

-- a byte that a command line may have
abbrev pub is_plain : ℕ → Bool
is_plain b = (nat_le 32 b && nat_le b 126) || (b == 9)

-- the line isn't too long, and has no other bytes
abbrev pub is_well_formed : List ℕ → Bool
is_well_formed line = nat_le (length line) MAX_COMMAND && list_all is_plain line

-- no word has other bytes
abbrev pub are_plain_words : List (List ℕ) → Bool
are_plain_words ws = list_all (list_all is_plain) ws

-- a word that begins a comment
abbrev pub is_comment : List ℕ → Bool
is_comment [] = false
is_comment (b ∷ bs) = b == 35

-- the words are the names of two agents, and this is the name of their event
pub record AreAgents (ws : List (List ℕ)) (event : Pair) : Type 0 where
  pub first : Name
  pub second : Name
  pub first_is : IsName first
  pub second_is : IsName second
  pub apart : first ≢ second
  pub written : ws ≡ name_text first ∷ name_text second ∷ []
  pub named : event ≡ pair_of first second

-- the word is a decimal number without leading zeros, at most so great
pub record IsNumberUpTo (most : ℕ) (w : List ℕ) (n : ℕ) : Type 0 where
  pub written : w ≡ decimal n
  pub small : n ≤ most

-- at most as great as a history may be long
abbrev pub IsNumber : List ℕ → ℕ → Type 0
IsNumber w n = IsNumberUpTo MAX_LINES w n

-- what the words of a line ask for
pub data Asks : List (List ℕ) → Command → Type 0 where
  no_words : Asks [] Nothing
  comment : {w : List ℕ} {ws : List (List ℕ)} → is_comment w ≡ true → Asks (w ∷ ws) Nothing
  net : Asks (codes "net" ∷ []) Net
  active : Asks (codes "active" ∷ []) Active
  journal : Asks (codes "journal" ∷ []) Journal
  undo_all : Asks (codes "undo-all" ∷ []) UndoAll
  fire : {ws : List (List ℕ)} {e : Pair} → AreAgents ws e → Asks (codes "fire" ∷ ws) (Fire e)
  undo : {ws : List (List ℕ)} {e : Pair} → AreAgents ws e → Asks (codes "undo" ∷ ws) (Undo e)
  why : {ws : List (List ℕ)} {e : Pair} → AreAgents ws e → Asks (codes "why" ∷ ws) (Why e)
  unwind : {ws : List (List ℕ)} {e : Pair} → AreAgents ws e → Asks (codes "unwind" ∷ ws) (Unwind e)
  reduce : {w : List ℕ} {n : ℕ} → IsNumber w n → Asks (codes "reduce" ∷ w ∷ []) (Reduce n)

-- the words with the names of two agents behind them
abbrev pub deed_word : Deed → List ℕ
deed_word deeds.Fire = codes "fire"
deed_word deeds.Undo = codes "undo"
deed_word deeds.Why = codes "why"
deed_word deeds.Unwind = codes "unwind"

-- and what each asks for with an event
abbrev pub deed_command : Deed → Pair → Command
deed_command deeds.Fire e = Fire e
deed_command deeds.Undo e = Undo e
deed_command deeds.Why e = Why e
deed_command deeds.Unwind e = Unwind e

-- a word that asks for something with the names of two agents behind it
abbrev pub is_paired : List ℕ → Bool
is_paired w = (bytes_eq w (codes "fire") || bytes_eq w (codes "undo")) || (bytes_eq w (codes "why") || bytes_eq w (codes "unwind"))

-- the word that asks for something with a number behind it
abbrev pub is_counted : List ℕ → Bool
is_counted w = bytes_eq w (codes "reduce")

-- what words ask for, if they ask for anything
pub data AreWordsOf : List (List ℕ) → Command → Type 0 where
  asked : {ws : List (List ℕ)} {c : Command} → Asks ws c → AreWordsOf ws c
  malformed : {ws : List (List ℕ)} → ((c : Command) → Asks ws c → ⊥) → AreWordsOf ws Malformed

-- the command of a line; a carriage return at its end goes first
pub data IsCommand (line : List ℕ) : Command → Type 0 where
  said : {c : Command} → is_well_formed (strip_last 13 line) ≡ true → AreWordsOf (words (strip_last 13 line)) c → IsCommand line c
  unsaid : is_well_formed (strip_last 13 line) ≡ false → IsCommand line Malformed

-- the name that a word writes, if it writes one
abbrev pub IsNameIn : List ℕ → Option Name → Type 0
IsNameIn w (Some n) = IsName n × (w ≡ name_text n)
IsNameIn w None = ¬ (IsShallowText w)

-- the event that words name, if they name one
abbrev pub IsEventIn : List (List ℕ) → Option Pair → Type 0
IsEventIn ws (Some e) = AreAgents ws e
IsEventIn ws None = (e : Pair) → AreAgents ws e → ⊥

-- the number that a word writes, if it writes one that is at most so great
abbrev pub IsNumberIn : ℕ → List ℕ → Option ℕ → Type 0
IsNumberIn most w (Some n) = IsNumberUpTo most w n
IsNumberIn most w None = (n : ℕ) → ¬ (IsNumberUpTo most w n)

-- the number that words write, if they are one word that writes one
abbrev pub AreNumberUpTo : ℕ → List (List ℕ) → Option ℕ → Type 0
AreNumberUpTo most ws (Some n) = (w : List ℕ) × (ws ≡ w ∷ []) × IsNumberUpTo most w n
AreNumberUpTo most ws None = (w : List ℕ) (n : ℕ) → ws ≡ w ∷ [] → ¬ (IsNumberUpTo most w n)

-- one that is at most as great as a history may be long
abbrev pub AreNumber : List (List ℕ) → Option ℕ → Type 0
AreNumber ws o = AreNumberUpTo MAX_LINES ws o

-- the command in a session that fires at most so many events at once
abbrev pub within : ℕ → Command → Command
within budget (Reduce n) = Reduce (min budget n)
within budget Nothing = Nothing
within budget Net = Net
within budget Active = Active
within budget Journal = Journal
within budget (Fire e) = Fire e
within budget (Undo e) = Undo e
within budget (Why e) = Why e
within budget (Unwind e) = Unwind e
within budget UndoAll = UndoAll
within budget Malformed = Malformed
