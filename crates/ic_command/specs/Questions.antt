-- What a line of a session that explains itself may ask beside the requests of any session.
use Rattle.std.specs.Prelude.{◌≡◌, ℕ, true, List, [], ◌∷◌, codes, Option, Some, None}
use Rattle.std.specs.Io.BufRead.{strip_last}
use Rattle.ic_name.specs.Events.{Pair}
use Rattle.ic_command.specs.declared.place.Place.{Place}
use Rattle.ic_command.specs.declared.question.Question.{Question}
use Rattle.ic_command.specs.declared.question.Question.TheVariants.{Agents, Causes, Dependents, History, Marks, Rules, Help, Step, Steps, Unstep, Wire}
use Rattle.ic_command.specs.Commands.{AreAgents, IsNumber, is_well_formed}
use Rattle.ic_command.specs.Places.{NamesPlace}
use Rattle.ic_command.specs.Words.{words}

-- words that ask a question
pub data AsksQuestion : List (List ℕ) → Question → Type 0 where
  agents : AsksQuestion (codes "agents" ∷ []) Agents
  causes : AsksQuestion (codes "causes" ∷ []) Causes
  history : AsksQuestion (codes "history" ∷ []) History
  marks : AsksQuestion (codes "marks" ∷ []) Marks
  rules : AsksQuestion (codes "rules" ∷ []) Rules
  help : AsksQuestion (codes "help" ∷ []) Help
  step : AsksQuestion (codes "step" ∷ []) Step
  step_often : {w : List ℕ} {n : ℕ} → IsNumber w n → AsksQuestion (codes "step" ∷ w ∷ []) (Steps n)
  unstep : AsksQuestion (codes "unstep" ∷ []) (Unstep 1)
  unstep_often : {w : List ℕ} {n : ℕ} → IsNumber w n → AsksQuestion (codes "unstep" ∷ w ∷ []) (Unstep n)
  dependents : {ws : List (List ℕ)} {e : Pair} → AreAgents ws e → AsksQuestion (codes "dependents" ∷ ws) (Dependents e)
  wire : {ws : List (List ℕ)} {p : Place} → NamesPlace ws p → AsksQuestion (codes "wire" ∷ ws) (Wire p)

-- the question that words ask, if they ask one
abbrev pub AreQuestionWords : List (List ℕ) → Option Question → Type 0
AreQuestionWords ws (Some q) = AsksQuestion ws q
AreQuestionWords ws None = (q : Question) → ¬ (AsksQuestion ws q)

-- the line asks a question; a carriage return at its end goes first
abbrev pub IsQuestion : List ℕ → Question → Type 0
IsQuestion line q = (is_well_formed (strip_last 13 line) ≡ true) × AsksQuestion (words (strip_last 13 line)) q

-- the question of a line, if it asks one
abbrev pub IsQuestionIn : List ℕ → Option Question → Type 0
IsQuestionIn line (Some q) = IsQuestion line q
IsQuestionIn line None = (q : Question) → ¬ (IsQuestion line q)

-- the line is this word alone; a carriage return at its end goes first
abbrev pub IsWordAlone : List ℕ → List ℕ → Type 0
IsWordAlone word line = (is_well_formed (strip_last 13 line) ≡ true) × (words (strip_last 13 line) ≡ word ∷ [])

-- it is `quit`
abbrev pub IsQuit : List ℕ → Type 0
IsQuit line = IsWordAlone (codes "quit") line

-- it is `new`
abbrev pub IsNew : List ℕ → Type 0
IsNew line = IsWordAlone (codes "new") line
