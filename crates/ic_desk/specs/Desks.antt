-- A bench with marks of what stood on it, as its machine has it.
use Rattle.std.specs.Prelude.{◌≡◌, ◌≢◌, ℕ, ◌<◌, List, [], ◌∷◌, length}
use Rattle.ic_name.specs.Events.{Event}
use Rattle.ic_path.specs.Orders.{Pick, IsIn}
use Rattle.ic_theory.specs.Machine as machine
use Rattle.ic_desk.specs.declared.desk.TheConstants.{MAX_MARKS}

-- a mark under its name: the events that stood, in any order
pub record Noted : Type 0 where
  pub name : List ℕ
  pub events : List Event

-- the state of the bench, and the marks, in any order
pub record State : Type 0 where
  pub bench : machine.State
  pub marks : List Noted

-- no call has been made, and nothing marked
abbrev pub initial : State
initial = record { bench = machine.initial; marks = [] }

-- no mark has the name
abbrev pub NoneNoted : List Noted → List ℕ → Type 0
NoneNoted marks name = (x : Noted) → IsIn x marks → x.name ≢ name

-- a mark of this name
pub record IsNoted (marks : List Noted) (name : List ℕ) (x : Noted) : Type 0 where
  pub there : IsIn x marks
  pub named : x.name ≡ name

-- the mark is put in: in place of the one of its name, or as a further one
pub data Puts (old : List Noted) (x : Noted) : List Noted → Type 0 where
  replaced : {y : Noted} {rest : List Noted} → Pick y old rest → y.name ≡ x.name → Puts old x (x ∷ rest)
  added : NoneNoted old x.name → length old < MAX_MARKS → Puts old x (x ∷ old)
