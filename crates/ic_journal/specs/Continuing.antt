-- Histories that go on with calls to fire events.
use Rattle.std.specs.Prelude.{◌≡◌, ℕ, ◌+◌, List, [], ◌∷◌, ◌++◌}
use Rattle.ic_name.specs.declared.lines.Call.{Call}
use Rattle.ic_name.specs.declared.lines.Call.TheVariants.{Fire, Undo}
use Rattle.ic_name.specs.declared.lines.Line.{Line}
use Rattle.ic_name.specs.declared.lines.Reply.{Reply}
use Rattle.ic_name.specs.declared.lines.Reply.TheVariants.{Fired}
use Rattle.ic_path.specs.Orders.{IsIn}
use Rattle.ic_journal.specs.Views.{BenchView}

-- a call to fire an event
abbrev pub IsFire : Call → Type 0
IsFire (Fire e) = Unit {0}
IsFire (Undo l) = ⊥

-- how many events a line says were fired: one or none
abbrev pub fired_by : Reply → ℕ
fired_by Fired = 1
fired_by r = 0

-- how many of the lines say that an event was fired
abbrev pub fired_lines : List Line → ℕ
fired_lines [] = 0
fired_lines (l ∷ ls) = fired_by l.reply + fired_lines ls

-- the history is the old one and lines of calls to fire events, of which so many say that the event was fired
pub record Continues (old : BenchView) (fired : ℕ) (new : BenchView) : Type 0 where
  pub added : List Line
  pub lines : new.lines ≡ old.lines ++ added
  pub fires : (l : Line) → IsIn l added → IsFire l.call
  pub count : fired_lines added ≡ fired
