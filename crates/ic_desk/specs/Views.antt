-- What a desk is seen as, and what its answers say of it.
use Rattle.std.specs.Prelude.{◌≡◌, ℕ, List, [], map}
use Rattle.ic_path.specs.Orders.{IsIn, Alike}
use Rattle.ic_theory.specs.Starts.{Start}
use Rattle.ic_journal.specs.Views.{BenchView}
use Rattle.ic_journal.specs.Benches.{IsAt, Opens}
use Rattle.ic_undo.specs.Marks.{MarkView}
use Rattle.ic_undo.specs.Stood.{StoodAt}
use Rattle.ic_command.specs.declared.request.Request.{Request}
use Rattle.ic_desk.specs.Desks.{Noted, State}
use Rattle.ic_desk.specs.Replies.{RepliesToRequest}

-- a mark under its name, and after how many lines of the history just its events last stood
pub record NamedView : Type 0 where
  pub name : List ℕ
  pub mark : MarkView
  pub since : ℕ

-- a bench, and marks
pub record DeskView : Type 0 where
  pub bench : BenchView
  pub marks : List NamedView

-- a mark over the start of the bench, with a number of lines after which just its events stood
pub record IsMarkOn (v : BenchView) (x : NamedView) : Type 0 where
  pub start : x.mark.start ≡ v.start
  pub stood : StoodAt v x.since x.mark

-- what a desk keeps: its marks are marks on its bench
abbrev pub IsDesk : DeskView → Type 0
IsDesk v = (x : NamedView) → IsIn x v.marks → IsMarkOn v.bench x

-- a mark's name and events
abbrev pub note_of : NamedView → Noted
note_of x = record { name = x.name; events = x.mark.events }

-- the bench is at the state's, and the marks are those of the state
pub record IsDeskAt (v : DeskView) (st : State) : Type 0 where
  pub bench : IsAt v.bench st.bench
  pub marks : Alike (map note_of v.marks) st.marks

-- over the start, no call has been made and nothing marked
pub record IsOver (s : Start) (v : DeskView) : Type 0 where
  pub bench : Opens s v.bench
  pub marks : v.marks ≡ []

-- the answer to what a line asks for, and the desk after it
pub record TurnsByRequest (old : DeskView) (r : Request) (text : List ℕ) (new : DeskView) : Type 0 where
  pub start : new.bench.start ≡ old.bench.start
  pub replies : (st : State) → IsDeskAt old st → (next : State) × RepliesToRequest old.bench.start st r text next × IsDeskAt new next
