-- The invariant of every bench.
use Rattle.std.specs.Prelude.{◌≡◌, ◌+◌, ◌≤◌, [], length, map}
use Rattle.ic_name.specs.declared.limits.TheConstants.{MAX_LINES}
use Rattle.ic_name.specs.declared.ids.AgentId.{AgentId}
use Rattle.ic_path.specs.Orders.{IsIn, Alike}
use Rattle.ic_theory.specs.Starts.{Start}
use Rattle.ic_theory.specs.Machine.{Standing, State, IsHistory}
use Rattle.ic_roster.specs.Rosters.{Member, Stander}
use Rattle.ic_set.specs.Sets.{IsStandingSet}
use Rattle.ic_set.specs.Views.{NamedView}
use Rattle.ic_history.specs.Noted.{AreLinesNamed}
use Rattle.ic_history.specs.Histories.{HistoryView}
use Rattle.ic_journal.specs.Views.{BenchView, set_of, view_of}

-- an event with the line of its firing
abbrev pub fired_in : Stander → Standing
fired_in x = record { event = x.event; line = x.id.line }

-- the history is legal, and what the bench has standing is what stands after it
pub record IsAt (v : BenchView) (st : State) : Type 0 where
  pub history : IsHistory v.start v.lines st
  pub standing : Alike (map fired_in v.events) st.standing

-- the serial number of an agent tells who made it: 0 is the start, and else it is one more than the line of the firing
-- of its maker
pub record HaveOwnSerials (v : BenchView) : Type 0 where
  pub start : (m : Member) → IsIn m v.agents → m.name.digits ≡ [] → m.id.serial ≡ 0
  pub born : (x : Stander) → IsIn x v.events → (d : AgentId) → IsIn d x.born → d.serial ≡ x.id.line + 1

-- what a bench keeps: a legal history with what stands after it, not too long with its room, and agents under ids that
-- tell who made them
pub record IsRunning (v : BenchView) : Type 0 where
  pub state : State
  pub at : IsAt v state
  pub short : length v.lines + v.room ≤ MAX_LINES
  pub serials : HaveOwnSerials v

-- what a bench is made of shows what a bench keeps, and the places in its history are those of known names
pub record IsKept (s : NamedView) (h : HistoryView) : Type 0 where
  pub running : IsRunning (view_of s h)
  pub named : AreLinesNamed s.names h.lines

-- the invariant of every bench
pub record IsBench (v : BenchView) : Type 0 where
  pub running : IsRunning v
  pub set : IsStandingSet (set_of v)

-- a bench over the start, on which no call has been made
pub record Opens (s : Start) (v : BenchView) : Type 0 where
  pub start : v.start ≡ s
  pub events : v.events ≡ []
  pub lines : v.lines ≡ []
  pub room : v.room ≡ 0
  pub serials : (m : Member) → IsIn m v.agents → m.id.serial ≡ 0
