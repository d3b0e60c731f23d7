-- Events that rest on a line, found one from another.
use Rattle.std.specs.Prelude.{◌≡◌, ℕ, Bool, IsTrue, List, ◌++◌, map}
use Rattle.ic_name.specs.declared.ids.EventId.{EventId}
use Rattle.ic_path.specs.Orders.{IsIn}
use Rattle.ic_path.specs.Rings.{HasEachOnce}
use Rattle.ic_roster.specs.Rosters.{Stander}
use Rattle.ic_journal.specs.Views.{BenchView}
use Rattle.ic_undo.specs.Undone.{RestsOn}

-- the id is that of a standing event that rests on the line
abbrev pub IsRestingId : BenchView → ℕ → EventId → Type 0
IsRestingId v line d = (x : Stander) × IsIn x v.events × (x.id ≡ d) × RestsOn v line x

-- each of the ids has a line of its own, and the test is whether a line is among these
abbrev pub HaveLines : List EventId → (ℕ → Bool) → Type 0
HaveLines ids has = HasEachOnce (λ n. IsTrue (has n)) (map (λ d. d.line) ids)

-- some of the others were put behind the ids, and then the line of each of the others is among theirs
pub record PutsBehind (old others new : List EventId) : Type 0 where
  pub put : List EventId
  pub behind : new ≡ old ++ put
  pub only : (d : EventId) → IsIn d put → IsIn d others
  pub lines : (d : EventId) → IsIn d others → IsIn d.line (map (λ e. e.line) new)
