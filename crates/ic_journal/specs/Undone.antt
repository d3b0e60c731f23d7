-- Undoing a list of events from its end.
use Rattle.std.specs.Prelude.{◌≡◌, ◌+◌, ◌≤◌, List, ◌∷◌, ◌++◌, length, map, reverse}
use Rattle.ic_name.specs.declared.ids.EventId.{EventId}
use Rattle.ic_name.specs.declared.lines.Line.{Line}
use Rattle.ic_name.specs.declared.lines.Call.TheVariants.{Undo}
use Rattle.ic_name.specs.declared.lines.Reply.TheVariants.{Undone}
use Rattle.ic_path.specs.Orders.{Pick, IsIn, Alike}
use Rattle.ic_theory.specs.Causes.{IsCause}
use Rattle.ic_roster.specs.Rosters.{Member, Stander}
use Rattle.ic_set.specs.Views.{standing}
use Rattle.ic_journal.specs.Views.{BenchView, set_of}

-- the line of an undone event
abbrev pub undoing : Stander → Line
undoing x = record { call = Undo x.id.line; reply = Undone }

-- these events were undone, in this order, and nothing else was done; the others stand under the ids that they had, and
-- each line takes at most one line of room
pub record AreUndone (old : BenchView) (xs : List Stander) (new : BenchView) : Type 0 where
  pub start : new.start ≡ old.start
  pub events : Alike old.events (xs ++ new.events)
  pub agents : (m : Member) → IsIn m new.agents → IsIn m old.agents
  pub lines : new.lines ≡ old.lines ++ map undoing xs
  pub room : old.room ≤ new.room + length xs

-- the events stand, each is listed once, and the direct dependents of each come behind it
pub record AreFree (v : BenchView) (order : List Stander) : Type 0 where
  pub there : (x : Stander) → IsIn x order → IsIn x v.events
  pub once : (x : Stander) (rest : List Stander) → Pick x order rest → IsIn x rest → ⊥
  pub behind : (front rest : List Stander) (x y : Stander) → order ≡ front ++ x ∷ rest → IsIn y v.events → IsCause v.start (standing (set_of v)) y.event x.event → IsIn y rest

-- the ids are those of such events
abbrev pub AreIdsOfFree : BenchView → List EventId → Type 0
AreIdsOfFree v ids = (order : List Stander) × AreFree v order × (map (λ x. x.id) order ≡ ids)

-- the events under these ids were undone from the last one on
abbrev pub AreUndoneFrom : BenchView → List EventId → BenchView → Type 0
AreUndoneFrom old ids new = (order : List Stander) → AreFree old order → map (λ x. x.id) order ≡ ids → AreUndone old (reverse order) new
