-- The event at a place of an order is undone, where those behind it are.
use Rattle.std.proofs.Common.{ℕ, ◌+◌, ◌≤◌, List, Ok, Err, drop, take, reverse, sym, subst}
use Rattle.ic_name.specs.declared.ids.EventId.{EventId}
use Rattle.ic_roster.specs.Rosters.{Stander, HaveOwnLines}
use Rattle.ic_journal.specs.Views.{BenchView}
use Rattle.ic_journal.specs.Benches.{IsBench}
use Rattle.ic_journal.specs.Calls.{Undoes}
use Rattle.ic_journal.specs.declared.faults.UndoFault.{UndoFault}
use Rattle.ic_journal.specs.Undone.{AreUndone, AreFree}
use Rattle.ic_undo.proofs.PlacedEvents.{IsAtPlace}
use Rattle.ic_undo.proofs.UndoneOneMore.{IsNext, not_refused, undone_too}

module _ (old mid : BenchView) (order : List Stander) (k : ℕ) (d : EventId) (at : IsAtPlace order k d) (free : AreFree old order) (own : HaveOwnLines old.events) (lawful : IsBench mid)
    (did : AreUndone old (reverse (drop (k + 1) order)) mid) where
  -- it is the next one
  is_next : IsNext old mid (take k order) (drop (k + 1) order) at.placed
  is_next = record { free = subst (λ xs. AreFree old xs) at.parts free; did = did; own = own; lawful = lawful }

  -- so it is undone, too
  pub undone_next : (new : BenchView) → Undoes mid d (Ok tt) new → AreUndone old (reverse (drop k order)) new
  undone_next new h =
      let own_id : Undoes mid at.placed.id (Ok tt) new = subst (λ (e : EventId). Undoes mid e (Ok tt) new) (sym at.under) h in
      subst (λ xs. AreUndone old (reverse xs) new) (sym at.left) (undone_too old mid (take k order) (drop (k + 1) order) at.placed is_next new own_id.0 own_id.1)

  -- and with room it is not refused
  pub none_refused : (new : BenchView) (f : UndoFault) → 1 ≤ mid.room → Undoes mid d (Err f) new → ⊥
  none_refused new f l h = not_refused old mid (take k order) (drop (k + 1) order) at.placed is_next new f l (subst (λ (e : EventId). Undoes mid e (Err f) new) (sym at.under) h)
