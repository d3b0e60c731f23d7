use Rattle.std.proofs.Common.{◌<◌, ℕ, length, take}
use Rattle.ic_path.specs.Orders.{IsIn}
use Rattle.ic_set.specs.Views.{standing}
use Rattle.ic_journal.specs.Views.{set_of}
use Rattle.ic_undo.specs.GoingBack.{events_at}
use Rattle.ic_undo.proofs.ChosenLists.{Chosen}
use Rattle.ic_undo.proofs.missing.missing_events.Given as goal

-- the places of those of the first events of the mark that don't stand are found
abbrev pub invariant-loop-place : goal.invariant-loop-place
invariant-loop-place g l = record {
  within : (p : ℕ) → IsIn p l.missing.items → p < length l.mark.events;
  chosen : Chosen (λ e. IsIn e (standing (set_of l.bench)) → ⊥) (take l.place l.mark.events) (events_at l.mark.events l.missing.items);
}
