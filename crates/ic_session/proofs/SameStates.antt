-- States that are the same up to order: what follows of one follows of the other.
use Rattle.ic_theory.specs.Starts.{Start, IsProper}
use Rattle.ic_theory.specs.Machine.{State}
use Rattle.ic_theory.proofs.Machines.{IsKept, history_kept}
use Rattle.ic_session.specs.States.{IsReached}

-- a history keeps a sound set, and for each event a line of its own
pub reached_kept : (s : Start) → IsProper s → {st : State} → IsReached s st → IsKept s st
reached_kept s ok r = history_kept s ok r.1
