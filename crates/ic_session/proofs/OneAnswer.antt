-- A bench has one answer to each command, where none tells of want of memory.
use Rattle.std.proofs.Common.{◌≡◌, ℕ, List, refl}
use Rattle.ic_theory.specs.Starts.{Start, IsProper}
use Rattle.ic_theory.specs.Machine.{State}
use Rattle.ic_command.specs.declared.command.Command.{Command}
use Rattle.ic_command.specs.declared.command.Command.TheVariants.{Nothing, Net, Active, Journal, Fire, Undo, Why, Unwind, UndoAll, Reduce, Malformed}
use Rattle.ic_answer.specs.CommandReplies.{RepliesToCommand}
use Rattle.ic_session.specs.States.{IsReached}
use Rattle.ic_theory.specs.Machine.{AreSame}
use Rattle.ic_session.specs.Wants.{Wants}
use Rattle.ic_session.proofs.OneChange.{one_fire, one_undo}
use Rattle.ic_session.proofs.OneQuery.{left_same, one_word, one_net, one_active_text, one_journal_text, one_why}
use Rattle.ic_session.proofs.OneReduction.{one_reduce}
use Rattle.ic_session.proofs.OneUnwinding.{one_unwind, one_undo_all}
use Rattle.ic_session.proofs.Saying.{Says, says}

-- what answers from states that are the same say is the same
one_saying : (s : Start) → IsProper s → {st tt next after : State} (c : Command) {x y : List ℕ} → IsReached s st → IsReached s tt → AreSame st tt
    → Says s st c x next → Says s tt c y after → (x ≡ y) × AreSame next after
one_saying s ok Nothing h k same a b = (one_word a.0 b.0 refl, left_same same a.1 b.1)
one_saying s ok Malformed h k same a b = (one_word a.0 b.0 refl, left_same same a.1 b.1)
one_saying s ok Net h k same a b = (one_word a.3 b.3 (one_net s ok h k same a.0 b.0 a.1 b.1 a.2 b.2), left_same same a.4 b.4)
one_saying s ok Active h k same a b = (one_word a.2 b.2 (one_active_text s ok h k same a.0 b.0 a.1 b.1), left_same same a.3 b.3)
one_saying s ok Journal h k same a b = (one_word a.2 b.2 (one_journal_text s ok h k same a.0 b.0 a.1 b.1), left_same same a.3 b.3)
one_saying s ok (Why p) h k same a b = (one_why s ok h k same a.0 b.0, left_same same a.1 b.1)
one_saying s ok (Fire p) h k same a b = one_fire s ok h k same a b
one_saying s ok (Undo p) h k same a b = one_undo s ok h k same a b
one_saying s ok (Unwind p) h k same a b = one_unwind s ok h k same a b
one_saying s ok UndoAll h k same a b = one_undo_all s ok h k same a b
one_saying s ok (Reduce most) h k same a b = one_reduce s ok h k same a b

pub one_answer : (s : Start) (st tt next after : State) (c : Command) (x y : List ℕ) → IsProper s → IsReached s st → IsReached s tt → AreSame st tt
    → RepliesToCommand s st c x next → RepliesToCommand s tt c y after → ¬ (Wants x) → ¬ (Wants y) → (x ≡ y) × AreSame next after
one_answer s st tt next after c x y ok h k same a b w v = one_saying s ok c h k same (says a w) (says b v)
