-- The answer to a command leaves a state that a history leads to.
use Rattle.std.proofs.Common.{List, ℕ}
use Rattle.ic_theory.specs.Starts.{Start}
use Rattle.ic_theory.specs.Machine.{State}
use Rattle.ic_command.specs.declared.command.Command.{Command}
use Rattle.ic_answer.specs.CommandReplies.{RepliesToCommand}
use Rattle.ic_answer.specs.CommandReplies as told
use Rattle.ic_session.specs.States.{IsReached}
use Rattle.ic_session.proofs.FiredRuns.{reached_fired, reached_limit}
use Rattle.ic_session.proofs.OneStep.{reached_next}
use Rattle.ic_session.proofs.UndoneRuns.{reached_undone}

pub reached_on : (s : Start) (st next : State) (c : Command) (x : List ℕ) → IsReached s st → RepliesToCommand s st c x next → IsReached s next
reached_on s st next c x r told.nothing = r
reached_on s st next c x r told.malformed = r
reached_on s st next c x r (told.net h k) = r
reached_on s st next c x r (told.active h) = r
reached_on s st next c x r (told.journal h) = r
reached_on s st next c x r (told.why h i k) = r
reached_on s st next c x r (told.why_not_standing h) = r
reached_on s st next c x r (told.fire_unknown h) = r
reached_on s st next c x r (told.fire_history_full h full) = r
reached_on s st next c x r (told.fired h few a) = reached_next s r few a
reached_on s st next c x r (told.fire_not_active h few a) = reached_next s r few a
reached_on s st next c x r (told.fire_deep h few a) = reached_next s r few a
reached_on s st next c x r (told.fire_full h few a) = reached_next s r few a
reached_on s st next c x r (told.undo_not_standing h) = r
reached_on s st next c x r (told.undo_history_full h full) = r
reached_on s st next c x r (told.undone h few a) = reached_next s r few a
reached_on s st next c x r (told.undo_held h few i a) = reached_next s r few a
reached_on s st next c x r (told.undo_held_memory h few i a) = reached_next s r few a
reached_on s st next c x r (told.unwind_not_standing h) = r
reached_on s st next c x r (told.unwind_history_full h l d) = r
reached_on s st next c x r (told.unwound h l u) = reached_undone s r u
reached_on s st next c x r (told.undo_all_history_full l d) = r
reached_on s st next c x r (told.undone_all l u) = reached_undone s r u
reached_on s st next c x r (told.reduced_normal f l n) = reached_fired s r f
reached_on s st next c x r (told.reduced_budget f a) = reached_fired s r f
reached_on s st next c x r (told.reduced_limit f l m) = reached_limit s (reached_fired s r f) m
reached_on s st next c x r (told.reduced_memory f l) = reached_fired s r f
reached_on s st next c x r told.reduce_memory = r
reached_on s st next c x r (told.memory m) = r
