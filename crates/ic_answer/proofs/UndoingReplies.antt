-- What undoing an event by its name answers.
use Rattle.std.proofs.Common.{◌≡◌, ◌≢◌, ◌⊎◌, ℕ, List, length, codes, Result, Err, inl, inr, sym, ap, subst, ◌∙◌}
use Rattle.ic_name.specs.Events.{Pair, pair}
use Rattle.ic_name.specs.declared.ids.EventId.{EventId}
use Rattle.ic_name.specs.declared.limits.TheConstants.{MAX_LINES}
use Rattle.ic_name.specs.declared.lines.Call.TheVariants as call
use Rattle.ic_name.specs.declared.lines.Reply.TheVariants as reply
use Rattle.ic_path.specs.Orders.{IsIn}
use Rattle.ic_path.proofs.Alikes.{alike_back, alike-in}
use Rattle.ic_path.proofs.InLists.{in-map, map_cases}
use Rattle.ic_theory.specs.Starts.{Start}
use Rattle.ic_theory.specs.Machine.{Standing, State, MachineStep, not_standing}
use Rattle.ic_theory.proofs.Machines.{history_length}
use Rattle.ic_roster.specs.Rosters.{Stander}
use Rattle.ic_journal.specs.Views.{BenchView}
use Rattle.ic_journal.specs.Benches.{fired_in, IsAt, IsBench}
use Rattle.ic_journal.specs.Calls.{Steps, Refuses, Undoes}
use Rattle.ic_journal.specs.declared.faults.UndoFault.{UndoFault}
use Rattle.ic_command.specs.declared.command.Command.TheVariants.{Undo}
use Rattle.ic_answer.specs.declared.refused.Refused.TheVariants as refused
use Rattle.ic_answer.specs.CommandReplies.{RepliesToCommand, IsNamed, undo_not_standing, undo_history_full, undone, undo_held, undo_held_memory}
use Rattle.ic_answer.specs.Texts.{pair_line, refusal_text}
use Rattle.ic_answer.specs.Turns.{Tells, TurnsByCommand}
use Rattle.ic_answer.proofs.TurnSteps.{stepped}

-- the event stands on the bench, under this id and of this name
pub record Stands (v : BenchView) (d : EventId) (p : Pair) (x : Stander) : Type 0 where
  pub there : IsIn x v.events
  pub under : x.id ≡ d
  pub name : pair x.event ≡ p

-- what stands on the bench stands in the machine
stands_at : (v : BenchView) (x : Stander) → IsIn x v.events → (st : State) → IsAt v st → IsIn (fired_in x) st.standing
stands_at v x i st at = alike-in at.standing (in-map fired_in i)

-- under its name
named_at : (v : BenchView) (d : EventId) (p : Pair) (x : Stander) → Stands v d p x → (st : State) → IsAt v st → IsNamed st p (fired_in x)
named_at v d p x h st at = record { stands = stands_at v x h.there st at; name = h.name }

-- an event of a name that none on the bench has doesn't stand
pub tells_not_standing : (v : BenchView) (p : Pair) → ((x : Stander) → IsIn x v.events → pair x.event ≢ p) → Tells v (Undo p) (refusal_text refused.NotStanding)
tells_not_standing v p none = λ st at. undo_not_standing (λ x h. (let found = map_cases fired_in v.events (alike-in (alike_back at.standing) h.stands) in none found.0 found.1 (ap (λ (y : Standing). pair y.event) found.2 ∙ h.name)))

-- a history that is full has no line for an undo
pub tells_no_line : (v : BenchView) (d : EventId) (p : Pair) (x : Stander) → Stands v d p x → length v.lines ≡ MAX_LINES → Tells v (Undo p) (refusal_text refused.HistoryFull)
tells_no_line v d p x h full = λ st at. undo_history_full (named_at v d p x h st at) (history_length at.history ∙ full)

-- what undoing does, where the fault is known
pub fault_known : (old new : BenchView) (d : EventId) (result : Result (Unit {0}) UndoFault) (f known : UndoFault) → result ≡ Err f → f ≡ known → Undoes old d result new → Undoes old d (Err known) new
fault_known old new d result f known is same undoes = subst (λ (r : Result (Unit {0}) UndoFault). Undoes old d r new) (is ∙ ap (λ (g : UndoFault). Err g) same) undoes

-- an event that is undone
pub undoes : (old new : BenchView) (d : EventId) (p : Pair) (x : Stander) → Stands old d p x → IsBench new → Steps old (call.Undo d.line) reply.Undone new → TurnsByCommand old (Undo p) (pair_line (codes "undone ") p) new
undoes old new d p x h bench steps = stepped old new (Undo p) _ (call.Undo d.line) reply.Undone bench steps (λ st next at few answers.
    undone (named_at old d p x h st at) few (subst (λ (c : EventId). MachineStep old.start st (call.Undo c.line) reply.Undone next) (sym h.under) answers))

-- no event stands in the line of an undo that is answered so
pub none_standing : {s : Start} {st next : State} {l : ℕ} → MachineStep s st (call.Undo l) reply.NotStanding next → (x : Standing) → IsIn x st.standing → x.line ≢ l
none_standing (not_standing none) = none

-- so a standing event isn't answered so
pub never_not_standing : (old new : BenchView) (d : EventId) (p : Pair) (x : Stander) → Stands old d p x → IsBench new → Steps old (call.Undo d.line) reply.NotStanding new → TurnsByCommand old (Undo p) (refusal_text refused.NotStanding) new
never_not_standing old new d p x h bench steps = stepped old new (Undo p) _ (call.Undo d.line) reply.NotStanding bench steps (λ st next at few answers.
    absurd (none_standing answers (fired_in x) (stands_at old x h.there st at) (ap (λ (c : EventId). c.line) h.under)))

-- an event that another one holds, and the text that names it, or that memory is wanting
pub undo_is_held : (old new : BenchView) (d holder : EventId) (p : Pair) (x y : Stander) (text : List ℕ) → Stands old d p x → IsBench new → Refuses old (call.Undo d.line) (reply.Held holder.line) new
    → IsIn y new.events → y.id ≡ holder → (text ≡ pair_line (codes "refused 32 held by ") (pair y.event)) ⊎ (text ≡ refusal_text refused.Memory) → TurnsByCommand old (Undo p) text new
undo_is_held old new d holder p x y text h bench refuses i under told = stepped old new (Undo p) text (call.Undo d.line) (reply.Held holder.line) bench refuses.0 (λ st next at few answers.
    elim told [
      | inl e ↦ subst (λ (t : List ℕ). RepliesToCommand old.start st (Undo p) t next) (sym e) (undo_held (named_at old d p x h st at) few (stands_at old y stood st at) (held_by st next answers))
      | inr e ↦ subst (λ (t : List ℕ). RepliesToCommand old.start st (Undo p) t next) (sym e) (undo_held_memory (named_at old d p x h st at) few (stands_at old y stood st at) (held_by st next answers))
    ])
  where
    stood : IsIn y old.events
    stood = alike-in (alike_back refuses.1.events) i

    held_by : (st next : State) → MachineStep old.start st (call.Undo d.line) (reply.Held holder.line) next → MachineStep old.start st (call.Undo x.id.line) (reply.Held y.id.line) next
    held_by st next answers =
        subst (λ (c : EventId). MachineStep old.start st (call.Undo x.id.line) (reply.Held c.line) next) (sym under) (subst (λ (c : EventId). MachineStep old.start st (call.Undo c.line) (reply.Held holder.line) next) (sym h.under) answers)
