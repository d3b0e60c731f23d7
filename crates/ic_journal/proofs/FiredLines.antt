-- An event stands with the line that fired it.
use Rattle.std.proofs.Common.{◌≡◌, ◌≢◌, ◌<◌, ℕ, List, [], ◌∷◌, ◌++◌, Some, slice_get, length, inl, inr, refl, sym, ap, subst, ◌∙◌, append-nil, append_assoc}
use Rattle.ic_name.specs.Events.{Event}
use Rattle.ic_name.specs.declared.lines.Call.{Call}
use Rattle.ic_name.specs.declared.lines.Line.{Line}
use Rattle.ic_name.specs.declared.lines.Reply.{Reply}
use Rattle.ic_names.specs.Tables.{name_at}
use Rattle.ic_names.specs.declared.table.NameId.{NameId}
use Rattle.ic_path.specs.Orders.{IsIn}
use Rattle.ic_path.proofs.Alikes.{alike-in}
use Rattle.ic_path.proofs.Picks.{none_in, in_picked, in-cons_cases}
use Rattle.ic_theory.specs.Starts.{Start}
use Rattle.ic_theory.specs.Machine.{Standing, State, MachineStep, not_active, deep, full, fired, not_standing, held, undone, IsHistory, begins, goes_on}
use Rattle.ic_theory.proofs.Machines.{history_length}
use Rattle.ic_path.proofs.InLists.{in-map}
use Rattle.ic_roster.specs.Rosters.{Stander, HaveOwnLines, event_in}
use Rattle.ic_roster.specs.declared.interaction.Interaction.{Interaction}
use Rattle.ic_set.specs.Views.{NamedView}
use Rattle.ic_set.proofs.Namings.{same_lead}
use Rattle.ic_history.specs.Noted.{Fired}
use Rattle.ic_history.specs.Histories.{HistoryView}
use Rattle.ic_journal.specs.Views.{BenchView, view_of}
use Rattle.ic_journal.specs.Benches.{fired_in, IsAt, IsKept}
use Rattle.ic_history.specs.Changed.{IsFiredIn}
use Rattle.ic_history.proofs.NotedLines.{noted_named}
use Rattle.ic_history.proofs.ChangedLines.{firing_at}

-- what comes first behind a list stands at its length
pub first_behind : {A : Type 0} (xs : List A) (x : A) (others : List A) → slice_get (xs ++ x ∷ others) (length xs) ≡ Some x
first_behind [] x others = refl
first_behind (y ∷ xs) x others = first_behind xs x others

-- in all lines, each event that stands after some of them was fired in the line that is noted with it
abbrev pub AreFiredIn : List Line → State → Type 0
AreFiredIn all st = (x : Standing) → IsIn x st.standing → IsFiredIn all x.line x.event

-- one answer more
fired_answer : {s : Start} {st next : State} {call : Call} {reply : Reply} (all : List Line) → slice_get all st.lines ≡ Some (record { call = call; reply = reply }) → MachineStep s st call reply next → AreFiredIn all st → AreFiredIn all next
fired_answer all at (not_active n) h = h
fired_answer all at (deep a d) h = h
fired_answer all at (full a d f) h = h
fired_answer {st = st} all at (fired {e = e} a d f) h = λ x i. elim (in-cons_cases i) [ inl q ↦ subst (λ (y : Standing). IsFiredIn all y.line y.event) (sym q) at | inr j ↦ h x j ]
fired_answer all at (not_standing n) h = h
fired_answer all at (held i e j l) h = h
fired_answer all at (undone k e n) h = λ x i. h x (in_picked k i)

-- so it is after the first lines of a history
pub fired_lines : {s : Start} (all others : List Line) {lines : List Line} {st : State} → IsHistory s lines st → all ≡ lines ++ others → AreFiredIn all st
fired_lines all others begins e = λ x i. absurd (none_in i)
fired_lines all others (goes_on {lines = lines} {st = st} {call = call} {reply = reply} h a) e =
    let line : Line = record { call = call; reply = reply } in
    let parts : all ≡ lines ++ line ∷ others = e ∙ append_assoc lines (line ∷ []) others in
    let at : slice_get all st.lines ≡ Some line = ap (slice_get all) (history_length h) ∙ ap (λ xs. slice_get xs (length lines)) parts ∙ first_behind lines line others in
    fired_answer all at a (fired_lines all (line ∷ others) h parts)

-- so each event that stands on a bench was fired in the line that its id tells
fired_there : (v : BenchView) {st : State} → IsAt v st → (x : Stander) → IsIn x v.events → IsFiredIn v.lines x.id.line x.event
fired_there v at x i = fired_lines v.lines [] at.history (sym (append-nil v.lines)) (fired_in x) (alike-in at.standing (in-map fired_in i))

module _ (s : NamedView) (h : HistoryView) (is : IsKept s h) (line : ℕ) where
  -- what the history has in the line of an event that stands
  seen_there : (x : Stander) → IsIn x s.set.events → x.id.line ≡ line → (i : Interaction) × (slice_get h.lines line ≡ Some (Fired i)) × (event_in s.names i ≡ x.event)
  seen_there x i same = firing_at s.names h.lines line x.event (subst (λ k. IsFiredIn (view_of s h).lines k x.event) same (fired_there (view_of s h) is.running.at x i))

  -- a line that fired nothing has no event that stands
  pub none_there : ((i : Interaction) → slice_get h.lines line ≢ Some (Fired i)) → (x : Stander) → IsIn x s.set.events → x.id.line ≢ line
  none_there none x i same = let there = seen_there x i same in none there.0 there.1

  -- where the line fired an event with this lead
  module _ (lead : NameId) (led : (i : Interaction) × (slice_get h.lines line ≡ Some (Fired i)) × (i.lead ≡ lead)) where
    -- the lead has a name
    pub lead_within : lead.place < length s.names
    lead_within = subst (λ (n : NameId). n.place < length s.names) led.2 (noted_named s.names h.lines line _ led.1 is.named).lead

    -- which is that of the lead of the event that stands with the line
    lead_there : (x : Stander) → IsIn x s.set.events → x.id.line ≡ line → x.event.lead ≡ name_at s.names lead.place
    lead_there x i same =
        let there = seen_there x i same in
        let both : Some (Fired there.0) ≡ Some (Fired led.0) = sym there.1 ∙ led.1 in
        let one : there.0 ≡ led.0 = cc in
        ap (λ (e : Event). e.lead) (sym there.2) ∙ ap (λ (n : Interaction). name_at s.names n.lead.place) one ∙ ap (λ (n : NameId). name_at s.names n.place) led.2

    -- where no event with that lead stands none stands with the line
    pub none_led : ((x : Stander) → IsIn x s.set.events → x.event.lead ≢ name_at s.names lead.place) → (x : Stander) → IsIn x s.set.events → x.id.line ≢ line
    none_led none x i same = none x i (lead_there x i same)

    -- nor does one where the event with that lead has another line
    pub other_led : HaveOwnLines s.set.events → (y : Stander) → IsIn y s.set.events → y.event.lead ≡ name_at s.names lead.place → y.id.line ≢ line → (x : Stander) → IsIn x s.set.events → x.id.line ≢ line
    other_led own y j named other x i same =
        let one : x ≡ y = same_lead s.set.events x y own i j (lead_there x i same ∙ sym named) in
        other (ap (λ (z : Stander). z.id.line) (sym one) ∙ same)
