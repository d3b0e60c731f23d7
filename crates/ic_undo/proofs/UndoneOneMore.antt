-- One event more that is undone: the last one of the order whose dependents are all undone.
use Rattle.std.proofs.Common.{◌≡◌, ℕ, ◌≤◌, List, [], ◌∷◌, ◌++◌, ◌∙◌, inl, inr, map, reverse, Err, refl, sym, ap, subst, append_assoc, length-append, arith}
use Rattle.std.proofs.lemmas.List.{map-append}
use Rattle.ic_name.specs.Events.{Event}
use Rattle.ic_name.specs.declared.lines.Call.{Call}
use Rattle.ic_name.specs.declared.lines.Call.TheVariants.{Undo}
use Rattle.ic_name.specs.declared.lines.Reply.{Reply}
use Rattle.ic_name.specs.declared.lines.Reply.TheVariants.{NotStanding, Held, Undone}
use Rattle.ic_name.specs.declared.ids.EventId.{EventId}
use Rattle.ic_path.specs.Orders.{here, IsIn, Alike}
use Rattle.ic_path.proofs.Picks.{in_first, pick_behind}
use Rattle.ic_path.proofs.Alikes.{alike_back, alike_then, alike_more, alike-map, alike-in}
use Rattle.ic_theory.specs.Starts.{Start}
use Rattle.ic_theory.specs.Causes.{IsCause}
use Rattle.ic_theory.specs.Future.{Includes}
use Rattle.ic_theory.specs.Machine.{Standing, State, events, MachineStep, not_active, deep, full, fired, not_standing, held, undone}
use Rattle.ic_theory.proofs.Ranks.{cause_included}
use Rattle.ic_roster.specs.Rosters.{Stander, HaveOwnLines}
use Rattle.ic_set.specs.Views.{standing, events_of}
use Rattle.ic_journal.specs.Views.{BenchView, set_of}
use Rattle.ic_journal.specs.Benches.{fired_in, IsBench}
use Rattle.ic_journal.specs.Calls.{Steps, Undoes, LeavesOut}
use Rattle.ic_journal.specs.declared.faults.UndoFault.{UndoFault}
use Rattle.ic_journal.specs.declared.faults.UndoFault.TheVariants as undo
use Rattle.ic_journal.proofs.MachineSteps.{events_at}
use Rattle.ic_journal.specs.Undone.{AreUndone, undoing, AreFree}
use Rattle.ic_path.proofs.InLists.{in_behind, in-append_cases, in-map, map_cases}
use Rattle.ic_undo.proofs.Backs.{alike_reverse, one_in_line, apart, reverse_more}

-- an event is the next one: those behind it in the order are undone, and nothing else
pub record IsNext (old mid : BenchView) (front rest : List Stander) (x : Stander) : Type 0 where
  pub free : AreFree old (front ++ x ∷ rest)
  pub did : AreUndone old (reverse rest) mid
  pub own : HaveOwnLines old.events
  pub lawful : IsBench mid

-- why a machine answers that no such event stands
absent_reply : {s : Start} {st next : State} {call : Call} {r : Reply} (l : ℕ) → call ≡ Undo l → r ≡ NotStanding → MachineStep s st call r next → (y : Standing) → IsIn y st.standing → y.line ≡ l → ⊥
absent_reply l h e (not_active n) y i q = cc
absent_reply l h e (deep a d) y i q = cc
absent_reply l h e (full a d n) y i q = cc
absent_reply l h e (fired a d n) y i q = cc
absent_reply l h e (not_standing {l = m} n) y i q = let j : m ≡ l = cc in n y i (q ∙ sym j)
absent_reply l h e (held a b c d) y i q = cc
absent_reply l h e (undone p j n) y i q = cc

-- an event that stands in the line, and a direct dependent
record IsHeld (s : Start) (st : State) (l : ℕ) : Type 0 where
  first : Standing
  second : Standing
  first_there : IsIn first st.standing
  first_line : first.line ≡ l
  second_there : IsIn second st.standing
  cause : IsCause s (events st) second.event first.event

-- why a machine answers that an event is held
held_reply : {s : Start} {st next : State} {call : Call} {r : Reply} (l h : ℕ) → call ≡ Undo l → r ≡ Held h → MachineStep s st call r next → IsHeld s st l
held_reply l k h e (not_active n) = cc
held_reply l k h e (deep a d) = cc
held_reply l k h e (full a d n) = cc
held_reply l k h e (fired a d n) = cc
held_reply l k h e (not_standing n) = cc
held_reply l k h e (held {l = m} {x = x} {y = y} a b c d) = let j : m ≡ l = cc in record { first = x; second = y; first_there = a; first_line = b ∙ j; second_there = c; cause = d.dependent.1 }
held_reply l k h e (undone p j n) = cc

module _ (old mid : BenchView) (front rest : List Stander) (x : Stander) (n : IsNext old mid front rest x) where
  -- it stood at first
  stood : IsIn x old.events
  stood = n.free.there x (front ++ rest, pick_behind front here)

  -- it stands still
  stands : IsIn x mid.events
  stands = elim (in-append_cases (reverse rest) (alike-in n.did.events stood)) [
    | inl i ↦ absurd (n.free.once x (front ++ rest) (pick_behind front here) (in_behind front (alike-in (alike_back (alike_reverse rest)) i)))
    | inr i ↦ i
  ]

  -- so the machine finds it
  found : (new : BenchView) → Steps mid (Undo x.id.line) NotStanding new → ⊥
  found new s =
      let at = n.lawful.running.at in
      absent_reply x.id.line refl refl (s.step n.lawful.running.state at).1 (fired_in x) (alike-in at.standing (in-map fired_in stands)) refl

  -- the events of the machine are among those of the beginning
  among : Includes (standing (set_of old)) (events n.lawful.running.state)
  among = record {
    others = events_of (reverse rest);
    alike = alike_then (alike_more (events_of (reverse rest)) (alike_back (events_at mid n.lawful.running.at)))
        (subst (λ es. Alike es (standing (set_of old))) (map-append (λ (y : Stander). y.event) (reverse rest) mid.events) (alike-map (λ (y : Stander). y.event) (alike_back n.did.events)));
  }

  -- no event that stands depends on it
  not_on : (y : Stander) → IsIn y mid.events → IsCause mid.start (events n.lawful.running.state) y.event x.event → ⊥
  not_on y i k =
      let cause : IsCause old.start (events n.lawful.running.state) y.event x.event = subst (λ (s : Start). IsCause s (events n.lawful.running.state) y.event x.event) n.did.start k in
      let before : IsIn y old.events = alike-in (alike_back n.did.events) (in_behind (reverse rest) i) in
      let gone : IsIn y rest = n.free.behind front rest x y refl before (cause_included old.start among cause) in
      apart old n.own (reverse rest) mid.events n.did.events y (alike-in (alike_reverse rest) gone) i

  -- so the machine finds it free
  free : (new : BenchView) (h : ℕ) → Steps mid (Undo x.id.line) (Held h) new → ⊥
  free new h s =
      let at = n.lawful.running.at in
      let k = held_reply x.id.line h refl refl (s.step n.lawful.running.state at).1 in
      let one = map_cases fired_in mid.events (alike-in (alike_back at.standing) k.first_there) in
      let two = map_cases fired_in mid.events (alike-in (alike_back at.standing) k.second_there) in
      let same : one.0 ≡ x = one_in_line mid n.lawful.set.own_lines one.0 x one.1 stands (ap (λ (y : Standing). y.line) one.2 ∙ k.first_line) in
      let first : k.first.event ≡ x.event = sym (ap (λ (y : Standing). y.event) one.2) ∙ ap (λ (y : Stander). y.event) same in
      let second : k.second.event ≡ two.0.event = sym (ap (λ (y : Standing). y.event) two.2) in
      not_on two.0 two.1 (subst (λ (e : Event). IsCause mid.start (events n.lawful.running.state) two.0.event e) first (subst (λ (e : Event). IsCause mid.start (events n.lawful.running.state) e k.first.event) second k.cause))

  -- with room it is not refused
  pub not_refused : (new : BenchView) (f : UndoFault) → 1 ≤ mid.room → Undoes mid x.id (Err f) new → ⊥
  not_refused new undo.NotStanding l h = found new h.0
  not_refused new (undo.Held d) l h = free new d.line h.0.0
  not_refused new undo.HistoryFull l h = let a = h.0 in let b = n.lawful.running.short in omega (arith, a, b, l)
  not_refused new undo.Memory l h = let a = h.1 in omega (arith, a, l)

  -- and then it is undone, too
  pub undone_too : (new : BenchView) → Steps mid (Undo x.id.line) Undone new → LeavesOut mid x.id new → AreUndone old (reverse (x ∷ rest)) new
  undone_too new s t = subst (λ xs. AreUndone old xs new) (sym (reverse_more x rest)) (record {
    start = s.start ∙ n.did.start;
    events = subst (λ xs. Alike old.events xs) (sym (append_assoc (reverse rest) (x ∷ []) new.events)) (alike_then n.did.events (alike_more (reverse rest) left));
    agents = λ m i. n.did.agents m (alike-in (alike_back t.2.agents) (in_behind t.2.children i));
    lines = s.lines ∙ ap (λ ls. ls ++ undoing x ∷ []) n.did.lines ∙ append_assoc old.lines (map undoing (reverse rest)) (undoing x ∷ []) ∙ ap (λ ls. old.lines ++ ls) (sym (map-append undoing (reverse rest) (x ∷ [])));
    room = (let r = s.room in let q = n.did.room in let l = length-append (reverse rest) (x ∷ []) in omega (arith, r, q, l));
  })
    where
      same : t.2.entry ≡ x
      same = one_in_line mid n.lawful.set.own_lines t.2.entry x (alike-in (alike_back t.2.events) (in_first t.2.entry new.events)) stands (ap (λ (d : EventId). d.line) t.2.under ∙ t.1)

      left : Alike mid.events (x ∷ new.events)
      left = subst (λ (y : Stander). Alike mid.events (y ∷ new.events)) same t.2.events
