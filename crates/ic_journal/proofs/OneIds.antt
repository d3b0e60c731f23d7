-- An id is one agent's alone, and a line one event's.
use Rattle.std.proofs.Common.{◌≡◌, ◌∙◌, ℕ, ◌+◌, ◌≤◌, ◌<◌, ◌⊎◌, [], ◌∷◌, length, inl, inr, sym, ap, subst, Ok, Err, Result, arith, length-append}
use Rattle.ic_name.specs.Events.{Event}
use Rattle.ic_name.specs.declared.ids.AgentId.{AgentId}
use Rattle.ic_name.specs.declared.ids.EventId.{EventId}
use Rattle.ic_name.specs.declared.lines.Call.{Call}
use Rattle.ic_name.specs.declared.lines.Reply.{Reply}
use Rattle.ic_path.specs.Orders.{IsIn}
use Rattle.ic_path.proofs.Picks.{none_in, in_others, in-cons_cases, in_more}
use Rattle.ic_path.proofs.InLists.{in_behind, in-append_cases}
use Rattle.ic_path.proofs.Alikes.{alike_back, alike-in}
use Rattle.ic_theory.specs.Starts.{Start}
use Rattle.ic_roster.specs.Rosters.{Member, Stander}
use Rattle.ic_set.specs.Changes.{IsSame, Admits, TakesOut}
use Rattle.ic_journal.specs.Views.{BenchView, set_of}
use Rattle.ic_journal.specs.Benches.{IsBench, Opens}
use Rattle.ic_journal.specs.Calls.{Steps, Stays, Fires, Undoes, Reserves}
use Rattle.ic_journal.specs.Coming.{IsCalled, fires, undoes, reserves, ComesTo, at_once, by_call}
use Rattle.ic_journal.specs.declared.faults.FireFault.{FireFault}
use Rattle.ic_journal.specs.declared.faults.FireFault.TheVariants as fire
use Rattle.ic_journal.specs.declared.faults.UndoFault.{UndoFault}
use Rattle.ic_journal.specs.declared.faults.UndoFault.TheVariants as undo
use Rattle.ic_journal.specs.declared.faults.ReserveFault.{ReserveFault}
use Rattle.ic_journal.specs.declared.faults.ReserveFault.TheVariants as reserve

-- what is there was there before, or its id tells a line that is new
record IsNewer (old new : BenchView) : Type 0 where
  pub longer : length old.lines ≤ length new.lines
  pub agents : (n : Member) → IsIn n new.agents → IsIn n old.agents ⊎ ((n.id.serial ≡ length old.lines + 1) × (length old.lines < length new.lines))
  pub events : (y : Stander) → IsIn y new.events → IsIn y old.events ⊎ ((y.id.line ≡ length old.lines) × (length old.lines < length new.lines))

-- a step adds a line
one_longer : (old new : BenchView) (call : Call) (answer : Reply) → Steps old call answer new → length new.lines ≡ length old.lines + 1
one_longer old new call answer s = ap length s.lines ∙ length-append old.lines (record { call = call; reply = answer } ∷ [])

-- where who is there stays, nobody is new
newer_same : (old new : BenchView) → length old.lines ≤ length new.lines → IsSame (set_of old) (set_of new) → IsNewer old new
newer_same old new h s = record {
  longer = h;
  agents = λ n i. inl (alike-in (alike_back s.agents) i);
  events = λ y i. inl (alike-in (alike_back s.events) i);
}

-- where nothing changes, nobody is new
newer_itself : (old new : BenchView) → new ≡ old → IsNewer old new
newer_itself old new e = subst (λ w. IsNewer old w) (sym e) (record { longer = omega arith; agents = λ n i. inl i; events = λ y i. inl i })

-- an event that comes, and its children, are of the new line
newer_admitted : (old new : BenchView) (e : Event) (id : EventId) → length new.lines ≡ length old.lines + 1 → Admits (set_of old) e (length old.lines) id (set_of new) → IsNewer old new
newer_admitted old new e id one a = record {
  longer = omega (arith, one);
  agents = λ n i. elim (in-append_cases a.children (alike-in (alike_back a.agents) i)) [ inl k ↦ inr (a.serials n k, omega (arith, one)) | inr k ↦ inl k ];
  events = λ y i. elim (in-cons_cases (alike-in (alike_back a.events) i)) [
    | inl q ↦ inr (ap (λ (x : Stander). x.id.line) q ∙ ap (λ (d : EventId). d.line) a.under ∙ a.in_line, omega (arith, one))
    | inr k ↦ inl k
  ];
}

-- where an event goes with its children, the others were there
newer_taken : (old new : BenchView) (d : EventId) → length old.lines ≤ length new.lines → TakesOut (set_of old) d (set_of new) → IsNewer old new
newer_taken old new d h t = record {
  longer = h;
  agents = λ n i. inl (alike-in (alike_back t.agents) (in_behind t.children i));
  events = λ y i. inl (alike-in (alike_back t.events) (in_more t.entry i));
}

-- a step that is refused
newer_refused : (old new : BenchView) (call : Call) (answer : Reply) → Steps old call answer new → IsSame (set_of old) (set_of new) → IsNewer old new
newer_refused old new call answer s same = let one = one_longer old new call answer s in newer_same old new (omega (arith, one)) same

-- no step
newer_staying : (old new : BenchView) → Stays old new → IsNewer old new
newer_staying old new s = let h = ap length s.lines in newer_same old new (omega (arith, h)) s.same

-- a firing
newer_fired : (old new : BenchView) (e : Event) (answer : Result EventId FireFault) → Fires old e answer new → IsNewer old new
newer_fired old new e (Ok id) f = newer_admitted old new e id (one_longer old new _ _ f.0) f.1
newer_fired old new e (Err fire.NotActive) f = newer_refused old new _ _ f.0 f.1
newer_fired old new e (Err fire.Deep) f = newer_refused old new _ _ f.0 f.1
newer_fired old new e (Err fire.Full) f = newer_refused old new _ _ f.0 f.1
newer_fired old new e (Err (fire.HistoryFull g)) f = newer_itself old new f.2
newer_fired old new e (Err (fire.Memory g)) f = newer_staying old new f.2

-- an undoing
newer_undone : (old new : BenchView) (id : EventId) (answer : Result (Unit {0}) UndoFault) → Undoes old id answer new → IsNewer old new
newer_undone old new id (Ok u) f = let one = one_longer old new _ _ f.0 in newer_taken old new f.1.0 (omega (arith, one)) f.1.2
newer_undone old new id (Err undo.NotStanding) f = newer_refused old new _ _ f.0 f.1
newer_undone old new id (Err (undo.Held d)) f = newer_refused old new _ _ f.0.0 f.0.1
newer_undone old new id (Err undo.HistoryFull) f = newer_itself old new f.1
newer_undone old new id (Err undo.Memory) f = newer_itself old new f.2

-- a reservation
newer_reserved : (old new : BenchView) (n : ℕ) (answer : Result (Unit {0}) ReserveFault) → Reserves old n answer new → IsNewer old new
newer_reserved old new n (Ok u) f = newer_staying old new f.0
newer_reserved old new n (Err reserve.HistoryFull) f = newer_itself old new f.1
newer_reserved old new n (Err reserve.Memory) f = newer_itself old new f.2

-- any call
newer : (old new : BenchView) → IsCalled old new → IsNewer old new
newer old new (fires e answer f) = newer_fired old new e answer f
newer old new (undoes id answer f) = newer_undone old new id answer f
newer old new (reserves lines answer f) = newer_reserved old new lines answer f

-- calls make a history no shorter
longer_all : (old new : BenchView) → ComesTo old new → length old.lines ≤ length new.lines
longer_all old _ at_once = omega arith
longer_all old new (by_call {mid} c k) = let a = longer_all old mid c in let b = (newer mid new k).longer in omega (arith, a, b)

-- each id tells a line that the history has
record IsWithin (v : BenchView) : Type 0 where
  pub agents : (m : Member) → IsIn m v.agents → m.id.serial ≤ length v.lines
  pub events : (x : Stander) → IsIn x v.events → x.id.line < length v.lines

-- so it is when a bench is opened, and after any calls
within : (s : Start) (opened v : BenchView) → Opens s opened → ComesTo opened v → IsWithin v
within s opened _ o at_once = record {
  agents = λ m i. let e = o.serials m i in omega (arith, e);
  events = λ x i. absurd (none_in (subst (λ xs. IsIn x xs) o.events i));
}
within s opened v o (by_call {mid} c k) =
    let w = within s opened mid o c in
    let n = newer mid v k in
    let h = n.longer in
    record {
      agents = λ m i. elim (n.agents m i) [ inl j ↦ (let b = w.agents m j in omega (arith, b, h)) | inr j ↦ (let e = j.0 in let l = j.1 in omega (arith, e, l)) ];
      events = λ x i. elim (n.events x i) [ inl j ↦ (let b = w.events x j in omega (arith, b, h)) | inr j ↦ (let e = j.0 in let l = j.1 in omega (arith, e, l)) ];
    }

-- an agent under an id of before is the one of before
one_agent : (v : BenchView) → IsBench v → IsWithin v → (w : BenchView) → ComesTo v w → (m n : Member) → IsIn m v.agents → IsIn n w.agents → m.id ≡ n.id → m.name ≡ n.name
one_agent v lawful within _ at_once m n i j e = elim (in_others i.1 j) [
  | inl q ↦ ap (λ (k : Member). k.name) (sym q)
  | inr k ↦ absurd (lawful.set.own_names.slots m n i.0 i.1 k (ap (λ (d : AgentId). d.slot) (sym e)))
]
one_agent v lawful within w (by_call {mid} c k) m n i j e = elim ((newer mid w k).agents n j) [
  | inl h ↦ one_agent v lawful within mid c m n i h e
  | inr h ↦ (
      let low = within.agents m i in
      let grown = longer_all v mid c in
      let serial = ap (λ (d : AgentId). d.serial) e in
      let high = h.0 in
      absurd (omega (arith, low, grown, serial, high)))
]

-- an event fired in a line of before is the one of before
one_event : (v : BenchView) → IsBench v → IsWithin v → (w : BenchView) → ComesTo v w → (x y : Stander) → IsIn x v.events → IsIn y w.events → x.id.line ≡ y.id.line → x.event ≡ y.event
one_event v lawful within _ at_once x y i j e = elim (in_others i.1 j) [
  | inl q ↦ ap (λ (k : Stander). k.event) (sym q)
  | inr k ↦ absurd (lawful.set.own_lines.lines x y i.0 i.1 k (sym e))
]
one_event v lawful within w (by_call {mid} c k) x y i j e = elim ((newer mid w k).events y j) [
  | inl h ↦ one_event v lawful within mid c x y i h e
  | inr h ↦ (
      let low = within.events x i in
      let grown = longer_all v mid c in
      let high = h.0 in
      absurd (omega (arith, low, grown, e, high)))
]

-- the same of benches that come of an opened one
pub one_agent_an_id : (s : Start) (opened old new : BenchView) (m n : Member) → Opens s opened → ComesTo opened old → IsBench old → ComesTo old new → IsIn m old.agents → IsIn n new.agents → m.id ≡ n.id → m.name ≡ n.name
one_agent_an_id s opened old new m n o c lawful d i j e = one_agent old lawful (within s opened old o c) new d m n i j e

pub one_event_a_line : (s : Start) (opened old new : BenchView) (x y : Stander) → Opens s opened → ComesTo opened old → IsBench old → ComesTo old new → IsIn x old.events → IsIn y new.events → x.id.line ≡ y.id.line → x.event ≡ y.event
one_event_a_line s opened old new x y o c lawful d i j e = one_event old lawful (within s opened old o c) new d x y i j e
