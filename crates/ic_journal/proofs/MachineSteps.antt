-- One step of the machine, on what a bench shows.
use Rattle.std.proofs.Common.{◌≡◌, ◌≢◌, ℕ, ◌+◌, ◌≤◌, List, [], ◌∷◌, ◌++◌, length, map, refl, sym, ap, subst, ◌∙◌}
use Rattle.ic_name.specs.Events.{Event}
use Rattle.ic_name.specs.declared.ids.EventId.{EventId}
use Rattle.ic_name.specs.declared.lines.Call.{Call}
use Rattle.ic_name.specs.declared.lines.Call.TheVariants.{Fire, Undo}
use Rattle.ic_name.specs.declared.lines.Reply.{Reply}
use Rattle.ic_name.specs.declared.lines.Reply.TheVariants as reply
use Rattle.ic_path.specs.Orders.{Pick, here, IsIn, Alike}
use Rattle.ic_path.proofs.Picks.{pick-map}
use Rattle.ic_path.proofs.Alikes.{alike_back, alike_pick, alike_then, alike-cons, alike-map, alike-in}
use Rattle.ic_path.proofs.InLists.{map_cases}
use Rattle.ic_theory.specs.Machine.{Standing, State, events, noted, IsDeep, IsFull, MachineStep, not_active, fired, not_standing, held, undone, goes_on}
use Rattle.ic_theory.specs.Active.{IsActive}
use Rattle.ic_theory.proofs.Machines.{history_length}
use Rattle.ic_theory.proofs.Normal.{active-alike}
use Rattle.ic_roster.specs.Rosters.{Stander}
use Rattle.ic_set.specs.Views.{events_of, standing}
use Rattle.ic_set.specs.Changes.{Admits, TakesOut}
use Rattle.ic_set.specs.Removal.{IsFree, IsLeast}
use Rattle.ic_journal.specs.Views.{BenchView, set_of}
use Rattle.ic_journal.specs.Benches.{fired_in, IsAt}
use Rattle.ic_journal.specs.Calls.{Steps}
use Rattle.ic_journal.proofs.SameSets.{full-alike, dependent-alike, least-alike}

-- the events of what is noted with their lines
pub fired_events : (xs : List Stander) → map (λ (y : Standing). y.event) (map fired_in xs) ≡ events_of xs
fired_events [] = refl
fired_events (x ∷ xs) = ap (λ ys. x.event ∷ ys) (fired_events xs)

-- the standing events are those of the machine
pub events_at : (v : BenchView) {st : State} → IsAt v st → Alike (standing (set_of v)) (events st)
events_at v {st} at = subst (λ es. Alike es (events st)) (fired_events v.events) (alike-map (λ (y : Standing). y.event) at.standing)

-- a call, on which a line is noted and nothing else changes
pub noted_step : (old new : BenchView) (call : Call) (answer : Reply) → set_of new ≡ set_of old → new.lines ≡ old.lines ++ record { call = call; reply = answer } ∷ [] → old.room ≤ new.room + 1
    → ((st : State) → IsAt old st → MachineStep old.start st call answer (noted st)) → Steps old call answer new
noted_step old new call answer same lines room answers = record {
  start = ap (λ s. s.start) same;
  lines = lines;
  room = room;
  step = λ st at. (
    noted st,
    answers st at,
    record {
      history = rw (ap (λ s. s.start) same, lines) (goes_on at.history (answers st at));
      standing = rw (ap (λ s. s.events) same) at.standing;
    },
  );
}

-- an event that isn't active is refused as one
pub inactive_answer : (old : BenchView) (e : Event) → ¬ (IsActive old.start (standing (set_of old)) e) → (st : State) → IsAt old st → MachineStep old.start st (Fire e) reply.NotActive (noted st)
inactive_answer old e none st at = not_active (λ a. none (active-alike old.start (alike_back (events_at old at)) a))

-- an active event within the limits is fired
pub fired_step : (old new : BenchView) (e : Event) (id : EventId) → Admits (set_of old) e (length old.lines) id (set_of new)
    → new.lines ≡ old.lines ++ record { call = Fire e; reply = reply.Fired } ∷ [] → old.room ≤ new.room + 1
    → IsActive old.start (standing (set_of old)) e → ¬ (IsDeep e) → ¬ (IsFull old.start (standing (set_of old)) e) → Steps old (Fire e) reply.Fired new
fired_step old new e id t lines room active shallow few = record {
  start = t.start;
  lines = lines;
  room = room;
  step = λ st at. (
    after st,
    answer st at,
    record {
      history = rw (t.start, lines) (goes_on at.history (answer st at));
      standing = alike_then (alike_back (alike-map fired_in t.events)) (subst (λ x. Alike (x ∷ map fired_in old.events) (after st).standing) (sym (entered st at)) (alike-cons _ at.standing));
    },
  );
}
  where
    after : State → State
    after st = record { standing = record { event = e; line = st.lines } ∷ st.standing; lines = st.lines + 1 }

    answer : (st : State) → IsAt old st → MachineStep old.start st (Fire e) reply.Fired (after st)
    answer st at = fired (active-alike old.start (events_at old at) active) shallow (λ f. few (full-alike old.start e (alike_back (events_at old at)) f))

    entered : (st : State) → IsAt old st → fired_in t.entry ≡ record { event = e; line = st.lines }
    entered st at =
        let line : t.entry.id.line ≡ st.lines = ap (λ (d : EventId). d.line) t.under ∙ t.in_line ∙ sym (history_length at.history) in
        λ i. record { event = t.event i; line = line i }

-- a line in which nothing that stands was fired
pub absent_answer : (old : BenchView) (line : ℕ) → ((x : Stander) → IsIn x old.events → x.id.line ≢ line) → (st : State) → IsAt old st → MachineStep old.start st (Undo line) reply.NotStanding (noted st)
absent_answer old line none st at = not_standing (λ x i. let m = map_cases fired_in old.events (alike-in (alike_back at.standing) i) in λ e. none m.0 m.1 (ap (λ (y : Standing). y.line) m.2 ∙ e))

-- an event on which another depends is held by the least of these
pub held_answer : (old : BenchView) (d h : EventId) → IsLeast (set_of old) d h → (st : State) → IsAt old st → MachineStep old.start st (Undo d.line) (reply.Held h.line) (noted st)
held_answer old d h l st at =
    subst (λ (k : EventId). MachineStep old.start st (Undo d.line) (reply.Held k.line) (noted st)) l.holder_id
    (held (stood l.held l.held_there) (ap (λ (k : EventId). k.line) l.held_id) (stood l.holder l.holder_there) (least-alike old.start (events_at old at) l.least))
  where
    stood : (x : Stander) → IsIn x old.events → IsIn (fired_in x) st.standing
    stood x i = alike-in at.standing (map fired_in i.0, pick-map fired_in i.1)

-- a free event is undone
pub undone_step : (old new : BenchView) (d : EventId) → TakesOut (set_of old) d (set_of new) → IsFree (set_of old) d
    → new.lines ≡ old.lines ++ record { call = Undo d.line; reply = reply.Undone } ∷ [] → old.room ≤ new.room + 1 → Steps old (Undo d.line) reply.Undone new
undone_step old new d t free lines room = record {
  start = t.start;
  lines = lines;
  room = room;
  step = λ st at. (
    after st at,
    answer st at,
    record {
      history = rw (t.start, lines) (goes_on at.history (answer st at));
      standing = (picked st at).2;
    },
  );
}
  where
    picked : (st : State) → IsAt old st → (rest : List Standing) × Pick (fired_in t.entry) st.standing rest × Alike (map fired_in new.events) rest
    picked st at = alike_pick (alike_then (alike_back (alike-map fired_in t.events)) at.standing) here

    after : (st : State) → IsAt old st → State
    after st at = record { standing = (picked st at).0; lines = st.lines + 1 }

    there : IsIn t.entry old.events
    there = alike-in (alike_back t.events) (new.events, here)

    answer : (st : State) → (at : IsAt old st) → MachineStep old.start st (Undo d.line) reply.Undone (after st at)
    answer st at = undone (picked st at).1 (ap (λ (k : EventId). k.line) t.under) (λ f n. free t.entry there t.under f (dependent-alike old.start (alike_back (events_at old at)) n))
