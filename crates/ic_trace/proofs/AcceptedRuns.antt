-- The letters of the accepted calls of a legal history run to what stands after it.
use Rattle.std.proofs.Common.{◌≡◌, ℕ, ◌+◌, List, [], ◌∷◌, ◌++◌, Some, ◌⊎◌, inl, inr, length, map, refl, sym, ap, subst, ◌∙◌, append-nil}
use Rattle.std.specs.Prelude.{slice_get}
use Rattle.std.specs.List.{flat_map}
use Rattle.std.proofs.lemmas.List.{append_assoc, map-append}
use Rattle.std.proofs.lemmas.List.Concat.{flat_map-append}
use Rattle.ic_name.specs.Events.{Event, pair}
use Rattle.ic_name.specs.declared.lines.Line.{Line}
use Rattle.ic_name.specs.declared.lines.Call.{Call}
use Rattle.ic_name.specs.declared.lines.Call.TheVariants as call
use Rattle.ic_name.specs.declared.lines.Reply.{Reply}
use Rattle.ic_name.specs.declared.lines.Reply.TheVariants as reply
use Rattle.ic_path.specs.Orders.{Pick, IsIn, Alike, none}
use Rattle.ic_path.proofs.Picks.{none_in, in-cons_cases, in_picked, pick-map}
use Rattle.ic_path.proofs.Alikes.{alike-cons, alike_back, alike_pick, alike_then, alike-map, alike-in}
use Rattle.ic_roster.specs.Rosters.{Stander}
use Rattle.ic_theory.specs.Starts.{Start}
use Rattle.ic_theory.specs.Active.{IsActive}
use Rattle.ic_theory.specs.Causes.{IsDependent}
use Rattle.ic_theory.specs.Machine.{Standing, State, events, noted, MachineStep, not_active, deep, full, fired, not_standing, held, undone, IsHistory, begins, goes_on}
use Rattle.ic_theory.specs.Letters as theory
use Rattle.ic_theory.specs.Letters.{Runs, stops, fires, undoes}
use Rattle.ic_theory.proofs.Machines.{history_length}
use Rattle.ic_theory.proofs.Normal.{active-alike}
use Rattle.ic_theory.proofs.Ranks.{cause_included, same_set}
use Rattle.ic_set.specs.Views.{standing as standing_in}
use Rattle.ic_journal.specs.Views.{BenchView, set_of}
use Rattle.ic_journal.specs.Benches.{fired_in, IsBench}
use Rattle.ic_journal.proofs.FiredLines.{first_behind}
use Rattle.ic_trace.specs.declared.lists.Letter.{Letter}
use Rattle.ic_trace.specs.declared.lists.Letter.TheVariants.{Undo}
use Rattle.ic_trace.specs.Accepted.{event_in, undo_of, letter_of, accepted}
use Rattle.ic_trace.specs.Letters.{named, Leaves}
use Rattle.ic_trace.proofs.Runs.{runs_on}

-- the letters of the first lines of a history run to what stands after them, and each event that stands is fired in the
-- line that is noted with it
record LeavesStanding (s : Start) (all lines : List Line) (st : State) : Type 0 where
  placed : (x : Standing) → IsIn x st.standing → event_in (slice_get all x.line) ≡ Some x.event
  left : List Event
  run : Leaves s (flat_map (letter_of all) lines) left
  alike : Alike left (events st)

-- a letter more
leaves_more : (s : Start) (xs ys : List Letter) (es fs : List Event) (l : theory.Letter) → Leaves s xs es → Runs s es (l ∷ []) fs → ys ≡ xs ++ named l ∷ [] → Leaves s ys fs
leaves_more s xs ys es fs l h r e = (h.0 ++ l ∷ [], runs_on s h.1 r, map-append named h.0 (l ∷ []) ∙ ap (λ zs. zs ++ named l ∷ []) h.2 ∙ sym e)

-- the letters of a line more
letters_more : (all lines : List Line) (line : Line) → flat_map (letter_of all) (lines ++ line ∷ []) ≡ flat_map (letter_of all) lines ++ letter_of all line
letters_more all lines line = flat_map-append (letter_of all) lines (line ∷ []) ∙ ap (λ xs. flat_map (letter_of all) lines ++ xs) (append-nil (letter_of all line))

-- the events under their ids and by the lines of their firings
same_events : (xs : List Stander) → map (λ (x : Standing). x.event) (map fired_in xs) ≡ map (λ (x : Stander). x.event) xs
same_events [] = refl
same_events (x ∷ xs) = ap (λ es. x.event ∷ es) (same_events xs)

module _ (s : Start) (all lines : List Line) where
  -- a call that isn't accepted
  refused_more : {st : State} (line : Line) → letter_of all line ≡ [] → LeavesStanding s all lines st → LeavesStanding s all (lines ++ line ∷ []) (noted st)
  refused_more line e h = record {
    placed = h.placed;
    left = h.left;
    run = (h.run.0, h.run.1, h.run.2 ∙ sym (letters_more all lines line ∙ ap (λ xs. flat_map (letter_of all) lines ++ xs) e ∙ append-nil (flat_map (letter_of all) lines)));
    alike = h.alike;
  }

  -- a firing
  fired_more : {st : State} (e : Event) → slice_get all st.lines ≡ Some (record { call = call.Fire e; reply = reply.Fired }) → IsActive s (events st) e → LeavesStanding s all lines st
      → LeavesStanding s all (lines ++ record { call = call.Fire e; reply = reply.Fired } ∷ []) (record { standing = record { event = e; line = st.lines } ∷ st.standing; lines = st.lines + 1 })
  fired_more {st} e at a h = record {
    placed = λ x i. by x (in-cons_cases i);
    left = e ∷ h.left;
    run = leaves_more s (flat_map (letter_of all) lines) (flat_map (letter_of all) (lines ++ line ∷ [])) h.left (e ∷ h.left) (theory.Fire e) h.run
        (fires (active-alike s (alike_back h.alike) a) stops) (letters_more all lines line);
    alike = alike-cons e h.alike;
  }
    where
      line : Line
      line = record { call = call.Fire e; reply = reply.Fired }

      by : (x : Standing) → (x ≡ record { event = e; line = st.lines }) ⊎ IsIn x st.standing → event_in (slice_get all x.line) ≡ Some x.event
      by x (inl q) = rw q (ap event_in at)
      by x (inr i) = h.placed x i

  -- an undo
  undone_more : {st : State} {x : Standing} {rest : List Standing} (l : ℕ) → Pick x st.standing rest → x.line ≡ l → ((f : Event) → IsDependent s (events st) x.event f → ⊥) → LeavesStanding s all lines st
      → LeavesStanding s all (lines ++ record { call = call.Undo l; reply = reply.Undone } ∷ []) (record { standing = rest; lines = st.lines + 1 })
  undone_more {st} {x} {rest} l p e n h =
      let line : Line = record { call = call.Undo l; reply = reply.Undone } in
      let is : letter_of all line ≡ Undo (pair x.event) ∷ [] = ap (λ i. undo_of (event_in (slice_get all i))) (sym e) ∙ ap undo_of (h.placed x (rest, p)) in
      let q = alike_pick (alike_back h.alike) (pick-map (λ (y : Standing). y.event) p) in
      record {
        placed = λ y i. h.placed y (in_picked p i);
        left = q.0;
        run = leaves_more s (flat_map (letter_of all) lines) (flat_map (letter_of all) (lines ++ line ∷ [])) h.left q.0 (theory.Undo x.event) h.run
            (undoes q.1 (λ f i c. n f (alike-in h.alike i, cause_included s (same_set h.alike) c)) stops)
            (letters_more all lines line ∙ ap (λ xs. flat_map (letter_of all) lines ++ xs) is);
        alike = alike_back q.2;
      }

  -- a line more
  line_more : {st next : State} {c : Call} {r : Reply} → slice_get all st.lines ≡ Some (record { call = c; reply = r }) → MachineStep s st c r next → LeavesStanding s all lines st
      → LeavesStanding s all (lines ++ record { call = c; reply = r } ∷ []) next
  line_more at (not_active n) h = refused_more _ refl h
  line_more at (deep a d) h = refused_more _ refl h
  line_more at (full a d f) h = refused_more _ refl h
  line_more at (fired {e = e} a d f) h = fired_more e at a h
  line_more at (not_standing n) h = refused_more _ refl h
  line_more at (held i j k m) h = refused_more _ refl h
  line_more at (undone {l = l} p e n) h = undone_more l p e n h

-- the first lines of a history leave what stands after them
history_leaves : (s : Start) (all others : List Line) {lines : List Line} {st : State} → IsHistory s lines st → all ≡ lines ++ others → LeavesStanding s all lines st
history_leaves s all others begins e = record { placed = λ x i. absurd (none_in i); left = []; run = ([], stops, refl); alike = none }
history_leaves s all others (goes_on {lines = lines} {st = st} {call = c} {reply = r} h a) e =
    let line : Line = record { call = c; reply = r } in
    let parts : all ≡ lines ++ line ∷ others = e ∙ append_assoc lines (line ∷ []) others in
    let at : slice_get all st.lines ≡ Some line = ap (slice_get all) (history_length h) ∙ ap (λ xs. slice_get xs (length lines)) parts ∙ first_behind lines line others in
    line_more s all lines at a (history_leaves s all (line ∷ others) h parts)

-- the letters of the accepted calls of a bench run to what it has standing
pub accepted_leaves : (v : BenchView) → IsBench v → (es : List Event) × Leaves v.start (accepted v.lines) es × Alike es (standing_in (set_of v))
accepted_leaves v b =
    let h = history_leaves v.start v.lines [] b.running.at.history (sym (append-nil v.lines)) in
    let a : Alike (standing_in (set_of v)) (events b.running.state) = subst (λ es. Alike es (events b.running.state)) (same_events v.events) (alike-map (λ (x : Standing). x.event) b.running.at.standing) in
    (h.left, h.run, alike_then h.alike (alike_back a))
