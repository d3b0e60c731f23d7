-- What is kept of a bench through a call.
use Rattle.std.proofs.Common.{◌≡◌, ℕ, ◌+◌, ◌≤◌, List, [], ◌∷◌, ◌++◌, map, length, Ok, refl, sym, ap, arith, ◌∙◌, subst}
use Rattle.std.proofs.lemmas.List.{length-map}
use Rattle.ic_name.specs.Names.{Name}
use Rattle.ic_name.specs.Events.{Event}
use Rattle.ic_name.specs.declared.ids.EventId.{EventId}
use Rattle.ic_name.specs.declared.limits.TheConstants.{MAX_LINES}
use Rattle.ic_name.specs.declared.lines.Call.{Call}
use Rattle.ic_name.specs.declared.lines.Call.TheVariants.{Fire, Undo}
use Rattle.ic_name.specs.declared.lines.Reply.{Reply}
use Rattle.ic_name.specs.declared.lines.Reply.TheVariants as reply
use Rattle.ic_theory.specs.Active.{IsActive}
use Rattle.ic_theory.specs.Machine.{State, noted, MachineStep, IsDeep, IsFull}
use Rattle.ic_roster.specs.declared.interaction.Interaction.{Interaction}
use Rattle.ic_roster.specs.Rosters.{event_in, IsNamed}
use Rattle.ic_set.specs.declared.pairs.Fired.{Fired}
use Rattle.ic_set.specs.Changes.{IsSame, Admits, TakesOut}
use Rattle.ic_set.specs.Entering.{GrowsBy}
use Rattle.ic_set.specs.Removal.{IsFree}
use Rattle.ic_set.specs.Views.{NamedView, standing}
use Rattle.ic_set.proofs.GrownNames.{Keeps, grown_keeps, kept_event}
use Rattle.ic_history.specs.Noted as seen
use Rattle.ic_history.specs.Noted.{NotedLine, line_in, IsLineNamed, AreLinesNamed}
use Rattle.ic_history.specs.Histories.{HistoryView}
use Rattle.ic_journal.specs.Views.{BenchView, set_of, view_of}
use Rattle.ic_journal.specs.Benches.{IsAt, IsKept}
use Rattle.ic_journal.specs.Calls.{Steps, Refuses, Stays, FiresPair}
use Rattle.ic_journal.proofs.Answering.{running, more_serials, left_serials, same_running, refused, refused_running}
use Rattle.ic_journal.proofs.KeptLines.{still_named, kept_lines, more_lines, more_named}
use Rattle.ic_journal.proofs.MachineSteps.{fired_step, undone_step}

-- names that are the same are kept
pub keeps_self : (ns : List Name) → Keeps ns ns
keeps_self ns m k stands = stands

-- lines that are few are few with their names
pub few_lines : (ns : List Name) (ls : List NotedLine) (room : ℕ) → length ls + room ≤ MAX_LINES → length (map (line_in ns) ls) + room ≤ MAX_LINES
few_lines ns ls room few = omega (arith, length-map ls (line_in ns))

-- where the set is the same, names are kept, and only room for lines changes
module _ (s t : NamedView) (h k : HistoryView) (is : IsKept s h) (same : IsSame s.set t.set) (keeps : Keeps s.names t.names) (lines : k.lines ≡ h.lines) where
  -- the lines show the same
  shown : (view_of t k).lines ≡ (view_of s h).lines
  shown = ap (map (line_in t.names)) lines ∙ (kept_lines s.names t.names keeps h.lines is.named).0

  -- the bench is kept
  pub same_kept : length k.lines + k.room ≤ MAX_LINES → IsKept t k
  same_kept few = record {
    running = same_running (view_of s h) (view_of t k) is.running same shown (few_lines t.names k.lines k.room few);
    named = subst (AreLinesNamed t.names) (sym lines) (kept_lines s.names t.names keeps h.lines is.named).1;
  }

  -- and stays as it was
  pub same_stays : h.room ≤ k.room → Stays (view_of s h) (view_of t k)
  same_stays more = record { same = same; lines = shown; room = more }

-- where only room for lines was made before
module _ (s : NamedView) (h k : HistoryView) (lines : k.lines ≡ h.lines) (more : h.room ≤ k.room) where
  -- the lines show the same
  same_lines : (view_of s k).lines ≡ (view_of s h).lines
  same_lines = ap (map (line_in s.names)) lines

  -- a step is one of the machine without that room
  roomier_steps : (new : BenchView) (call : Call) (answer : Reply) → Steps (view_of s k) call answer new → Steps (view_of s h) call answer new
  roomier_steps new call answer steps = record {
    start = steps.start;
    lines = steps.lines ∙ ap (λ ls. ls ++ record { call = call; reply = answer } ∷ []) same_lines;
    room = (let less = steps.room in omega (arith, more, less));
    step = λ st at. steps.step st (record { history = rw same_lines at.history; standing = at.standing });
  }

  -- so a firing is one
  pub roomier_fires : (new : BenchView) (e : Event) (fired : Fired) → FiresPair (view_of s k) e (Ok fired) new → FiresPair (view_of s h) e (Ok fired) new
  roomier_fires new e fired f = ((roomier_steps new (Fire e) reply.Fired f.0.0, subst (λ ls. Admits s.set e (length ls) fired.id (set_of new)) same_lines f.0.1), f.1)

-- where a refused call is noted
module _ (s : NamedView) (h k : HistoryView) (is : IsKept s h) (l : NotedLine) (call : Call) (answer : Reply) (more : k.lines ≡ h.lines ++ l ∷ []) (named : IsLineNamed s.names l)
    (line : line_in s.names l ≡ record { call = call; reply = answer }) (answers : (st : State) → IsAt (view_of s h) st → MachineStep s.set.start st call answer (noted st)) where
  -- its line is there
  noted_line : (view_of s k).lines ≡ (view_of s h).lines ++ record { call = call; reply = answer } ∷ []
  noted_line = more_lines s.names s.names (keeps_self s.names) h.lines k.lines l _ is.named more line

  -- the bench is kept
  pub refused_kept : length k.lines + k.room ≤ MAX_LINES → IsKept s k
  refused_kept few = record {
    running = refused_running (view_of s h) (view_of s k) call answer is.running refl noted_line (few_lines s.names k.lines k.room few) answers;
    named = more_named s.names s.names (keeps_self s.names) h.lines k.lines l is.named more named;
  }

  -- and refuses the call
  pub refuses : h.room ≤ k.room + 1 → Refuses (view_of s h) call answer (view_of s k)
  refuses room = refused (view_of s h) (view_of s k) call answer refl noted_line room answers

-- where an event is fired
module _ (s t : NamedView) (h k : HistoryView) (is : IsKept s h) (grown : GrowsBy 4 s.names t.names) (i : Interaction) (named : IsNamed s.names i) (e : Event) (its : event_in s.names i ≡ e)
    (more : k.lines ≡ h.lines ++ seen.Fired i ∷ []) (n : ℕ) (count : n ≡ length h.lines) (id : EventId) (admits : Admits s.set e n id t.set)
    (active : IsActive s.set.start (standing s.set) e) (shallow : ¬ (IsDeep e)) (few : ¬ (IsFull s.set.start (standing s.set) e)) (room : h.room ≤ k.room + 1) where
  -- names are kept
  keeps : Keeps s.names t.names
  keeps = grown_keeps s.names t.names grown

  -- its line is there
  fired_line : (view_of t k).lines ≡ (view_of s h).lines ++ record { call = Fire e; reply = reply.Fired } ∷ []
  fired_line =
      more_lines s.names t.names keeps h.lines k.lines (seen.Fired i) _ is.named more
      (λ u. record { call = Fire ((kept_event s.names t.names keeps i named ∙ its) u); reply = reply.Fired })

  -- it is admitted under the number of its line
  pub fired_admits : Admits s.set e (length (view_of s h).lines) id t.set
  fired_admits = subst (λ m. Admits s.set e m id t.set) (count ∙ sym (length-map h.lines (line_in s.names))) admits

  -- the step of the machine
  pub fired_steps : Steps (view_of s h) (Fire e) reply.Fired (view_of t k)
  fired_steps = fired_step (view_of s h) (view_of t k) e id fired_admits fired_line room active shallow few

  -- the bench is kept
  pub fired_kept : length k.lines + k.room ≤ MAX_LINES → IsKept t k
  fired_kept short = record {
    running = running (view_of s h) (view_of t k) (Fire e) reply.Fired is.running fired_steps (few_lines t.names k.lines k.room short) (more_serials (view_of s h) (view_of t k) e id is.running fired_admits);
    named = more_named s.names t.names keeps h.lines k.lines (seen.Fired i) is.named more (still_named s.names t.names keeps i named);
  }

-- where a firing is undone
module _ (s t : NamedView) (h k : HistoryView) (is : IsKept s h) (names : t.names ≡ s.names) (d : EventId) (out : TakesOut s.set d t.set) (free : IsFree s.set d)
    (more : k.lines ≡ h.lines ++ seen.Undone d.line ∷ []) (room : h.room ≤ k.room + 1) where
  -- names are kept
  keeps_all : Keeps s.names t.names
  keeps_all = subst (Keeps s.names) (sym names) (keeps_self s.names)

  -- the step of the machine
  pub undone_steps : Steps (view_of s h) (Undo d.line) reply.Undone (view_of t k)
  undone_steps = undone_step (view_of s h) (view_of t k) d out free (more_lines s.names t.names keeps_all h.lines k.lines (seen.Undone d.line) _ is.named more refl) room

  -- the bench is kept
  pub undone_kept : length k.lines + k.room ≤ MAX_LINES → IsKept t k
  undone_kept short = record {
    running = running (view_of s h) (view_of t k) (Undo d.line) reply.Undone is.running undone_steps (few_lines t.names k.lines k.room short) (left_serials (view_of s h) (view_of t k) d is.running out);
    named = more_named s.names t.names keeps_all h.lines k.lines (seen.Undone d.line) is.named more tt;
  }
