-- What a bench does to go back, done by the machine.
use Rattle.std.proofs.Common.{◌≡◌, ◌+◌, ◌≤◌, List, ◌∷◌, ◌++◌, length, map, reverse, refl, sym, ap, subst, append_assoc, length-append, arith, ◌∙◌}
use Rattle.std.proofs.lemmas.List.{length-map}
use Rattle.ic_name.specs.Events.{Event}
use Rattle.ic_name.specs.declared.limits.TheConstants.{MAX_LINES}
use Rattle.ic_name.specs.declared.lines.Line.{Line}
use Rattle.ic_path.specs.Orders.{Alike}
use Rattle.ic_path.proofs.Picks.{pick_behind}
use Rattle.ic_path.proofs.Alikes.{alike_back, alike_then, alike-map}
use Rattle.ic_theory.specs.Starts.{Start}
use Rattle.ic_theory.specs.Sound.{IsSound}
use Rattle.ic_theory.specs.Machine.{Standing, State, events, IsHistory}
use Rattle.ic_theory.proofs.Machines.{history_kept, history_length}
use Rattle.ic_theory.proofs.Ranks.{sound-alike}
use Rattle.ic_journal.specs.Rosters.{Stander}
use Rattle.ic_set.specs.Views.{standing}
use Rattle.ic_journal.specs.Views.{BenchView, set_of}
use Rattle.ic_journal.specs.Benches.{IsAt, IsBench, fired_in}
use Rattle.ic_journal.proofs.MachineSteps.{fired_events}
use Rattle.ic_journal.specs.Undone.{AreUndone, undoing, AreFree}
use Rattle.ic_undo.specs.GoingBack as bench
use Rattle.ic_undo.specs.GoingBack.{AreFirable, firing}
use Rattle.ic_path.proofs.InLists.{in_behind}
use Rattle.ic_answer.specs.Unwinding.{AreUndoneInTurn}
use Rattle.ic_answer.proofs.UndoneInTurn.{EndsSo, undone_in_turn}
use Rattle.ic_desk.specs.Backs.{AreFired}
use Rattle.ic_undo.proofs.SameHistories.{same_history}
use Rattle.ic_desk.proofs.MachineFirings.{FiresSo, fires_in_turn}

-- events that can be undone from the last one on can be where there are fewer in front of them
pub free_last : (v : BenchView) (front order : List Stander) → AreFree v (front ++ order) → AreFree v order
free_last v front order f = record {
  there = λ x i. f.there x (in_behind front i);
  once = λ x rest k i. f.once x (front ++ rest) (pick_behind front k) (in_behind front i);
  behind = λ head rest x y parts i cause. f.behind (front ++ head) rest x y (ap (λ xs. front ++ xs) parts ∙ sym (append_assoc front head (x ∷ rest))) i cause;
}

-- the machine undoes and fires them in turn, and the bench is at the state that it leaves
pub record GoesSo (old new : BenchView) (st : State) (gone : List Stander) (came : List Event) : Type 0 where
  pub mid : State
  pub next : State
  pub undid : AreUndoneInTurn old.start st (map fired_in gone) mid
  pub did : AreFired old.start mid came next
  pub at : IsAt new next

module _ (old new : BenchView) (ok : IsBench old) (lawful : IsBench new) (st : State) (at : IsAt old st) (gone : List Stander) (came : List Event) (between : BenchView)
    (free : AreFree old (reverse gone)) (u : AreUndone old gone between) (f : bench.AreFired between came new) where
  -- the history has a line for each
  few : st.lines + length gone + length came ≤ MAX_LINES
  few =
      let short = lawful.running.short in
      let count = history_length at.history in
      let fired = ap length f.lines ∙ length-append between.lines (map firing came) in
      let undone = ap length u.lines ∙ length-append old.lines (map undoing gone) in
      let one = length-map gone undoing in
      let two = length-map came firing in
      omega (arith, short, count, fired, undone, one, two)

  -- they are undone
  ends : EndsSo old ok.set.own_lines (reverse gone) free old.lines gone between.events st
  ends =
      let all = few in
      undone_in_turn old ok.set.own_lines (reverse gone) free old.lines gone between.events st refl u.events at.history at.standing (omega (arith, all))

  -- what stands then is what stands on the bench in between
  stands : Alike (standing (set_of between)) (events ends.next)
  stands = subst (λ es. Alike es (events ends.next)) (fired_events between.events) (alike-map (λ (y : Standing). y.event) ends.there)

  -- and it is sound
  pub between_sound : IsSound old.start (standing (set_of between))
  between_sound = sound-alike old.start (alike_back stands) (history_kept old.start ok.set.proper ends.history).sound

  -- then what can be fired is fired
  pub goes_so : AreFirable old.start (standing (set_of between)) came → GoesSo old new st gone came
  goes_so fit = record {
    mid = ends.next;
    next = fires.next;
    undid = ends.did;
    did = fires.did;
    at = record { history = history; standing = alike_then lawful.running.at.standing (same_history new.start lawful.set.proper refl lawful.running.at.history history) };
  }
    where
      fires : FiresSo old.start (old.lines ++ map undoing gone) came ends.next
      fires =
          let all = few in
          let count = history_length ends.history in
          let sum = length-append old.lines (map undoing gone) in
          let one = length-map gone undoing in
          let lines = history_length at.history in
          fires_in_turn old.start (old.lines ++ map undoing gone) came (standing (set_of between)) ends.next ends.history stands fit (omega (arith, all, count, sum, one, lines))

      lines : new.lines ≡ (old.lines ++ map undoing gone) ++ map firing came
      lines = f.lines ∙ ap (λ ls. ls ++ map firing came) u.lines

      history : IsHistory new.start new.lines fires.next
      history = subst (λ (s : Start). IsHistory s new.lines fires.next) (sym (f.start ∙ u.start)) (subst (λ (ls : List Line). IsHistory old.start ls fires.next) (sym lines) fires.history)
