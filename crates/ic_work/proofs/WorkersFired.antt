-- What the workers did to a bench, by their passes.
use Rattle.std.proofs.Common.{◌≡◌, ℕ, ◌+◌, ◌-◌, ◌≤◌, List, [], ◌∷◌, ◌++◌, length, drop, sym, subst, arith, length-append, ap, ◌∙◌}
use Rattle.std.specs.Prelude.{All}
use Rattle.std.proofs.lemmas.List.Elements.{All-push}
use Rattle.atomic_table.specs.Seated.{TableId}
use Rattle.ic_name.specs.declared.lines.Line.{Line}
use Rattle.ic_path.specs.Orders.{IsIn}
use Rattle.ic_path.proofs.Alikes.{alike_then}
use Rattle.ic_theory.specs.Machine.{State}
use Rattle.ic_theory.proofs.Machines.{history_length}
use Rattle.ic_claim.specs.Seats.{SeatValue}
use Rattle.ic_journal.specs.Views.{BenchView}
use Rattle.ic_journal.specs.Benches.{IsAt, IsBench}
use Rattle.ic_journal.specs.Continuing.{IsFire}
use Rattle.ic_shared.specs.Agrees.{Agrees}
use Rattle.ic_shared.specs.Openings.{OpeningView, opened}
use Rattle.ic_shared.specs.Passes.{PassView, added_by_all}
use Rattle.ic_work.proofs.FiredByWorkers.{FiredByWorkers}
use Rattle.ic_work.specs.Firings.{AreFirings}
use Rattle.ic_work.specs.Sweeps.{Extends}
use Rattle.ic_work.specs.Workers.{AreFires, IsFirst}
use Rattle.ic_work.proofs.Extending.{extends, extends_count}
use Rattle.ic_work.proofs.FiringRuns.{firings_add, few_fired, count_fired, are_firings}
use Rattle.ic_work.proofs.HistoryParts.{same_history, history_parts, history_on, carried, one_state}
use Rattle.ic_work.proofs.Passes.{added_by_all-append}
use Rattle.ic_work.proofs.RunLines.{lines_fire}
use Rattle.ic_theory.specs.Machine.{AreSame}

-- the lines are firings from a state on, and lead to one that the bench is at
record FiresFrom (old new : BenchView) (lines : List Line) (st : State) : Type 0 where
  fired : ℕ
  next : State
  firings : AreFirings old.start lines fired st next
  at : IsAt new next

-- from each state that the old bench is at
fires_from : (old new : BenchView) (added : List Line) → IsBench old → IsBench new → new.start ≡ old.start → new.lines ≡ old.lines ++ added
    → ((l : Line) → IsIn l added → IsFire l.call) → (st : State) → IsAt old st → FiresFrom old new added st
fires_from old new added bench bench' start lines fires st at =
    let run = bench'.running in
    let two = history_parts old.start old.lines (same_history start lines run.at.history) in
    let same : AreSame two.0 st = one_state old.start bench.set.proper two.1 at.history in
    let again = carried old.start same two.2 in
    let count = history_length at.history in
    let long : length new.lines ≡ length old.lines + length added = ap length lines ∙ length-append old.lines added in
    let short = run.short in
    let firings = are_firings again.1 fires (omega arith) in
    record {
      fired = firings.0;
      next = again.0;
      firings = firings.1;
      at = record { history = same_history (sym start) (sym lines) (history_on old.start old.lines at.history again.1); standing = alike_then run.at.standing again.2.standing };
    }

-- where the history agrees with the passes, to which only runs of firings added, so many events more stand as were fired
pub workers_fired : (old new : BenchView) (budget n lines : ℕ) (passes : List PassView) → IsBench old → IsBench new
    → Agrees (opened old.start old.lines n) passes new lines → All AreFires passes → added_by_all passes ≤ budget
    → FiredByWorkers old budget (length new.events - length old.events) new
workers_fired old new budget n lines passes bench bench' agrees all few = record {
  start = agrees.start;
  continues = record {
    added = added;
    lines = agrees.opened;
    fires = fires;
    count = (let at = bench.running.at in count_fired (from bench.running.state at).firings ∙ counted bench.running.state at);
  };
  extends = (let x = from bench.running.state bench.running.at in subst (λ c. Extends old c new) (counted _ bench.running.at) (extends_from _ bench.running.at));
  few = few_added;
  within = (
      let at = bench.running.at in
      let x = from bench.running.state at in
      let f = few_fired x.firings in
      let c = counted bench.running.state at in
      omega (arith, f, c, few_added));
  fired = λ st at. (let x = from st at in (x.next, subst (λ c. AreFirings old.start added c st x.next) (counted st at) x.firings, x.at));
}
  where
    added : List Line
    added = drop (length old.lines) new.lines

    few_added : length added ≤ budget
    few_added =
        let a = agrees.added in
        let b = agrees.counted in
        let l : length new.lines ≡ length old.lines + length added = ap length agrees.opened ∙ length-append old.lines added in
        omega (arith, a, b, l, few)

    fires : (l : Line) → IsIn l added → IsFire l.call
    fires = lines_fire new.names (length old.lines) added passes agrees.settled all

    from : (st : State) → IsAt old st → FiresFrom old new added st
    from = fires_from old new added bench bench' agrees.start agrees.opened fires

    extends_from : (st : State) → (at : IsAt old st) → Extends old (from st at).fired new
    extends_from st at = let x = from st at in extends old new at x.at (firings_add x.firings)

    counted : (st : State) → (at : IsAt old st) → (from st at).fired ≡ length new.events - length old.events
    counted st at = let c = extends_count old new _ (extends_from st at) in omega arith

-- once the first worker is home, with no more tickets than the budget
pub all_home : (old new : BenchView) (budget : ℕ) {table : TableId} {given n lines : ℕ} {opening : OpeningView} {seat : SeatValue} {pass : PassView} {home passes : List PassView}
    → IsBench old → IsBench new → opening ≡ opened old.start old.lines n → Agrees opening passes new lines → given ≡ budget → IsFirst table given seat pass home
    → length seat.view.tickets ≤ seat.view.budget → passes ≡ home ++ pass ∷ [] → FiredByWorkers old budget (length new.events - length old.events) new
all_home old new budget {n = n} {lines = lines} {pass = pass} {home = home} {passes = passes} bench bench' is agrees whole first few same =
    workers_fired old new budget n lines passes bench bench' (subst (λ o. Agrees o passes new lines) is agrees)
    (subst (λ ps. All AreFires ps) (sym same) (All-push AreFires home pass first.all_fire first.fires))
    (let l = ap added_by_all same ∙ added_by_all-append home pass in let a = first.spent in let b = first.tickets in omega (arith, l, a, b, few, whole))
