-- What stands on a bench makes a mark.
use Rattle.std.proofs.Common.{◌≤◌, List, length, arith}
use Rattle.std.proofs.lemmas.List.{length-map}
use Rattle.ic_name.specs.Events.{Event}
use Rattle.ic_name.specs.declared.limits.TheConstants.{MAX_START_AGENTS}
use Rattle.ic_path.proofs.Alikes.{alike_back, alike_then, alike-in, alike-length}
use Rattle.ic_path.specs.Orders.{Alike}
use Rattle.ic_theory.specs.Machine.{Standing, events}
use Rattle.ic_theory.proofs.Machines.{history_length}
use Rattle.ic_theory.proofs.Ranks.{sound-alike}
use Rattle.ic_set.specs.Orders.{AreCanonical}
use Rattle.ic_set.specs.Views.{standing}
use Rattle.ic_journal.specs.Benches.{IsBench}
use Rattle.ic_journal.specs.Views.{BenchView, set_of}
use Rattle.ic_journal.proofs.MachineSteps.{events_at}
use Rattle.ic_journal.proofs.SameSets.{agent_count}
use Rattle.ic_undo.specs.Marks.{IsMark}
use Rattle.ic_undo.proofs.HistoryLimits.{IsWithin, history_within}
use Rattle.ic_theory.proofs.Restored.{rank-alike}

-- the standing events in canonical order are those of a mark
pub bench_mark : (v : BenchView) → IsBench v → length v.start.kinds ≤ MAX_START_AGENTS → (es : List Event) → AreCanonical (set_of v) es → IsMark (record { start = v.start; events = es })
bench_mark v ok few es c = record {
  sound = sound-alike v.start c.alike ok.set.sound;
  canonical = λ rank r. c.canonical rank (rank-alike v.start rank (alike_back c.alike) r);
  shallow = λ e i. within.shallow e (alike-in (alike_then (alike_back c.alike) stood) i);
  few_agents = (let a = agent_count v.start (alike_then (alike_back c.alike) stood) in let b = within.few_agents in omega (arith, a, b));
  few_events = (
      let a = alike-length (alike_then (alike_back c.alike) stood) in
      let m = length-map ok.running.state.standing (λ (x : Standing). x.event) in
      let b = within.few_events in
      let n = history_length ok.running.at.history in
      let s = ok.running.short in
      omega (arith, a, m, b, n, s));
}
  where
    within : IsWithin v.start ok.running.state
    within = history_within v.start few ok.running.at.history

    stood : Alike (standing (set_of v)) (events ok.running.state)
    stood = events_at v ok.running.at
