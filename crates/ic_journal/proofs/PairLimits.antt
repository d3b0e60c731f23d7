-- The limits that firing an active pair meets.
use Rattle.std.proofs.Common.{◌≡◌, Option, Some, Err, subst}
use Rattle.ic_name.specs.Events.{Event}
use Rattle.ic_name.specs.declared.lines.Call.TheVariants.{Fire}
use Rattle.ic_theory.specs.Active.{IsActive}
use Rattle.ic_theory.specs.Machine.{State, noted, MachineStep, deep, full}
use Rattle.ic_theory.proofs.Normal.{active-alike}
use Rattle.ic_roster.specs.Rosters.{event_in}
use Rattle.ic_roster.specs.declared.interaction.Interaction.{Interaction}
use Rattle.ic_set.specs.Views.{NamedView, standing}
use Rattle.ic_history.specs.declared.limit.Limit.{Limit}
use Rattle.ic_history.specs.declared.limit.Limit.TheVariants.{Deep, Full}
use Rattle.ic_history.specs.Histories.{HistoryView}
use Rattle.ic_journal.specs.Views.{BenchView, view_of}
use Rattle.ic_journal.specs.Benches.{IsAt}
use Rattle.ic_journal.specs.Calls.{Refuses, FiresPair}
use Rattle.ic_history.specs.Limits.{reply_of}
use Rattle.ic_journal.specs.Limits.{Meets, fault_of}
use Rattle.ic_journal.proofs.MachineSteps.{events_at}
use Rattle.ic_journal.proofs.SameSets.{full-alike}

-- what an interaction meets over a set, its event meets over the same set
pub meets_same : {v w : NamedView} {e : Event} (i : Interaction) (limit : Option Limit) → v ≡ w → event_in w.names i ≡ e → Meets v.set (event_in v.names i) limit → Meets w.set e limit
meets_same {v} {w} i limit same its m = subst (λ f. Meets w.set f limit) its (subst (λ (x : NamedView). Meets x.set (event_in x.names i) limit) same m)

-- where a limit is met the machine answers so
pub limit_answer : (s : NamedView) (h : HistoryView) (e : Event) (limit : Limit) → IsActive s.set.start (standing s.set) e → Meets s.set e (Some limit) → (st : State) → IsAt (view_of s h) st → MachineStep s.set.start st (Fire e) (reply_of limit) (noted st)
limit_answer s h e Deep active m st at = deep (active-alike s.set.start (events_at (view_of s h) at) active) m
limit_answer s h e Full active m st at = let same = events_at (view_of s h) at in full (active-alike s.set.start same active) m.0 (full-alike s.set.start e same m.1)

-- and so does the bench
pub pair_refused : (old new : BenchView) (e : Event) (limit : Limit) → Refuses old (Fire e) (reply_of limit) new → FiresPair old e (Err (fault_of limit)) new
pair_refused old new e Deep r = r
pair_refused old new e Full r = r
