-- An event that isn't active is refused as such.
use Rattle.std.proofs.Common.{◌≢◌, refl}
use Rattle.ic_name.specs.Events.{Event, Pair, pair}
use Rattle.ic_name.specs.declared.lines.Call.TheVariants as call
use Rattle.ic_name.specs.declared.lines.Reply.{Reply}
use Rattle.ic_name.specs.declared.lines.Reply.TheVariants as reply
use Rattle.ic_path.proofs.Alikes.{alike_back}
use Rattle.ic_theory.specs.Starts.{Start}
use Rattle.ic_theory.specs.Active.{IsActive}
use Rattle.ic_theory.specs.Machine.{State, events, MachineStep, not_active, deep, full, fired}
use Rattle.ic_theory.proofs.Normal.{active-alike}
use Rattle.ic_set.specs.Views.{standing}
use Rattle.ic_journal.specs.Views.{BenchView, set_of}
use Rattle.ic_journal.specs.Benches.{IsBench}
use Rattle.ic_journal.specs.Calls.{Steps}
use Rattle.ic_journal.proofs.MachineSteps.{events_at}
use Rattle.ic_answer.proofs.FiringReplies.{IsProposed}

-- the machine finds an event active if it answers anything else
is_active : {s : Start} {st next : State} {e : Event} {answer : Reply} → MachineStep s st (call.Fire e) answer next → answer ≢ reply.NotActive → IsActive s (events st) e
is_active (not_active none) other = absurd (other refl)
is_active (deep active far) other = active
is_active (full active near many) other = active
is_active (fired active near few) other = active

-- no active event has the name
abbrev pub NoneIsActive : BenchView → Pair → Type 0
NoneIsActive v p = (e : Event) → IsActive v.start (standing (set_of v)) e → pair e ≢ p

-- so an event of the name gets no other answer
pub only_inactive : (old new : BenchView) (p : Pair) (e : Event) (answer : Reply) → IsBench old → NoneIsActive old p → IsProposed old p e → Steps old (call.Fire e) answer new → answer ≢ reply.NotActive → ⊥
only_inactive old new p e answer bench none is steps other =
    let st = bench.running.state in
    let at = bench.running.at in
    none e (active-alike old.start (alike_back (events_at old at)) (is_active (steps.step st at).1 other)) (is st at).name
