-- Benches and the states that they are at, over one call.
use Rattle.std.proofs.Common.{◌≡◌, ◌<◌, Result, Err, ap, arith, subst, ◌∙◌}
use Rattle.ic_name.specs.declared.limits.TheConstants.{MAX_LINES}
use Rattle.ic_name.specs.declared.lines.Call.{Call}
use Rattle.ic_name.specs.declared.lines.Reply.{Reply}
use Rattle.ic_path.proofs.Alikes.{alike_back, alike_then, alike-map}
use Rattle.ic_theory.specs.Machine.{State}
use Rattle.ic_theory.proofs.Machines.{history_length}
use Rattle.ic_journal.specs.Views.{BenchView}
use Rattle.ic_journal.specs.Benches.{fired_in, IsAt, IsBench}
use Rattle.ic_journal.specs.Calls.{Steps, Stays}
use Rattle.ic_journal.proofs.Answering.{length-noted}

-- a bench that stays is at the same states
pub still_at : (old new : BenchView) → Stays old new → (st : State) → IsAt old st → IsAt new st
still_at old new stays st at = record {
  history = rw (stays.same.start, stays.lines) at.history;
  standing = alike_then (alike_back (alike-map fired_in stays.same.events)) at.standing;
}

-- a step is made only where the history has room
pub line_left : (old new : BenchView) (call : Call) (answer : Reply) → IsBench new → Steps old call answer new → (st : State) → IsAt old st → st.lines < MAX_LINES
line_left old new call answer bench steps st at =
    let count = history_length at.history in
    let more = length-noted old.lines _ steps.lines in
    let short = bench.running.short in
    omega (arith, count, more, short)

-- what a call does that is answered by a fault, where the fault is known
pub fault_known : {T F : Type 0} (P : Result T F → Type 0) (result : Result T F) (f known : F) → result ≡ Err f → f ≡ known → P result → P (Err known)
fault_known P result f known is same did = subst P (is ∙ ap Err same) did
