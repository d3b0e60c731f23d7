-- What runs add to a pass.
use Rattle.std.proofs.Common.{◌≡◌, ℕ, ◌+◌, ◌≤◌, Bool, List, [], ◌∷◌, ◌++◌, length, Option, Some, None, Result, sym, ap, ◌∙◌, subst, arith, length-append}
use Rattle.std.proofs.lemmas.List.{length-map}
use Rattle.ic_name.specs.declared.lines.Call.{Call}
use Rattle.ic_name.specs.declared.lines.Call.TheVariants.{Fire}
use Rattle.ic_name.specs.declared.lines.Reply.{Reply}
use Rattle.ic_set.specs.declared.pairs.ActivePair.{ActivePair}
use Rattle.ic_set.specs.declared.pairs.Fired.{Fired}
use Rattle.ic_journal.specs.Views.{BenchView}
use Rattle.ic_journal.specs.declared.faults.PairFault.{PairFault}
use Rattle.ic_shared.specs.CallLines.{pair_reply, lines_of}
use Rattle.ic_shared.specs.declared.receipts.RunReceipt.{RunReceipt}
use Rattle.ic_shared.specs.Passes.{PassView, added_by, added_by_all, told_in}
use Rattle.ic_shared.specs.Receipts.{told_of}
use Rattle.ic_shared.specs.Runs.{FiresOn, Runs, begins, fires, chooses_none, RunsForPass, ran, lacked_memory}
use Rattle.ic_work.specs.Workers.{MayFire}

-- what is told of a line, if there is one
few : (number : ℕ) (call : Call) (reply : Option Reply) → length (told_of number (lines_of call reply)) ≤ 1
few number call None = omega arith
few number call (Some reply) = omega arith

-- an active pair that is fired
fires_on : {old new : BenchView} {pair : ActivePair} {r : Result Fired PairFault} {had left : List RunReceipt} → FiresOn old pair r had new left → length left ≤ length had + 1
fires_on {old} {new} {r = r} {had = had} one =
    let whole = ap length one.receipts in
    let parts = length-append had one.added in
    let told = sym (length-map one.added (told_in new.names)) ∙ ap length one.told in
    let bound = few (length old.lines) (Fire one.event) (pair_reply r) in
    omega arith

-- the active pairs of a run
run_fires : {C : Type 0} {chooses : C → BenchView → Option ActivePair → C → Type 0} {hears : C → Result Fired PairFault → C → Type 0} {first : BenchView} {began : C} {had : List RunReceipt} {after : BenchView} {left : C} {receipts : List RunReceipt} {calls : ℕ} {refused : Bool}
    → Runs chooses hears first began had after left receipts calls refused → length receipts ≤ length had + calls
run_fires begins = omega arith
run_fires (fires run chosen one heard) = let before = run_fires run in let last = fires_on one in omega arith
run_fires (chooses_none run chosen) = run_fires run

-- what a run leaves in a pass
pub may_fire : {C : Type 0} {chooses : C → BenchView → Option ActivePair → C → Type 0} {hears : C → Result Fired PairFault → C → Type 0} {began left : C} {old new : PassView} {calls : ℕ} {refused : Bool}
    → RunsForPass chooses hears began old left new calls refused → MayFire calls old new
may_fire (ran bench after run same) =
    let more = run_fires run in
    let kept = ap length same in
    record { few = omega arith; fires = λ before. same ∙ before }
may_fire {old = old} {calls = calls} (lacked_memory none same count end) = subst (MayFire calls old) (sym same) (record { few = omega arith; fires = λ before. before })

-- one pass more
pub added_by_all-append : (passes : List PassView) (pass : PassView) → added_by_all (passes ++ pass ∷ []) ≡ added_by_all passes + added_by pass
added_by_all-append [] pass = omega arith
added_by_all-append (p ∷ passes) pass = let rest = added_by_all-append passes pass in omega arith
