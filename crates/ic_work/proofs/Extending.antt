-- Benches on which so many events more stand.
use Rattle.std.proofs.Common.{◌≡◌, ℕ, ◌+◌, ◌++◌, length, arith, subst, sym, append_assoc, length-append}
use Rattle.std.proofs.lemmas.List.{length-map}
use Rattle.ic_path.specs.Orders.{Alike}
use Rattle.ic_path.proofs.Alikes.{alike_back, alike_then, alike_more, alike-length}
use Rattle.ic_journal.specs.Rosters.{Stander}
use Rattle.ic_set.specs.Views.{standing}
use Rattle.ic_theory.specs.Machine.{State}
use Rattle.ic_journal.specs.Views.{BenchView, set_of}
use Rattle.ic_journal.specs.Benches.{IsAt}
use Rattle.ic_journal.proofs.MachineSteps.{events_at}
use Rattle.ic_work.specs.Sweeps.{Extends}
use Rattle.ic_work.proofs.FiringRuns.{Adds}

-- what a state has more the bench has more
pub extends : (old new : BenchView) {n : ℕ} {st next : State} → IsAt old st → IsAt new next → Adds n st next → Extends old n new
extends old new at at' adds = record {
  fresh = adds.fresh;
  count = adds.count;
  standing = alike_then (alike_more adds.fresh (events_at old at)) (alike_then adds.events (alike_back (events_at new at')));
}

-- one after the other
pub then_extends : (old mid new : BenchView) (n m : ℕ) → Extends old n mid → Extends mid m new → Extends old (n + m) new
then_extends old mid new n m h k = record {
  fresh = k.fresh ++ h.fresh;
  count = (let l = length-append k.fresh h.fresh in let a = h.count in let b = k.count in omega arith);
  standing = subst (λ es. Alike es (standing (set_of new))) (sym (append_assoc k.fresh h.fresh (standing (set_of old)))) (alike_then (alike_more k.fresh h.standing) k.standing);
}

-- so many more are counted
pub extends_count : (old new : BenchView) (n : ℕ) → Extends old n new → length new.events ≡ n + length old.events
extends_count old new n h =
    let a = alike-length h.standing in
    let l = length-append h.fresh (standing (set_of old)) in
    let c = h.count in
    let x = length-map old.events (λ (y : Stander). y.event) in
    let y = length-map new.events (λ (z : Stander). z.event) in
    omega arith
