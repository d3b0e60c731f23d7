-- Active pairs that are fired in turn, put together.
use Rattle.std.proofs.Common.{◌≡◌, ℕ, ◌+◌, ◌<◌, subst, arith}
use Rattle.ic_theory.specs.Starts.{Start}
use Rattle.ic_theory.specs.Machine.{State}
use Rattle.ic_journal.specs.Views.{BenchView}
use Rattle.ic_journal.specs.Benches.{IsAt}
use Rattle.ic_journal.specs.declared.reducing.end.End.{End}
use Rattle.ic_journal.specs.declared.reducing.end.End.TheVariants.{Normal, Budget, Limit, Memory}
use Rattle.ic_journal.specs.Continuing.{Continues}
use Rattle.ic_journal.specs.Reduced.{IsReduced, Reduces, FiresLeast}
use Rattle.ic_journal.specs.Reducing.{AreFiredInTurn, none, more}
use Rattle.ic_journal.proofs.Continuing.{then_continues}

-- some events are fired, and then others
then_others : {s : Start} {n : ℕ} {st mid next : State} (m : ℕ) → AreFiredInTurn s n st mid
    → AreFiredInTurn s m mid next → AreFiredInTurn s (n + m) st next
then_others {s} {st = st} {next = next} m none k = let same : m ≡ 0 + m = omega arith in subst (λ c. AreFiredInTurn s c st next) same k
then_others {s} {next = next} m (more {st = st} {n = n} least few answers h) k =
    subst (λ c. AreFiredInTurn s c st next) (omega arith) (more least few answers (then_others m h k))

-- then none
then_none : {s : Start} {n : ℕ} {st mid next : State} → AreFiredInTurn s n st mid → AreFiredInTurn s 0 mid next
    → AreFiredInTurn s n st next
then_none {s} {n} {st} {next = next} h k = let same : n + 0 ≡ n = omega arith in subst (λ c. AreFiredInTurn s c st next) same (then_others 0 h k)

-- so many were fired by now
pub record HasFired (old : BenchView) (n : ℕ) (new : BenchView) : Type 0 where
  pub start : new.start ≡ old.start
  pub continues : Continues old n new
  pub fired : (st : State) → IsAt old st → (next : State) × AreFiredInTurn old.start n st next × IsAt new next

-- one more is fired
pub fired_more : (old mid new : BenchView) (n : ℕ) → HasFired old n mid → FiresLeast mid new → HasFired old (n + 1) new
fired_more old mid new n h k = record {
  start = rw h.start at k.start;
  continues = then_continues old mid new n 1 h.continues k.continues;
  fired = λ st at. (
      let one = h.fired st at in
      let two = k.fired one.0 one.2 in
      (two.0, then_others 1 one.1 (subst (λ s. AreFiredInTurn s 1 one.0 two.0) h.start two.1), two.2)
      );
}

-- none more is
is_reduced_more : (s : Start) (st mid next : State) (most n : ℕ) (end : End) → n < most → AreFiredInTurn s n st mid
    → IsReduced s mid 1 0 end next → IsReduced s st most n end next
is_reduced_more s st mid next most n Normal few h k = (then_none h k.0, omega (arith, few), k.2)
is_reduced_more s st mid next most n Budget few h k = let no = k.1 in absurd (omega (arith, no))
is_reduced_more s st mid next most n Limit few h k = (k.0, then_none h k.1, few, k.3)
is_reduced_more s st mid next most n Memory few h k = (then_none h k.0, few, k.2)

pub reduced_more : (old mid new : BenchView) (most n : ℕ) (end : End) → n < most → HasFired old n mid
    → Reduces mid 1 0 end new → Reduces old most n end new
reduced_more old mid new most n end few h k = record {
  start = rw h.start at k.start;
  continues = (let same : n + 0 ≡ n = omega arith in subst (λ c. Continues old c new) same (then_continues old mid new n 0 h.continues k.continues));
  reduced = λ st at. (
      let one = h.fired st at in
      let two = k.reduced one.0 one.2 in
      (two.0, is_reduced_more old.start st one.0 two.0 most n end few one.1 (subst (λ s. IsReduced s one.0 1 0 end two.0) h.start two.1), two.2)
      );
}
