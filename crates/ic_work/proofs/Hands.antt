-- What a run leaves in a worker's hand.
use Rattle.std.proofs.Common.{ℕ, Bool, List, refl, sym, ◌∙◌, subst}
use Rattle.ic_journal.specs.Views.{BenchView}
use Rattle.ic_shared.specs.declared.receipts.RunReceipt.{RunReceipt}
use Rattle.ic_shared.specs.Passes.{PassView}
use Rattle.ic_shared.specs.Runs.{Runs, begins, fires, chooses_none, RunsForPass, ran, lacked_memory}
use Rattle.ic_work.specs.declared.hand.Hand.{Hand}
use Rattle.ic_work.specs.Hands.{Stays}

-- nothing was done
stays_so : (h : Hand) → Stays h h
stays_so h = record { claims = refl; same_seat = refl; same_near = refl; seat = record { table = refl; number = refl; budget = refl; tickets = refl } }

-- one after the other
pub then_stays : {h k l : Hand} → Stays h k → Stays k l → Stays h l
then_stays a b = record {
  claims = b.claims ∙ a.claims;
  same_seat = b.same_seat ∙ a.same_seat;
  same_near = b.same_near ∙ a.same_near;
  seat = record {
    table = b.seat.table ∙ a.seat.table;
    number = b.seat.number ∙ a.seat.number;
    budget = b.seat.budget ∙ a.seat.budget;
    tickets = b.seat.tickets ∙ a.seat.tickets;
  };
}

-- a run whose every step leaves it
run_stays : {first : BenchView} {began : Hand} {had : List RunReceipt} {after : BenchView} {left : Hand} {receipts : List RunReceipt} {calls : ℕ} {refused : Bool}
    → Runs (λ h bench pair k. Stays h k) (λ h answer k. Stays h k) first began had after left receipts calls refused → Stays began left
run_stays {began = began} begins = stays_so began
run_stays (fires run chosen fired heard) = then_stays (then_stays (run_stays run) chosen) heard
run_stays (chooses_none run chosen) = then_stays (run_stays run) chosen

pub stays : {began left : Hand} {old new : PassView} {calls : ℕ} {refused : Bool}
    → RunsForPass (λ h bench pair k. Stays h k) (λ h answer k. Stays h k) began old left new calls refused → Stays began left
stays (ran bench after run same) = run_stays run
stays {began = began} (lacked_memory same pass count end) = subst (Stays began) (sym same) (stays_so began)
