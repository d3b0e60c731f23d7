-- States of desks that sessions lead to, and when two of them are the same.
use Rattle.std.proofs.Common.{refl, arith}
use Rattle.ic_path.specs.Orders.{IsIn, none}
use Rattle.ic_theory.specs.Starts.{Start}
use Rattle.ic_theory.specs.Sound.{IsSound}
use Rattle.ic_theory.specs.Machine.{begins}
use Rattle.ic_desk.specs.Desks.{Noted, State, initial}
use Rattle.ic_session.specs.States.{IsReached}
use Rattle.ic_theory.specs.Machine.{AreSame}
use Rattle.ic_session.proofs.SameMarks.{AreNamedApart, AreSameMarks}

-- a history leads to what stands, each mark is sound, and no two have one name
pub record IsInUse (s : Start) (st : State) : Type 0 where
  pub bench : IsReached s st.bench
  pub sound : (x : Noted) → IsIn x st.marks → IsSound s x.events
  pub apart : AreNamedApart st.marks

-- the same bench and the same marks
pub record AreSameDesks (st tt : State) : Type 0 where
  pub bench : AreSame st.bench tt.bench
  pub marks : AreSameMarks st.marks tt.marks

-- so it is at first
pub first_in_use : (s : Start) → IsInUse s initial
first_in_use s =
    record { bench = (_, begins, omega arith); sound = λ x i. elim i.1 [ ]; apart = λ x rest k. elim k [ ] }

pub first_same : AreSameDesks initial initial
first_same = record {
  bench = record { standing = none; lines = refl };
  marks = record { many = refl; to = λ x i. elim i.1 [ ]; from = λ y i. elim i.1 [ ] };
}
