-- Events that the machine fires in turn.
use Rattle.std.proofs.Common.{◌+◌, ◌≤◌, List, [], ◌∷◌, ◌++◌, length, map, sym, subst, append_assoc, append-nil, arith}
use Rattle.ic_name.specs.Events.{Event}
use Rattle.ic_name.specs.declared.limits.TheConstants.{MAX_LINES}
use Rattle.ic_name.specs.declared.lines.Call.TheVariants.{Fire}
use Rattle.ic_name.specs.declared.lines.Line.{Line}
use Rattle.ic_name.specs.declared.lines.Reply.TheVariants.{Fired}
use Rattle.ic_path.specs.Orders.{Alike}
use Rattle.ic_path.proofs.Alikes.{alike_back, alike-cons}
use Rattle.ic_theory.specs.Starts.{Start}
use Rattle.ic_theory.specs.Machine.{State, events, MachineStep, fired, IsHistory, goes_on}
use Rattle.ic_theory.proofs.Normal.{active-alike}
use Rattle.ic_journal.proofs.SameSets.{full-alike}
use Rattle.ic_undo.specs.GoingBack.{AreFirable, firing}
use Rattle.ic_desk.specs.Backs.{AreFired, none, more}

-- events are fired in turn, and the history goes on with their lines
pub record FiresSo (s : Start) (ls : List Line) (es : List Event) (st : State) : Type 0 where
  pub next : State
  pub did : AreFired s st es next
  pub history : IsHistory s (ls ++ map firing es) next

-- what can be fired over what stands is fired so
pub fires_in_turn : (s : Start) (ls : List Line) (es base : List Event) (st : State) → IsHistory s ls st → Alike base (events st)
    → AreFirable s base es → st.lines + length es ≤ MAX_LINES → FiresSo s ls es st
fires_in_turn s ls [] base st history alike fit few = record { next = st; did = none; history = subst (λ ks. IsHistory s ks st) (sym (append-nil ls)) history }
fires_in_turn s ls (e ∷ es) base st history alike (active, shallow, small, later) few =
    let answers : MachineStep s st (Fire e) Fired (record { standing = record { event = e; line = st.lines } ∷ st.standing; lines = st.lines + 1 }) =
    fired (active-alike s alike active) shallow (λ f. small (full-alike s e (alike_back alike) f)) in
    let further = fires_in_turn s (ls ++ firing e ∷ []) es (e ∷ base) (record { standing = record { event = e; line = st.lines } ∷ st.standing; lines = st.lines + 1 })
    (goes_on history answers) (alike-cons e alike) later (omega (arith, few)) in
    record {
      next = further.next;
      did = more (omega (arith, few)) answers further.did;
      history = subst (λ ks. IsHistory s ks further.next) (append_assoc ls (firing e ∷ []) (map firing es)) further.history;
    }

-- the first of what can be fired can be
pub firable_first : (s : Start) (base es behind : List Event) → AreFirable s base (es ++ behind) → AreFirable s base es
firable_first s base [] behind h = tt
firable_first s base (e ∷ es) behind (active, shallow, small, later) = (active, shallow, small, firable_first s (e ∷ base) es behind later)
