-- What a bench does to absorb events, done by the machine.
use Rattle.std.proofs.Common.{◌≡◌, ℕ, ◌+◌, ◌≤◌, List, [], ◌∷◌, ◌++◌, length, map, reverse, refl, sym, ap, subst, append_assoc, arith, ◌∙◌}
use Rattle.ic_name.specs.Events.{Event, Pair}
use Rattle.ic_name.specs.declared.limits.TheConstants.{MAX_LINES}
use Rattle.ic_name.specs.declared.lines.Call.TheVariants.{Fire, Undo}
use Rattle.ic_name.specs.declared.lines.Line.{Line}
use Rattle.ic_name.specs.declared.lines.Reply.TheVariants.{Fired, Undone}
use Rattle.ic_path.specs.Orders.{IsIn, Alike}
use Rattle.ic_path.proofs.Picks.{in_first, in_more, in_picked}
use Rattle.ic_path.proofs.Alikes.{alike_back, alike_then, alike-cons}
use Rattle.ic_theory.specs.Starts.{Start}
use Rattle.ic_theory.specs.Machine.{Standing, State, events, MachineStep, fired, undone}
use Rattle.ic_theory.proofs.Machines.{IsKept}
use Rattle.ic_theory.proofs.Normal.{active-alike}
use Rattle.ic_theory.proofs.Replies.{one_line}
use Rattle.ic_journal.specs.Rosters.{Stander}
use Rattle.ic_journal.specs.Views.{BenchView}
use Rattle.ic_journal.specs.Benches.{IsAt, IsBench, fired_in}
use Rattle.ic_undo.specs.Absorbing.{IsLeastListed, AreLeastInTurn}
use Rattle.ic_undo.specs.GoingBack.{firing}
use Rattle.ic_journal.specs.Undone.{undoing}
use Rattle.ic_undo.proofs.Backs.{reverse_more}
use Rattle.ic_answer.specs.Unwinding.{AreUndoneInTurn}
use Rattle.ic_answer.specs.Unwinding as undo
use Rattle.ic_work.proofs.HistoryParts.{AreAnswered, same_history, history_parts, history_on, carried, one_state}
use Rattle.ic_work.proofs.HistoryParts as parts
use Rattle.ic_theory.specs.Machine.{AreSame}
use Rattle.ic_desk.specs.Absorbs.{AreAbsorbed}
use Rattle.ic_desk.specs.Absorbs as absorbs

-- the lines that a bench gained lead from each state that it was at to one that it is at
pub run_on : (old new : BenchView) (added : List Line) → IsBench old → IsBench new → new.start ≡ old.start → new.lines ≡ old.lines ++ added
    → (st : State) → IsAt old st → (next : State) × AreAnswered old.start added st next × IsAt new next
run_on old new added bench bench' start lines st at =
    let run = bench'.running in
    let two = history_parts old.start old.lines (same_history start lines run.at.history) in
    let same : AreSame two.0 st = one_state old.start bench.set.proper two.1 at.history in
    let again = carried old.start same two.2 in
    (again.0, again.1, record { history = same_history (sym start) (sym lines) (history_on old.start old.lines at.history again.1); standing = alike_then run.at.standing again.2.standing })

-- the listed event whose turn it is, over a set in any order
pub listed-alike : (s : Start) {es fs : List Event} {names : List Pair} {e : Event} → Alike es fs → IsLeastListed s es names e → IsLeastListed s fs names e
listed-alike s alike h = record {
  active = active-alike s alike h.active;
  listed = h.listed;
  least = λ f a i. h.least f (active-alike s (alike_back alike) a) i;
}

-- what stands after a firing
fired_after : {s : Start} {st next : State} {e : Event} → MachineStep s st (Fire e) Fired next → events next ≡ e ∷ events st
fired_after (fired a d n) = refl

line_after : {s : Start} {st next : State} {e : Event} → MachineStep s st (Fire e) Fired next → next.lines ≡ st.lines + 1
line_after (fired a d n) = refl

-- listed events are fired in turn, and lines are left
pub record ComesSo (s : Start) (names : List Pair) (base came : List Event) (left : List Line) (st next : State) : Type 0 where
  pub mid : State
  pub did : AreAbsorbed s names st came mid
  pub stand : Alike (reverse came ++ base) (events mid)
  pub lines : AreAnswered s (map firing came) st mid
  pub others : AreAnswered s left mid next

pub comes_so : (s : Start) (names : List Pair) (base came : List Event) (left : List Line) {st next : State} → Alike base (events st) → AreLeastInTurn s base names came
    → st.lines + length came ≤ MAX_LINES → AreAnswered s (map firing came ++ left) st next → ComesSo s names base came left st next
comes_so s names base [] left {st = st} alike turns few h = record { mid = st; did = absorbs.none; stand = alike; lines = parts.none; others = h }
comes_so s names base (e ∷ es) left alike (turn, turns) few (parts.more a h) =
    let line = line_after a in
    let further = comes_so s names (e ∷ base) es left (subst (λ xs. Alike (e ∷ base) xs) (sym (fired_after a)) (alike-cons e alike)) turns (omega (arith, few, line)) h in
    let shifted : reverse (e ∷ es) ++ base ≡ reverse es ++ e ∷ base = ap (λ xs. xs ++ base) (reverse_more e es) ∙ append_assoc (reverse es) (e ∷ []) base in
    record {
      mid = further.mid;
      did = absorbs.more (listed-alike s alike turn) (omega (arith, few)) a further.did;
      stand = subst (λ xs. Alike xs (events further.mid)) (sym shifted) further.stand;
      lines = parts.more a further.lines;
      others = further.others;
    }

-- what an undo takes out stood, and nothing new stands
record TakesOne (st next : State) (l : ℕ) : Type 0 where
  gone : Standing
  there : IsIn gone st.standing
  line : gone.line ≡ l
  stood : (y : Standing) → IsIn y next.standing → IsIn y st.standing
  lines : next.lines ≡ st.lines + 1

takes_one : {s : Start} {st next : State} {l : ℕ} → MachineStep s st (Undo l) Undone next → TakesOne st next l
takes_one (undone {x = x} {rest = rest} p e n) = record { gone = x; there = (rest, p); line = e; stood = λ y i. in_picked p i; lines = refl }

module _ (s : Start) (mid : State) (kept : IsKept s mid) where
  -- events that stand are undone in turn
  pub undone_so : (xs : List Stander) {st next : State} → ((x : Stander) → IsIn x xs → IsIn (fired_in x) mid.standing) → ((y : Standing) → IsIn y st.standing → IsIn y mid.standing)
      → st.lines + length xs ≤ MAX_LINES → AreAnswered s (map undoing xs) st next → AreUndoneInTurn s st (map fired_in xs) next
  undone_so [] there within few parts.none = undo.none
  undone_so (x ∷ xs) {st = st} there within few (parts.more a h) =
      let one = takes_one a in
      let is : one.gone ≡ fired_in x = one_line kept (within one.gone one.there) (there x (in_first x xs)) one.line in
      let lines = one.lines in
      undo.more (subst (λ y. IsIn y st.standing) is one.there) (omega (arith, few)) a
      (undone_so xs (λ y i. there y (in_more x i)) (λ y i. within y (one.stood y i)) (omega (arith, few, lines)) h)
