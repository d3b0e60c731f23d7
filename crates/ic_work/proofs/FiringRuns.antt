-- Lines that are all calls to fire events, answered in turn: each that says Fired adds its event, and no other adds one.
use Rattle.std.proofs.Common.{◌≡◌, ◌≢◌, ℕ, ◌+◌, ◌≤◌, List, [], ◌∷◌, ◌++◌, length, refl, arith}
use Rattle.ic_name.specs.Events.{Event}
use Rattle.ic_name.specs.declared.limits.TheConstants.{MAX_LINES}
use Rattle.ic_name.specs.declared.lines.Call.TheVariants.{Fire}
use Rattle.ic_name.specs.declared.lines.Line.{Line}
use Rattle.ic_name.specs.declared.lines.Reply.{Reply}
use Rattle.ic_name.specs.declared.lines.Reply.TheVariants as reply
use Rattle.ic_path.specs.Orders.{IsIn, here, Alike, more}
use Rattle.ic_path.proofs.Alikes.{alike_self, alike_then}
use Rattle.ic_path.proofs.Picks.{in_first, in_more, pick_behind}
use Rattle.ic_theory.specs.Starts.{Start}
use Rattle.ic_theory.specs.Machine.{State, events, MachineStep}
use Rattle.ic_theory.specs.Machine as machine
use Rattle.ic_journal.specs.Continuing.{IsFire, fired_by, fired_lines}
use Rattle.ic_journal.specs.Reducing.{AreFiredInTurn}
use Rattle.ic_journal.specs.Reducing as turn
use Rattle.ic_work.specs.Firings.{AreFirings, none, fired, refused}
use Rattle.ic_work.proofs.HistoryParts.{AreAnswered}
use Rattle.ic_work.proofs.HistoryParts as history

-- so many events more stand
pub record Adds (n : ℕ) (st next : State) : Type 0 where
  pub fresh : List Event
  pub count : length fresh ≡ n
  pub events : Alike (fresh ++ events st) (events next)

-- no event more
adds_none : (st : State) → Adds 0 st st
adds_none st = record { fresh = []; count = refl; events = alike_self (events st) }

-- an answer that isn't Fired counts for no event
no_event : (r : Reply) → r ≢ reply.Fired → fired_by r ≡ 0
no_event reply.Fired n = absurd (n refl)
no_event r n = refl

module _ {s : Start} where
  -- a firing that says so adds its event
  fired_adds : {st mid next : State} {e : Event} {n : ℕ} → MachineStep s st (Fire e) reply.Fired mid → Adds n mid next → Adds (n + 1) st next
  fired_adds {st} {next = next} {e = e} (machine.fired a d f) k = record {
    fresh = e ∷ k.fresh;
    count = (let c = k.count in omega arith);
    events = alike_then (more (pick_behind k.fresh here) (alike_self (k.fresh ++ events st))) k.events;
  }

  -- any other call adds none
  refused_adds : {st mid next : State} {e : Event} {r : Reply} {n : ℕ} → r ≢ reply.Fired → MachineStep s st (Fire e) r mid → Adds n mid next → Adds n st next
  refused_adds n (machine.not_active a) k = record { fresh = k.fresh; count = k.count; events = k.events }
  refused_adds n (machine.deep a d) k = record { fresh = k.fresh; count = k.count; events = k.events }
  refused_adds n (machine.full a d f) k = record { fresh = k.fresh; count = k.count; events = k.events }
  refused_adds n (machine.fired a d f) k = absurd (n refl)

  -- what firings add
  pub firings_add : {lines : List Line} {n : ℕ} {st next : State} → AreFirings s lines n st next → Adds n st next
  firings_add (none {st = st}) = adds_none st
  firings_add (fired few a h) = fired_adds a (firings_add h)
  firings_add (refused few r a h) = refused_adds r a (firings_add h)

  -- and what events add that are fired in turn
  pub turns_add : {n : ℕ} {st next : State} → AreFiredInTurn s n st next → Adds n st next
  turns_add (turn.none {st = st}) = adds_none st
  turns_add (turn.more least few a h) = fired_adds a (turns_add h)

  -- as many events are fired as lines say Fired
  pub count_fired : {lines : List Line} {n : ℕ} {st next : State} → AreFirings s lines n st next → fired_lines lines ≡ n
  count_fired none = refl
  count_fired (fired few a h) = let ih = count_fired h in omega arith
  count_fired (refused {r = r} few n a h) = let ih = count_fired h in let e = no_event r n in omega arith

  -- no more events are fired than there are lines
  pub few_fired : {lines : List Line} {n : ℕ} {st next : State} → AreFirings s lines n st next → n ≤ length lines
  few_fired none = omega arith
  few_fired (fired few a h) = let ih = few_fired h in omega arith
  few_fired (refused few r a h) = let ih = few_fired h in omega arith

  -- calls to fire events that are answered in turn are firings
  pub are_firings : {lines : List Line} {st next : State} → AreAnswered s lines st next → ((l : Line) → IsIn l lines → IsFire l.call)
      → st.lines + length lines ≤ MAX_LINES → (n : ℕ) × AreFirings s lines n st next
  are_firings history.none fires short = (0, none)
  are_firings (history.more {lines = lines} (machine.not_active n) h) fires short =
      let k = are_firings h (λ l i. fires l (in_more _ i)) (omega arith) in (k.0, refused (omega arith) (λ e. cc) (machine.not_active n) k.1)
  are_firings (history.more {lines = lines} (machine.deep a d) h) fires short =
      let k = are_firings h (λ l i. fires l (in_more _ i)) (omega arith) in (k.0, refused (omega arith) (λ e. cc) (machine.deep a d) k.1)
  are_firings (history.more {lines = lines} (machine.full a d f) h) fires short =
      let k = are_firings h (λ l i. fires l (in_more _ i)) (omega arith) in (k.0, refused (omega arith) (λ e. cc) (machine.full a d f) k.1)
  are_firings (history.more {lines = lines} (machine.fired a d f) h) fires short =
      let k = are_firings h (λ l i. fires l (in_more _ i)) (omega arith) in (k.0 + 1, fired (omega arith) (machine.fired a d f) k.1)
  are_firings (history.more {lines = lines} (machine.not_standing n) h) fires short = absurd (fires _ (in_first _ lines))
  are_firings (history.more {lines = lines} (machine.held i e j l) h) fires short = absurd (fires _ (in_first _ lines))
  are_firings (history.more {lines = lines} (machine.undone p e n) h) fires short = absurd (fires _ (in_first _ lines))
