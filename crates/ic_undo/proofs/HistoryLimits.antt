-- What stands after a legal history is within the limits.
use Rattle.std.proofs.Common.{◌+◌, ◌≤◌, List, ◌∷◌, length, map, inl, inr, sym, subst, arith, length-append}
use Rattle.std.proofs.Math.Nat.{lt_of_not-le}
use Rattle.ic_name.specs.Events.{Event}
use Rattle.ic_name.specs.Names.{start_name}
use Rattle.ic_name.specs.declared.limits.TheConstants.{MAX_START_AGENTS, MAX_AGENTS}
use Rattle.ic_name.specs.declared.lines.Call.{Call}
use Rattle.ic_name.specs.declared.lines.Line.{Line}
use Rattle.ic_name.specs.declared.lines.Reply.{Reply}
use Rattle.ic_path.specs.Orders.{Pick, IsIn}
use Rattle.ic_path.proofs.Alikes.{picked_alike}
use Rattle.ic_path.proofs.Picks.{none_in, in-cons_cases, in_picked, length-pick, pick-map}
use Rattle.ic_theory.specs.Born.{born_agents}
use Rattle.ic_theory.specs.Sets.{agents}
use Rattle.ic_theory.specs.Starts.{Start}
use Rattle.ic_theory.specs.Machine.{Standing, State, events, noted, IsDeep, IsFull, MachineStep, not_active, deep, full, fired, not_standing, held, undone, IsHistory, begins, goes_on}
use Rattle.ic_set.proofs.Children.{length-named}
use Rattle.ic_journal.proofs.SameSets.{agent_count}

-- no event is deep, the agents aren't too many, and the events aren't more than the lines
pub record IsWithin (s : Start) (st : State) : Type 0 where
  pub shallow : (e : Event) → IsIn e (events st) → ¬ (IsDeep e)
  pub few_agents : length (agents s (events st)) ≤ MAX_AGENTS
  pub few_events : length st.standing ≤ st.lines

-- a line that changes nothing keeps that
within_noted : (s : Start) {st : State} → IsWithin s st → IsWithin s (noted st)
within_noted s w = let f = w.few_events in record { shallow = w.shallow; few_agents = w.few_agents; few_events = omega (arith, f) }

-- so does a firing
within_fired : (s : Start) {st : State} {e : Event} → ¬ (IsDeep e) → ¬ (IsFull s (events st) e) → IsWithin s st → IsWithin s (record { standing = record { event = e; line = st.lines } ∷ st.standing; lines = st.lines + 1 })
within_fired s {st} {e} shallow few w = record {
  shallow = λ f i. elim (in-cons_cases i) [ inl q ↦ subst (λ x. ¬ (IsDeep x)) (sym q) shallow | inr j ↦ w.shallow f j ];
  few_agents = (let a = length-append (born_agents e) (agents s (events st)) in let b = lt_of_not-le few in omega (arith, a, b));
  few_events = (let f = w.few_events in omega (arith, f));
}

-- and an undo
within_undone : (s : Start) {st : State} {x : Standing} {rest : List Standing} → Pick x st.standing rest → IsWithin s st → IsWithin s (record { standing = rest; lines = st.lines + 1 })
within_undone s {st} {x} {rest} k w = record {
  shallow = λ f i. w.shallow f (in_picked (pick-map (λ (y : Standing). y.event) k) i);
  few_agents = (
      let a = agent_count s (picked_alike (pick-map (λ (y : Standing). y.event) k)) in
      let b = length-append (born_agents x.event) (agents s (map (λ (y : Standing). y.event) rest)) in
      let f = w.few_agents in
      omega (arith, a, b, f));
  few_events = (let n = length-pick k in let f = w.few_events in omega (arith, n, f));
}

-- so each answer keeps that
within_next : (s : Start) {st next : State} {call : Call} {reply : Reply} → MachineStep s st call reply next → IsWithin s st → IsWithin s next
within_next s (not_active n) w = within_noted s w
within_next s (deep a d) w = within_noted s w
within_next s (full a d n) w = within_noted s w
within_next s (fired a d n) w = within_fired s d n w
within_next s (not_standing n) w = within_noted s w
within_next s (held i j m l) w = within_noted s w
within_next s (undone k j n) w = within_undone s k w

-- what stands after a legal history is within the limits
pub history_within : (s : Start) → length s.kinds ≤ MAX_START_AGENTS → {lines : List Line} {st : State} → IsHistory s lines st → IsWithin s st
history_within s few begins = record {
  shallow = λ e i. absurd (none_in i);
  few_agents = (let n = length-named start_name 0 s.kinds in omega (arith, n, few));
  few_events = omega arith;
}
history_within s few (goes_on h a) = within_next s a (history_within s few h)
