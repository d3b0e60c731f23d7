-- The bench as a machine: its state, what each call answers, and what stands after a history.
use Rattle.std.specs.Prelude.{◌≡◌, ◌≢◌, ℕ, ◌+◌, ◌<◌, false, List, [], ◌∷◌, ◌++◌, length, map}
use Rattle.std.specs.Ordering.{is_gt}
use Rattle.ic_name.specs.Names.{depth}
use Rattle.ic_name.specs.Events.{Event}
use Rattle.ic_name.specs.declared.limits.TheConstants.{MAX_DEPTH, MAX_AGENTS}
use Rattle.ic_name.specs.declared.lines.Call.{Call}
use Rattle.ic_name.specs.declared.lines.Call.TheVariants.{Fire, Undo}
use Rattle.ic_name.specs.declared.lines.Reply.{Reply}
use Rattle.ic_name.specs.declared.lines.Reply.TheVariants.{Fired, NotActive, Deep, Full, Undone, NotStanding, Held}
use Rattle.ic_name.specs.declared.lines.Line.{Line}
use Rattle.ic_path.specs.Orders.{Pick, IsIn, Alike}
use Rattle.ic_theory.specs.Rules.{born_kinds}
use Rattle.ic_theory.specs.Born.{born_agents}
use Rattle.ic_theory.specs.Starts.{Start}
use Rattle.ic_theory.specs.Sets.{agents}
use Rattle.ic_theory.specs.Active.{IsActive}
use Rattle.ic_theory.specs.Causes.{IsDependent, IsRank, canonical_cmp}

-- an event that stands, and the number of the line of its firing
pub record Standing : Type 0 where
  pub event : Event
  pub line : ℕ

-- what stands, in any order, and the number of lines so far
pub record State : Type 0 where
  pub standing : List Standing
  pub lines : ℕ

-- the standing set
abbrev pub events : State → List Event
events st = map (λ x. x.event) st.standing

-- nothing stands yet
abbrev pub initial : State
initial = record { standing = []; lines = 0 }

-- a line is noted, and nothing else changes
abbrev pub noted : State → State
noted st = record st { lines = st.lines + 1 }

-- the lead has the greatest depth and the rule makes children
abbrev pub IsDeep : Event → Type 0
IsDeep e = (depth e.lead ≡ MAX_DEPTH) × (born_kinds e.lead_kind e.other_kind ≢ [])

-- the agents of the set and the children would be too many
abbrev pub IsFull : Start → List Event → Event → Type 0
IsFull s es e = MAX_AGENTS < length (agents s es) + length (born_agents e)

-- the least direct dependent in canonical order
pub record IsLeastDependent (s : Start) (es : List Event) (e f : Event) : Type 0 where
  pub dependent : IsDependent s es e f
  pub least : (rank : Event → ℕ) → IsRank s es rank → (g : Event) → IsDependent s es e g → is_gt (canonical_cmp rank f g) ≡ false

-- what a call answers, and the state that it leaves; the first case that fits
pub data MachineStep (s : Start) (st : State) : Call → Reply → State → Type 0 where
  not_active : {e : Event} → ¬ (IsActive s (events st) e) → MachineStep s st (Fire e) NotActive (noted st)
  deep : {e : Event} → IsActive s (events st) e → IsDeep e → MachineStep s st (Fire e) Deep (noted st)
  full : {e : Event} → IsActive s (events st) e → ¬ (IsDeep e) → IsFull s (events st) e → MachineStep s st (Fire e) Full (noted st)
  fired : {e : Event} → IsActive s (events st) e → ¬ (IsDeep e) → ¬ (IsFull s (events st) e)
      → MachineStep s st (Fire e) Fired (record { standing = record { event = e; line = st.lines } ∷ st.standing; lines = st.lines + 1 })
  not_standing : {l : ℕ} → ((x : Standing) → IsIn x st.standing → x.line ≢ l) → MachineStep s st (Undo l) NotStanding (noted st)
  held : {l : ℕ} {x y : Standing} → IsIn x st.standing → x.line ≡ l → IsIn y st.standing → IsLeastDependent s (events st) x.event y.event
      → MachineStep s st (Undo l) (Held y.line) (noted st)
  undone : {l : ℕ} {x : Standing} {rest : List Standing} → Pick x st.standing rest → x.line ≡ l
      → ((f : Event) → ¬ (IsDependent s (events st) x.event f))
      → MachineStep s st (Undo l) Undone (record { standing = rest; lines = st.lines + 1 })

-- a legal history, and the state after it
pub data IsHistory (s : Start) : List Line → State → Type 0 where
  begins : IsHistory s [] initial
  goes_on : {lines : List Line} {st next : State} {call : Call} {reply : Reply} → IsHistory s lines st → MachineStep s st call reply next
      → IsHistory s (lines ++ record { call = call; reply = reply } ∷ []) next

-- the same events stand, each with its line, in any order, after as many lines
pub record AreSame (st tt : State) : Type 0 where
  pub standing : Alike st.standing tt.standing
  pub lines : st.lines ≡ tt.lines

-- the event is fired after a legal history
pub record FiredAfter (s : Start) (lines : List Line) (st : State) (e : Event) (mid : State) : Type 0 where
  pub history : IsHistory s lines st
  pub fired : MachineStep s st (Fire e) Fired mid

-- the event is fired after a legal history, and then undone
pub record FiredAndUndone (s : Start) (lines : List Line) (st : State) (e : Event) (next : State) : Type 0 where
  pub mid : State
  pub fired : FiredAfter s lines st e mid
  pub undone : MachineStep s mid (Undo st.lines) Undone next

-- some event that stands can be undone, and the others stand then
abbrev pub SomeIsUndone : Start → State → Type 0
SomeIsUndone s st =
    (x : Standing) × (rest : List Standing) × Pick x st.standing rest × MachineStep s st (Undo x.line) Undone (record { standing = rest; lines = st.lines + 1 })
