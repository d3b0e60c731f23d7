-- Reading a text from left to right, with the first fault that is met.
use Rattle.std.specs.Prelude.{◌≡◌, ℕ, ◌≤◌, nat_lt, nat_le, Bool, true, false, List, [], ◌∷◌, ◌++◌, length, map, Option, Some, None, Result, Ok, Err, if◌then◌else◌, count_by, find}
use Rattle.ic_name.specs.declared.kinds.Kind.{Kind}
use Rattle.ic_name.specs.declared.kinds.Kind.TheVariants.{Eps}
use Rattle.ic_name.specs.declared.ports.Port.{Port}
use Rattle.ic_name.specs.declared.ports.Port.TheVariants as ports
use Rattle.ic_name.specs.declared.rules.Profile.{Profile}
use Rattle.ic_name.specs.declared.rules.Profile.TheVariants.{Classic, Straight}
use Rattle.ic_name.specs.declared.limits.TheConstants.{MAX_START_AGENTS}
use Rattle.ic_theory.specs.Starts.{Start}
use Rattle.ic_text.specs.declared.grammar.limits.TheConstants.{MAX_TEXT, MAX_FREE_NAMES, MAX_NAME, MAX_NESTING}
use Rattle.ic_text.specs.declared.grammar.refusal.Refusal.{Refusal}
use Rattle.ic_text.specs.declared.grammar.refusal.Refusal.TheVariants.{TooLong, BadByte, Syntax, NameTooLong, Thrice, TooManyAgents, TooNested, ReservedFree, TooManyFree}
use Rattle.ic_text.specs.declared.fault.TextFault.{TextFault}
use Rattle.ic_text.specs.declared.fault.TextFault.TheVariants as faults
use Rattle.ic_text.specs.declared.builder.Phase.{Phase}
use Rattle.ic_text.specs.declared.builder.Phase.TheVariants as phases
use Rattle.ic_text.specs.declared.builder.Frame.{Frame}
use Rattle.ic_text.specs.Sides.{Side}
use Rattle.ic_text.specs.Sides as sides
use Rattle.ic_text.specs.Grammar.{port_of}
use Rattle.ic_text.specs.Tokens.{Token, symbol, name, opening, closing, comma, equals, semicolon, profile, bad, Item, items, between}
use Rattle.ic_text.specs.Names.{Entry, enter, number, times, is_free, is_reserved_free}

-- what goes on where reading has not failed
infixl 10 ◌>>=◌
abbrev pub ◌>>=◌ : {A B : Type 0} → Result A Refusal → (A → Result B Refusal) → Result B Refusal
(Ok x) >>= f = f x
(Err e) >>= f = Err e

-- An error is the fault that reading gives, unless memory ran out.
abbrev pub Fails : {Y : Type 0} → TextFault → Result Y Refusal → Type 0
Fails faults.Memory read = Unit {0}
Fails (faults.Refused f) read = read ≡ Err f

-- What a function returned, seen by view, is what reading gives, unless memory ran out.
abbrev pub Gives : {X Y : Type 0} → (X → Y) → Result X TextFault → Result Y Refusal → Type 0
Gives view (Ok x) read = read ≡ Ok (view x)
Gives view (Err e) read = Fails e read

-- What has been read: the symbols, the links, the names, the open symbols, innermost first, what comes next in
-- the text once those are closed, and the profile.
pub record State : Type 0 where
  pub kinds : List Kind
  pub joins : List (Port × Port)
  pub seen : List Entry
  pub stack : List Frame
  pub side : Side
  pub profile : Profile

-- nothing has been read; where no profile comes, it is the classic one
abbrev pub initial : State
initial = record { kinds = []; joins = []; seen = []; stack = []; side = sides.Beginning; profile = Classic }

-- an open symbol
abbrev pub frame : ℕ → Phase → Frame
frame n p = record { agent = n; phase = p }

-- one link more
abbrev pub with_join : Port → Port → State → State
with_join a b s = record s { joins = s.joins ++ (a, b) ∷ [] }

-- a term with this root comes
abbrev pub put_at : Phase → ℕ → List Frame → Port → State → Option State
put_at phases.First n fs root s = Some (record (with_join (port_of n 1) root s) { stack = frame n phases.Comma ∷ fs })
put_at phases.Second n fs root s = Some (record (with_join (port_of n 2) root s) { stack = frame n phases.Closing ∷ fs })
put_at _ n fs root s = None

-- the same outside all parentheses
abbrev pub put_on : Side → Port → State → Option State
put_on sides.Beginning root s = Some (record s { side = sides.Equals root })
put_on sides.Left root s = Some (record s { side = sides.Equals root })
put_on (sides.Right left) root s = Some (record (with_join left root s) { side = sides.Semicolon })
put_on _ root s = None

-- the same within these parentheses
abbrev pub put_in : List Frame → Port → State → Option State
put_in [] root s = put_on s.side root s
put_in (f ∷ fs) root s = put_at f.phase f.agent fs root s

-- the same in a state
abbrev pub put : Port → State → Option State
put root s = put_in s.stack root s

-- a mark comes
abbrev pub mark_at : Phase → Token → ℕ → List Frame → Option (List Frame)
mark_at phases.Opening opening n fs = Some (frame n phases.First ∷ fs)
mark_at phases.Comma comma n fs = Some (frame n phases.Second ∷ fs)
mark_at phases.Closing closing n fs = Some fs
mark_at _ _ n fs = None

-- the same outside all parentheses
abbrev pub mark_on : Side → Token → Option Side
mark_on sides.Heading semicolon = Some sides.Left
mark_on (sides.Equals left) equals = Some (sides.Right left)
mark_on sides.Semicolon semicolon = Some sides.Left
mark_on _ _ = None

-- the state with these open symbols
abbrev pub with_stack : Option (List Frame) → State → Option State
with_stack None s = None
with_stack (Some fs) s = Some (record s { stack = fs })

-- the state with this side
abbrev pub with_side : Option Side → State → Option State
with_side None s = None
with_side (Some x) s = Some (record s { side = x })

-- the same within these parentheses
abbrev pub mark_in : List Frame → Token → State → Option State
mark_in [] t s = with_side (mark_on s.side t) s
mark_in (f ∷ fs) t s = with_stack (mark_at f.phase t f.agent fs) s

-- the same in a state
abbrev pub mark : Token → State → Option State
mark t s = mark_in s.stack t s

-- the profile comes, outside all parentheses
abbrev pub put_profile_on : Side → State → Option State
put_profile_on sides.Beginning s = Some (record s { side = sides.Heading; profile = Straight })
put_profile_on _ s = None

-- the same within these parentheses
abbrev pub put_profile_in : List Frame → State → Option State
put_profile_in [] s = put_profile_on s.side s
put_profile_in (f ∷ fs) s = None

-- the same in a state
abbrev pub put_profile : State → Option State
put_profile s = put_profile_in s.stack s

-- a symbol with arguments is open
abbrev pub push_open : Kind → ℕ → Option State → Option State
push_open k n None = None
push_open Eps n (Some s) = Some s
push_open _ n (Some s) = Some (record s { stack = frame n phases.Opening ∷ s.stack })

-- a symbol comes
abbrev pub put_symbol : Kind → State → Option State
put_symbol k s = push_open k (length s.kinds) (put (port_of (length s.kinds) 0) (record s { kinds = s.kinds ++ k ∷ [] }))

-- a name comes
abbrev pub put_name : List ℕ → ℕ → State → Option State
put_name x o s = put (ports.Name (number x s.seen)) (record s { seen = enter x o s.seen })

-- what has been read after one token more, if a text can begin so
unfoldable pub step : State → ℕ → Token → Option State
step s o (symbol k) = put_symbol k s
step s o (name x) = put_name x o s
step s o profile = put_profile s
step s o t = mark t s

-- the limit that a token passes
unfoldable pub over : State → ℕ → Token → Option Refusal
over s o (symbol k) = if nat_le MAX_START_AGENTS (length s.kinds) then Some (TooManyAgents o) else if nat_le MAX_NESTING (length s.stack) then Some (TooNested o) else None
over s o (name x) = if nat_lt MAX_NAME (length x) then Some (NameTooLong o) else if nat_le 2 (times x s.seen) then Some (Thrice o) else None
over s o t = None

-- the fault of a token that may not come
abbrev pub misplaced : Token → ℕ → Refusal
misplaced bad o = BadByte o
misplaced _ o = Syntax o

-- a token that may not come is refused before one that passes a limit
abbrev pub judge : ℕ → Token → Option State → Option Refusal → Result State Refusal
judge o t None f = Err (misplaced t o)
judge o t (Some s) None = Ok s
judge o t (Some s) (Some f) = Err f

-- a token comes
unfoldable pub advance : State → ℕ → Token → Result State Refusal
advance s o t = judge o t (step s o t) (over s o t)

-- tokens come
unfoldable pub run : State → List Item → Result State Refusal
run s [] = Ok s
run s (i ∷ is) = advance s i.at i.token >>= λ s'. run s' is

-- the text may end here
abbrev pub is_at_rest : List Frame → Side → Bool
is_at_rest [] sides.Beginning = true
is_at_rest [] sides.Left = true
is_at_rest _ _ = false

-- the names' faults, and else the start
abbrev pub finish_names : Option Entry → State → Result Start Refusal
finish_names (Some n) s = Err (ReservedFree n.first)
finish_names None s = if nat_lt MAX_FREE_NAMES (count_by is_free s.seen) then Err TooManyFree else Ok (record { kinds = s.kinds; joins = s.joins; names = map (λ n. n.text) s.seen; profile = s.profile })

-- the text ends
unfoldable pub finish : ℕ → State → Result Start Refusal
finish len s = if is_at_rest s.stack s.side then finish_names (find is_reserved_free s.seen) s else Err (Syntax len)

-- what a text is read as
unfoldable pub read_of : List ℕ → Result Start Refusal
read_of text = if nat_lt MAX_TEXT (length text) then Err TooLong else run initial (items between 0 text) >>= finish (length text)

-- What a state keeps within the limits: few agents, no more names and links than bytes, no name three times.
pub record IsWithin (s : State) (bytes : ℕ) : Type 0 where
  pub agents : length s.kinds ≤ MAX_START_AGENTS
  pub names : length s.seen ≤ bytes
  pub joins : length s.joins ≤ bytes
  pub twice : (x : List ℕ) → times x s.seen ≤ 2
