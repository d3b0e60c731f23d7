-- One token more: what it adds.
use Rattle.ic_name.specs.declared.limits.TheConstants.{MAX_START_AGENTS}
use Rattle.ic_text.specs.declared.grammar.limits.TheConstants.{MAX_TEXT}
use Rattle.std.specs.Prelude.{nat_lt}
use Rattle.std.proofs.Common.{◌≡◌, ℕ, ◌+◌, ◌≤◌, ◌<◌, Bool, true, false, cond, List, [], ◌∷◌, ◌++◌, length, Option, Some, None, Ok, Err, refl, sym, ap, ◌∙◌, arith, leb, length-append}
use Rattle.std.specs.Prelude.{reverse}
use Rattle.std.specs.Str.{bytes_eq}
use Rattle.std.proofs.lemmas.List.{reverse-append}
use Rattle.std.proofs.lemmas.Bool.Decides.{nat_tests}
use Rattle.ic_name.specs.declared.kinds.Kind.{Kind}
use Rattle.ic_name.specs.declared.kinds.Kind.TheVariants.{Gamma, Delta, Eps}
use Rattle.ic_name.specs.declared.ports.Port.{Port}
use Rattle.ic_text.specs.declared.grammar.refusal.Refusal.{Refusal}
use Rattle.ic_text.specs.declared.builder.Phase.{Phase}
use Rattle.ic_text.specs.declared.builder.Phase.TheVariants as phases
use Rattle.ic_text.specs.declared.builder.Frame.{Frame}
use Rattle.ic_text.specs.Sides.{Side}
use Rattle.ic_text.specs.Sides as sides
use Rattle.ic_text.specs.Tokens.{Token, symbol, name, opening, closing, comma, equals, semicolon, profile, stray, digit, bad, Item, items, between}
use Rattle.ic_text.specs.Grammar.{port_of}
use Rattle.ic_text.specs.Names.{Entry, enter}
use Rattle.ic_text.specs.Reading.{State, put, put_at, put_on, put_in, put_profile_on, put_profile_in, push_open, mark_at, mark_on, mark_in, with_stack, with_side, step, over, judge, advance, run, Fails, initial, read_of}
use Rattle.ic_text.specs.declared.fault.TextFault.{TextFault}
use Rattle.ic_text.specs.declared.fault.TextFault.TheVariants as faults

-- what was pushed last is on top
pub top : {X : Type 0} (xs : List X) (x : X) → reverse (xs ++ x ∷ []) ≡ x ∷ reverse xs
top xs x = reverse-append xs (x ∷ [])

-- equal values
pub some_is : {X : Type 0} (x y : X) → Some x ≡ Some y → x ≡ y
some_is x y e = cc

-- a term's place and a mark add no agent and no name
pub record Keeps (s s' : State) : Type 0 where
  pub kinds : s'.kinds ≡ s.kinds
  pub seen : s'.seen ≡ s.seen

-- a state with other parts than these
same : (s t s' : State) → t.kinds ≡ s.kinds → t.seen ≡ s.seen → Some t ≡ Some s' → Keeps s s'
same s t s' k n e = let f = some_is t s' e in record { kinds = sym (ap (λ (x : State). x.kinds) f) ∙ k; seen = sym (ap (λ (x : State). x.seen) f) ∙ n }

-- a term within parentheses
put_at_keeps : (p : Phase) (n : ℕ) (fs : List Frame) (root : Port) (s s' : State) → put_at p n fs root s ≡ Some s' → Keeps s s'
put_at_keeps phases.First n fs root s s' e = same s _ s' refl refl e
put_at_keeps phases.Second n fs root s s' e = same s _ s' refl refl e
put_at_keeps phases.Opening n fs root s s' e = absurd cc
put_at_keeps phases.Comma n fs root s s' e = absurd cc
put_at_keeps phases.Closing n fs root s s' e = absurd cc

-- a term outside all parentheses
put_on_keeps : (x : Side) (root : Port) (s s' : State) → put_on x root s ≡ Some s' → Keeps s s'
put_on_keeps sides.Beginning root s s' e = same s _ s' refl refl e
put_on_keeps sides.Heading root s s' e = absurd cc
put_on_keeps sides.Left root s s' e = same s _ s' refl refl e
put_on_keeps (sides.Right left) root s s' e = same s _ s' refl refl e
put_on_keeps (sides.Equals left) root s s' e = absurd cc
put_on_keeps sides.Semicolon root s s' e = absurd cc

-- a term, by the open symbols
put_in_keeps : (fs : List Frame) (root : Port) (s s' : State) → put_in fs root s ≡ Some s' → Keeps s s'
put_in_keeps [] root s s' e = put_on_keeps s.side root s s' e
put_in_keeps (f ∷ fs) root s s' e = put_at_keeps f.phase f.agent fs root s s' e

-- a term in a state
pub put_keeps : (root : Port) (s s' : State) → put root s ≡ Some s' → Keeps s s'
put_keeps root s s' e = put_in_keeps s.stack root s s' e

-- the profile outside all parentheses
put_profile_on_keeps : (x : Side) (s s' : State) → put_profile_on x s ≡ Some s' → Keeps s s'
put_profile_on_keeps sides.Beginning s s' e = same s _ s' refl refl e
put_profile_on_keeps sides.Heading s s' e = absurd cc
put_profile_on_keeps sides.Left s s' e = absurd cc
put_profile_on_keeps (sides.Equals left) s s' e = absurd cc
put_profile_on_keeps (sides.Right left) s s' e = absurd cc
put_profile_on_keeps sides.Semicolon s s' e = absurd cc

-- the profile, by the open symbols
put_profile_in_keeps : (fs : List Frame) (s s' : State) → put_profile_in fs s ≡ Some s' → Keeps s s'
put_profile_in_keeps [] s s' e = put_profile_on_keeps s.side s s' e
put_profile_in_keeps (f ∷ fs) s s' e = absurd cc

-- other open symbols
with_stack_keeps : (o : Option (List Frame)) (s s' : State) → with_stack o s ≡ Some s' → Keeps s s'
with_stack_keeps None s s' e = absurd cc
with_stack_keeps (Some fs) s s' e = same s _ s' refl refl e

-- another side
with_side_keeps : (o : Option Side) (s s' : State) → with_side o s ≡ Some s' → Keeps s s'
with_side_keeps None s s' e = absurd cc
with_side_keeps (Some x) s s' e = same s _ s' refl refl e

-- a mark, by the open symbols
mark_in_keeps : (fs : List Frame) (t : Token) (s s' : State) → mark_in fs t s ≡ Some s' → Keeps s s'
mark_in_keeps [] t s s' e = with_side_keeps (mark_on s.side t) s s' e
mark_in_keeps (f ∷ fs) t s s' e = with_stack_keeps (mark_at f.phase t f.agent fs) s s' e

-- what a token adds to the kinds and to the names
abbrev pub kinds_with : Token → List Kind → List Kind
kinds_with (symbol k) ks = ks ++ k ∷ []
kinds_with _ ks = ks

-- what a token adds to the names
abbrev pub seen_with : Token → ℕ → List Entry → List Entry
seen_with (name x) o ns = enter x o ns
seen_with _ o ns = ns

-- what a token adds to a state
pub record Adds (s s' : State) (o : ℕ) (t : Token) : Type 0 where
  pub kinds : s'.kinds ≡ kinds_with t s.kinds
  pub seen : s'.seen ≡ seen_with t o s.seen

-- an open symbol more
push_open_keeps : (k : Kind) (n : ℕ) (o : Option State) (s' : State) → push_open k n o ≡ Some s' → (m : State) × (o ≡ Some m) × Keeps m s'
push_open_keeps k n None s' e = absurd cc
push_open_keeps Eps n (Some s) s' e = (s, refl, same s s s' refl refl e)
push_open_keeps Gamma n (Some s) s' e = (s, refl, same s _ s' refl refl e)
push_open_keeps Delta n (Some s) s' e = (s, refl, same s _ s' refl refl e)

-- a step adds what its token says
pub step_adds : (s s' : State) (o : ℕ) (t : Token) → step s o t ≡ Some s' → Adds s s' o t
unfolding step
step_adds s s' o (symbol k) e =
    let s1 : State = record s { kinds = s.kinds ++ k ∷ [] } in
    let a = push_open_keeps k (length s.kinds) (put (port_of (length s.kinds) 0) s1) s' e in
    let b = put_keeps (port_of (length s.kinds) 0) s1 a.0 a.1 in
    record { kinds = a.2.kinds ∙ b.kinds; seen = a.2.seen ∙ b.seen }
step_adds s s' o (name x) e = let b = put_keeps _ _ s' e in record { kinds = b.kinds; seen = b.seen }
step_adds s s' o opening e = let b = mark_in_keeps s.stack opening s s' e in record { kinds = b.kinds; seen = b.seen }
step_adds s s' o closing e = let b = mark_in_keeps s.stack closing s s' e in record { kinds = b.kinds; seen = b.seen }
step_adds s s' o comma e = let b = mark_in_keeps s.stack comma s s' e in record { kinds = b.kinds; seen = b.seen }
step_adds s s' o equals e = let b = mark_in_keeps s.stack equals s s' e in record { kinds = b.kinds; seen = b.seen }
step_adds s s' o semicolon e = let b = mark_in_keeps s.stack semicolon s s' e in record { kinds = b.kinds; seen = b.seen }
step_adds s s' o profile e = let b = put_profile_in_keeps s.stack s s' e in record { kinds = b.kinds; seen = b.seen }
step_adds s s' o stray e = let b = mark_in_keeps s.stack stray s s' e in record { kinds = b.kinds; seen = b.seen }
step_adds s s' o digit e = let b = mark_in_keeps s.stack digit s s' e in record { kinds = b.kinds; seen = b.seen }
step_adds s s' o bad e = let b = mark_in_keeps s.stack bad s s' e in record { kinds = b.kinds; seen = b.seen }

-- an advance that did not fail is a step within the limits
pub judged : (o : ℕ) (t : Token) (n : Option State) (f : Option Refusal) (s' : State) → judge o t n f ≡ Ok s' → (n ≡ Some s') × (f ≡ None)
judged o t None f s' e = absurd cc
judged o t (Some s) None s' e = (cc, refl)
judged o t (Some s) (Some f) s' e = absurd cc

-- a token that was taken is a step within the limits
pub advance_ok : (s s' : State) (o : ℕ) (t : Token) → advance s o t ≡ Ok s' → (step s o t ≡ Some s') × (over s o t ≡ None)
unfolding advance
advance_ok s s' o t e = judged o t (step s o t) (over s o t) s' e

-- at most one name more
length-enter : (x : List ℕ) (o : ℕ) (ns : List Entry) → length (enter x o ns) ≤ length ns + 1
length-enter x o [] = omega arith
length-enter x o (n ∷ ns) = by_test (bytes_eq x n.text) (length-enter x o ns)
  where
    by_test : (b : Bool) → length (enter x o ns) ≤ length ns + 1 → length (cond b (record n { times = n.times + 1 } ∷ ns) (n ∷ enter x o ns)) ≤ length (n ∷ ns) + 1
    by_test true ih = omega arith
    by_test false ih = omega (arith, ih)

-- a token brings at most one name
seen_more : (t : Token) (o : ℕ) (ns : List Entry) → length (seen_with t o ns) ≤ length ns + 1
seen_more (name x) o ns = length-enter x o ns
seen_more (symbol k) o ns = omega arith
seen_more opening o ns = omega arith
seen_more closing o ns = omega arith
seen_more comma o ns = omega arith
seen_more equals o ns = omega arith
seen_more semicolon o ns = omega arith
seen_more profile o ns = omega arith
seen_more stray o ns = omega arith
seen_more digit o ns = omega arith
seen_more bad o ns = omega arith

-- a symbol that is taken is within the limit
symbol_below : (s : State) (o : ℕ) (k : Kind) → over s o (symbol k) ≡ None → length s.kinds < MAX_START_AGENTS
unfolding over
symbol_below s o k e = by_test (leb MAX_START_AGENTS (length s.kinds)) refl e
  where
    by_test : (b : Bool) → leb MAX_START_AGENTS (length s.kinds) ≡ b → over s o (symbol k) ≡ None → length s.kinds < MAX_START_AGENTS
    by_test true h f = absurd (let m = rw h at f in cc)
    by_test false h f = grind (arith, nat_tests)

-- so the kinds stay within it
kinds_fit : (s : State) (o : ℕ) (t : Token) → over s o t ≡ None → length s.kinds ≤ MAX_START_AGENTS → length (kinds_with t s.kinds) ≤ MAX_START_AGENTS
kinds_fit s o (symbol k) e h = omega (arith, symbol_below s o k e, length-append s.kinds (k ∷ []))
kinds_fit s o (name x) e h = h
kinds_fit s o opening e h = h
kinds_fit s o closing e h = h
kinds_fit s o comma e h = h
kinds_fit s o equals e h = h
kinds_fit s o semicolon e h = h
kinds_fit s o profile e h = h
kinds_fit s o stray e h = h
kinds_fit s o digit e h = h
kinds_fit s o bad e h = h

-- the same of a state
pub agents_fit : (s s' : State) (o : ℕ) (t : Token) → advance s o t ≡ Ok s' → length s.kinds ≤ MAX_START_AGENTS → length s'.kinds ≤ MAX_START_AGENTS
agents_fit s s' o t e h =
    let a = advance_ok s s' o t e in
    rw ((step_adds s s' o t a.0).kinds) (kinds_fit s o t a.1 h)

-- a token brings a state at most one name
pub names_fit : (s s' : State) (o : ℕ) (t : Token) → advance s o t ≡ Ok s' → length s'.seen ≤ length s.seen + 1
names_fit s s' o t e =
    let a = advance_ok s s' o t e in
    rw ((step_adds s s' o t a.0).seen) (seen_more t o s.seen)

-- reading goes on behind a token that was taken
pub run_more : (s s' : State) (o : ℕ) (t : Token) (is js : List Item) → js ≡ record { at = o; token = t } ∷ is → advance s o t ≡ Ok s' → run s js ≡ run s' is
unfolding run
run_more s s' o t is js e h = rw e (rw h refl)

-- reading stops at a token that was refused
pub run_fails : (s : State) (f : Refusal) (o : ℕ) (t : Token) (is js : List Item) → js ≡ record { at = o; token = t } ∷ is → advance s o t ≡ Err f → run s js ≡ Err f
unfolding run
run_fails s f o t is js e h = rw e (rw h refl)

-- reading ends with the tokens
pub run_ends : (s : State) (js : List Item) → js ≡ [] → run s js ≡ Ok s
unfolding run
run_ends s js e = rw e refl

-- the end of a text that could not be read
pub fails : (e : TextFault) (s : State) (o : ℕ) (t : Token) (is js : List Item) (text : List ℕ) → js ≡ record { at = o; token = t } ∷ is → Fails e (advance s o t)
    → run s js ≡ run initial (items between 0 text) → length text ≤ MAX_TEXT → Fails e (read_of text)
unfolding read_of
fails faults.Memory s o t is js text e f so_far le = tt
fails (faults.Refused r) s o t is js text e f so_far le =
    let one : run initial (items between 0 text) ≡ Err r = sym so_far ∙ run_fails s r o t is js e f in
    let short : nat_lt MAX_TEXT (length text) ≡ false = grind (arith, nat_tests) in
    rw (short, one) refl
