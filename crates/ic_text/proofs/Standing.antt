-- The fault that is answered stands in the text, and none stands at a token that was passed.
use Rattle.ic_name.specs.declared.limits.TheConstants.{MAX_START_AGENTS}
use Rattle.ic_text.specs.declared.grammar.limits.TheConstants.{MAX_NAME, MAX_NESTING}
use Rattle.std.specs.Prelude.{nat_lt}
use Rattle.std.proofs.Common.{◌≡◌, ℕ, ◌+◌, ◌≤◌, ◌<◌, ◌⊎◌, Bool, true, false, cond, List, [], ◌∷◌, ◌++◌, length, Option, Some, None, Result, Ok, Err, refl, sym, ap, subst, ◌∙◌, arith, inl, inr, leb, append_assoc}
use Rattle.std.specs.List.{fold}
use Rattle.std.specs.Str.{bytes_eq}
use Rattle.std.proofs.lemmas.Bool.Decides.{nat_tests}
use Rattle.ic_name.specs.declared.kinds.Kind.{Kind}
use Rattle.ic_name.specs.declared.kinds.Kind.TheVariants.{Gamma, Delta, Eps}
use Rattle.ic_name.specs.declared.ports.Port.{Port}
use Rattle.ic_name.specs.declared.rules.Profile.TheVariants.{Classic}
use Rattle.ic_text.specs.declared.grammar.refusal.Refusal.{Refusal}
use Rattle.ic_text.specs.declared.grammar.refusal.Refusal.TheVariants.{NameTooLong, Thrice, TooManyAgents, TooNested}
use Rattle.ic_text.specs.declared.builder.Phase.{Phase}
use Rattle.ic_text.specs.declared.builder.Phase.TheVariants as phases
use Rattle.ic_text.specs.declared.builder.Frame.{Frame}
use Rattle.ic_text.specs.Sides.{Side}
use Rattle.ic_text.specs.Sides as sides
use Rattle.ic_text.specs.Tokens.{Token, symbol, name, opening, closing, comma, equals, semicolon, profile, stray, digit, bad, Item, items, between}
use Rattle.ic_text.specs.Names.{times}
use Rattle.ic_text.specs.Grammar.{eps, text_of, names, occurs, port_of}
use Rattle.ic_text.specs.Faults.{At, IsFront, is_fork, is_closing, depth, Stands}
use Rattle.ic_text.specs.Reading.{◌>>=◌, State, initial, step, over, advance, run, judge, misplaced, put, put_at, put_on, put_in, put_symbol, put_profile_on, put_profile_in, push_open, mark_at, mark_on, mark_in, with_stack, with_side}
use Rattle.ic_text.proofs.Steps.{some_is}
use Rattle.ic_text.proofs.Pending.{Rest, pend, rest_links, rest_profile}
use Rattle.ic_text.proofs.Taken.{forth}
use Rattle.ic_text.proofs.Sound.{Runs, runs, runs_back, runs_fold, runs_symbols, tokens_of, numbers, bind_ok, times_enter}

-- ---- where reading stops

-- the token at which reading stops
pub record FaultAt (s : State) (is : List Item) (f : Refusal) : Type 0 where
  pub before : List Item
  pub item : Item
  pub rest : List Item
  pub at : State
  pub parts : is ≡ before ++ item ∷ rest
  pub went : run s before ≡ Ok at
  pub fails : advance at item.at item.token ≡ Err f

-- reading stops at some token
pub fault_at : (is : List Item) (s : State) (f : Refusal) → run s is ≡ Err f → FaultAt s is f
unfolding run
fault_at [] s f e = absurd cc
fault_at (i ∷ is) s f e = by_result (advance s i.at i.token) refl e (λ m. fault_at is m f)
  where
    by_result : (r : Result State Refusal) → advance s i.at i.token ≡ r → (r >>= λ m. run m is) ≡ Err f → ((m : State) → run m is ≡ Err f → FaultAt m is f) → FaultAt s (i ∷ is) f
    by_result (Err d) h e ih = record { before = []; item = i; rest = is; at = s; parts = refl; went = refl; fails = h ∙ cc }
    by_result (Ok m) h e ih =
        let q = ih m e in
        record { before = i ∷ q.before; item = q.item; rest = q.rest; at = q.at; parts = ap (λ (w : List Item). i ∷ w) q.parts; went = rw h q.went; fails = q.fails }

-- a token within what was read
pub record Passed (s : State) (before : List Item) (i : Item) : Type 0 where
  pub at : State
  pub after : State
  pub went : run s before ≡ Ok at
  pub takes : advance at i.at i.token ≡ Ok after

-- a token in front of the end was passed
pub passed : (before : List Item) (i : Item) (rest : List Item) (s s' : State) → run s (before ++ i ∷ rest) ≡ Ok s' → Passed s before i
unfolding run
passed [] i rest s s' e =
    let b = bind_ok (advance s i.at i.token) (λ m. run m rest) s' e in
    record { at = s; after = b.0; went = refl; takes = b.1 }
passed (j ∷ before) i rest s s' e =
    let b = bind_ok (advance s j.at j.token) (λ m. run m (before ++ i ∷ rest)) s' e in
    let q = passed before i rest b.0 s' b.2 in
    record { at = q.at; after = q.after; went = ap (λ (r : Result State Refusal). r >>= λ m. run m before) b.1 ∙ q.went; takes = q.takes }

-- ---- fronts of texts

-- what comes behind tokens that were taken
pub forth_all : (is : List Item) (s m : State) → Runs s is m → (r : Rest s.stack) (ts : List Token) → pend s.stack s.side r ≡ tokens_of is ++ ts → (q : Rest m.stack) × (pend m.stack m.side q ≡ ts)
forth_all [] s m g r ts e = subst (λ (y : State). (q : Rest y.stack) × (pend y.stack y.side q ≡ ts)) g (r, e)
forth_all (i ∷ is) s m g r ts e =
    let f = forth s r i.at i.token (tokens_of is ++ ts) e in
    let same : f.after ≡ g.0 = some_is f.after g.0 (sym f.went ∙ g.1) in
    let c : (q : Rest g.0.stack) × (pend g.0.stack g.0.side q ≡ tokens_of is ++ ts) = subst (λ (y : State). (q : Rest y.stack) × (pend y.stack y.side q ≡ tokens_of is ++ ts)) same (f.rest, f.tokens) in
    forth_all is g.0 m g.2 c.0 ts c.1

-- a token with which no step goes on begins no text with the tokens in front of it
pub no_front : (before : List Item) (m : State) (o : ℕ) (t : Token) → Runs initial before m → step m o t ≡ None → IsFront (tokens_of before ++ t ∷ []) → ⊥
no_front before m o t g e f =
    let parts : text_of f.profile f.equations ≡ tokens_of before ++ (t ∷ f.rest) = f.parts ∙ append_assoc (tokens_of before) (t ∷ []) f.rest in
    let c = forth_all before initial m g (f.profile, eps, f.equations) (t ∷ f.rest) parts in
    let h = forth m c.0 o t f.rest c.1 in
    let z : None ≡ Some h.after = sym e ∙ h.went in
    absurd cc

-- some rest completes what was read so far
any_rest : (fs : List Frame) → Rest fs
any_rest [] = (Classic, eps, [])
any_rest (f ∷ fs) = (eps, eps, any_rest fs)

-- tokens that were taken begin a text
pub is_front : (before : List Item) (m : State) → Runs initial before m → IsFront (tokens_of before)
is_front before m g =
    let r = any_rest m.stack in
    let c = runs_back before initial m g (pend m.stack m.side r) (m.joins ++ rest_links (numbers m) (length m.kinds) m.stack m.side r) (rest_profile m.stack m.side r m.profile) (record { rest = r; tokens = refl; joins = refl; profile = refl }) in
    record { profile = c.rest.0; equations = c.rest.2; rest = pend m.stack m.side r; parts = c.tokens }

-- ---- how deep the symbols are

-- 1 for a symbol with arguments
abbrev forks : Token → ℕ
forks t = cond (is_fork t) 1 0

-- 1 for the mark that ends them
abbrev closings : Token → ℕ
closings t = cond (is_closing t) 1 0

-- as many open symbols
same_length : (n : ℕ) (s s' : State) → length s.stack ≡ n → Some s ≡ Some s' → length s'.stack ≡ n
same_length n s s' h e = ap (λ (y : State). length y.stack) (sym (some_is s s' e)) ∙ h

-- a term opens nothing
put_in_depth : (fs : List Frame) (root : Port) (s s' : State) → s.stack ≡ fs → put_in fs root s ≡ Some s' → length s'.stack ≡ length fs
put_in_depth [] root s s' h e = on s.side e
  where
    on : (x : Side) → put_on x root s ≡ Some s' → length s'.stack ≡ 0
    on sides.Beginning f = same_length 0 _ s' (ap length h) f
    on sides.Heading f = absurd cc
    on sides.Left f = same_length 0 _ s' (ap length h) f
    on (sides.Right l) f = same_length 0 _ s' (ap length h) f
    on (sides.Equals l) f = absurd cc
    on sides.Semicolon f = absurd cc
put_in_depth (f ∷ fs) root s s' h e = at f.phase e
  where
    at : (p : Phase) → put_at p f.agent fs root s ≡ Some s' → length s'.stack ≡ length (f ∷ fs)
    at phases.First g = same_length (length (f ∷ fs)) _ s' refl g
    at phases.Second g = same_length (length (f ∷ fs)) _ s' refl g
    at phases.Opening g = absurd cc
    at phases.Comma g = absurd cc
    at phases.Closing g = absurd cc

-- nor does it in a state
put_depth : (root : Port) (s s' : State) → put root s ≡ Some s' → length s'.stack ≡ length s.stack
put_depth root s s' e = put_in_depth s.stack root s s' refl e

-- a symbol with arguments opens one
symbol_depth : (k : Kind) (s s' : State) → put_symbol k s ≡ Some s' → length s'.stack ≡ length s.stack + forks (symbol k)
symbol_depth k s s' e = by_kind k (put (port_of (length s.kinds) 0) (record s { kinds = s.kinds ++ k ∷ [] })) refl e
  where
    by_kind : (j : Kind) (o : Option State) → put (port_of (length s.kinds) 0) (record s { kinds = s.kinds ++ k ∷ [] }) ≡ o → push_open j (length s.kinds) o ≡ Some s' → length s'.stack ≡ length s.stack + forks (symbol j)
    by_kind j None h f = absurd cc
    by_kind Eps (Some m) h f = omega (arith, same_length (length m.stack) m s' refl f, put_depth _ _ m h)
    by_kind Gamma (Some m) h f = omega (arith, same_length (length m.stack + 1) _ s' (omega arith) f, put_depth _ _ m h)
    by_kind Delta (Some m) h f = omega (arith, same_length (length m.stack + 1) _ s' (omega arith) f, put_depth _ _ m h)

-- nor does the profile
put_profile_in_depth : (fs : List Frame) (s s' : State) → s.stack ≡ fs → put_profile_in fs s ≡ Some s' → length s'.stack ≡ length s.stack
put_profile_in_depth [] s s' h e = on s.side e
  where
    on : (x : Side) → put_profile_on x s ≡ Some s' → length s'.stack ≡ length s.stack
    on sides.Beginning f = same_length (length s.stack) _ s' refl f
    on sides.Heading f = absurd cc
    on sides.Left f = absurd cc
    on (sides.Equals l) f = absurd cc
    on (sides.Right l) f = absurd cc
    on sides.Semicolon f = absurd cc
put_profile_in_depth (f ∷ fs) s s' h e = absurd cc

-- the closing mark closes one
mark_in_depth : (fs : List Frame) (t : Token) (s s' : State) → s.stack ≡ fs → mark_in fs t s ≡ Some s' → length s'.stack + closings t ≡ length fs
mark_in_depth [] t s s' h e = on s.side t e
  where
    on : (x : Side) (u : Token) → with_side (mark_on x u) s ≡ Some s' → length s'.stack + closings u ≡ 0
    on sides.Heading semicolon f = omega (arith, same_length 0 _ s' (ap length h) f)
    on (sides.Equals l) equals f = omega (arith, same_length 0 _ s' (ap length h) f)
    on sides.Semicolon semicolon f = omega (arith, same_length 0 _ s' (ap length h) f)
    on sides.Heading u f = absurd cc
    on (sides.Equals l) u f = absurd cc
    on sides.Semicolon u f = absurd cc
    on sides.Beginning u f = absurd cc
    on sides.Left u f = absurd cc
    on (sides.Right l) u f = absurd cc
mark_in_depth (f ∷ fs) t s s' h e = at f.phase t e
  where
    at : (p : Phase) (u : Token) → with_stack (mark_at p u f.agent fs) s ≡ Some s' → length s'.stack + closings u ≡ length (f ∷ fs)
    at phases.Opening opening g = omega (arith, same_length (length (f ∷ fs)) _ s' refl g)
    at phases.Comma comma g = omega (arith, same_length (length (f ∷ fs)) _ s' refl g)
    at phases.Closing closing g = omega (arith, same_length (length fs) _ s' refl g)
    at phases.Opening u g = absurd cc
    at phases.First u g = absurd cc
    at phases.Comma u g = absurd cc
    at phases.Second u g = absurd cc
    at phases.Closing u g = absurd cc

-- one token more
step_depth : (s m : State) (o : ℕ) (t : Token) → step s o t ≡ Some m → length m.stack + closings t ≡ length s.stack + forks t
unfolding step
step_depth s m o (symbol k) e = omega (arith, symbol_depth k s m e)
step_depth s m o (name x) e = omega (arith, put_depth _ _ m e)
step_depth s m o opening e = omega (arith, mark_in_depth s.stack opening s m refl e)
step_depth s m o closing e = omega (arith, mark_in_depth s.stack closing s m refl e)
step_depth s m o comma e = omega (arith, mark_in_depth s.stack comma s m refl e)
step_depth s m o equals e = omega (arith, mark_in_depth s.stack equals s m refl e)
step_depth s m o semicolon e = omega (arith, mark_in_depth s.stack semicolon s m refl e)
step_depth s m o profile e = omega (arith, put_profile_in_depth s.stack s m refl e)
step_depth s m o stray e = omega (arith, mark_in_depth s.stack stray s m refl e)
step_depth s m o digit e = omega (arith, mark_in_depth s.stack digit s m refl e)
step_depth s m o bad e = omega (arith, mark_in_depth s.stack bad s m refl e)

-- all tokens
runs_depth : (is : List Item) (s m : State) → Runs s is m → (a b : ℕ) → length s.stack + b ≡ a
    → length m.stack + fold (λ n t. n + cond (is_closing t) 1 0) b (tokens_of is) ≡ fold (λ n t. n + cond (is_fork t) 1 0) a (tokens_of is)
runs_depth [] s m g a b h = let k = ap (λ (y : State). length y.stack) g in omega (arith, k, h)
runs_depth (i ∷ is) s m g a b h =
    runs_depth is g.0 m g.2 (a + cond (is_fork i.token) 1 0) (b + cond (is_closing i.token) 1 0) (omega (arith, step_depth s g.0 i.at i.token g.1, h))

-- as many symbols are open as the tokens say
pub depth_is : (is : List Item) (m : State) → Runs initial is m → depth (tokens_of is) ≡ length m.stack
depth_is is m g = omega (arith, runs_depth is initial m g 0 0 (omega arith))

-- ---- the fault stands where reading stops

-- why a token was refused
pub refused : (o : ℕ) (t : Token) (n : Option State) (f : Option Refusal) (g : Refusal) → judge o t n f ≡ Err g → ((n ≡ None) × (misplaced t o ≡ g)) ⊎ ((m : State) × (n ≡ Some m) × (f ≡ Some g))
refused o t None f g e = inl (refl, cc)
refused o t (Some m) None g e = absurd cc
refused o t (Some m) (Some f) g e = inr (m, refl, cc)

-- equal faults
pub some_refusal : (f g : Refusal) → Some f ≡ Some g → f ≡ g
some_refusal f g e = cc

-- what is known of the state in front of a token
record Front (text : List ℕ) (before : List Item) (m : State) (o : ℕ) (t : Token) : Type 0 where
  at : At text (tokens_of before) o t
  runs : Runs initial before m

-- a token that may not stand there
misplaced_stands : (text : List ℕ) (before : List Item) (m : State) (o : ℕ) (t : Token) → Front text before m o t → step m o t ≡ None → Stands text (misplaced t o)
misplaced_stands text before m o bad h e = (tokens_of before, h.at)
misplaced_stands text before m o (symbol k) h e = inl (tokens_of before, symbol k, h.at, no_front before m o (symbol k) h.runs e)
misplaced_stands text before m o (name x) h e = inl (tokens_of before, name x, h.at, no_front before m o (name x) h.runs e)
misplaced_stands text before m o opening h e = inl (tokens_of before, opening, h.at, no_front before m o opening h.runs e)
misplaced_stands text before m o closing h e = inl (tokens_of before, closing, h.at, no_front before m o closing h.runs e)
misplaced_stands text before m o comma h e = inl (tokens_of before, comma, h.at, no_front before m o comma h.runs e)
misplaced_stands text before m o equals h e = inl (tokens_of before, equals, h.at, no_front before m o equals h.runs e)
misplaced_stands text before m o semicolon h e = inl (tokens_of before, semicolon, h.at, no_front before m o semicolon h.runs e)
misplaced_stands text before m o profile h e = inl (tokens_of before, profile, h.at, no_front before m o profile h.runs e)
misplaced_stands text before m o stray h e = inl (tokens_of before, stray, h.at, no_front before m o stray h.runs e)
misplaced_stands text before m o digit h e = inl (tokens_of before, digit, h.at, no_front before m o digit h.runs e)

-- a name occurs as often as the table says
pub counted : (x : List ℕ) (before : List Item) (m : State) → Runs initial before m → occurs x (names (tokens_of before)) ≡ times x m.seen
counted x before m g = runs_fold (λ a y. a + cond (bytes_eq x y) 1 0) (times x) (λ y o ns. times_enter x y o ns) before initial m g

-- a token that passes a limit
over_stands : (text : List ℕ) (before : List Item) (m : State) (o : ℕ) (t : Token) (g : Refusal) → Front text before m o t → over m o t ≡ Some g → Stands text g
unfolding over
over_stands text before m o (symbol k) g h e = by_tests (leb MAX_START_AGENTS (length m.kinds)) (leb MAX_NESTING (length m.stack)) refl refl e
  where
    by_tests : (b c : Bool) → leb MAX_START_AGENTS (length m.kinds) ≡ b → leb MAX_NESTING (length m.stack) ≡ c → cond b (Some (TooManyAgents o)) (cond c (Some (TooNested o)) None) ≡ Some g → Stands text g
    by_tests true c p q f =
        let l : MAX_START_AGENTS ≤ length m.kinds = grind (arith, nat_tests) in
        subst (λ (r : Refusal). Stands text r) (some_refusal (TooManyAgents o) g f) (tokens_of before, k, h.at, rw (runs_symbols before initial m h.runs) l)
    by_tests false true p q f =
        let l : MAX_NESTING ≤ length m.stack = grind (arith, nat_tests) in
        subst (λ (r : Refusal). Stands text r) (some_refusal (TooNested o) g f) (tokens_of before, k, h.at, omega (arith, l, depth_is before m h.runs))
    by_tests false false p q f = absurd cc
over_stands text before m o (name x) g h e = by_tests (nat_lt MAX_NAME (length x)) (leb 2 (times x m.seen)) refl refl e
  where
    by_tests : (b c : Bool) → nat_lt MAX_NAME (length x) ≡ b → leb 2 (times x m.seen) ≡ c → cond b (Some (NameTooLong o)) (cond c (Some (Thrice o)) None) ≡ Some g → Stands text g
    by_tests true c p q f =
        let l : MAX_NAME < length x = grind (arith, nat_tests) in
        subst (λ (r : Refusal). Stands text r) (some_refusal (NameTooLong o) g f) (tokens_of before, x, h.at, l)
    by_tests false true p q f =
        let l : 2 ≤ times x m.seen = grind (arith, nat_tests) in
        subst (λ (r : Refusal). Stands text r) (some_refusal (Thrice o) g f) (tokens_of before, x, h.at, omega (arith, l, counted x before m h.runs))
    by_tests false false p q f = absurd cc
over_stands text before m o opening g h e = absurd cc
over_stands text before m o closing g h e = absurd cc
over_stands text before m o comma g h e = absurd cc
over_stands text before m o equals g h e = absurd cc
over_stands text before m o semicolon g h e = absurd cc
over_stands text before m o profile g h e = absurd cc
over_stands text before m o stray g h e = absurd cc
over_stands text before m o digit g h e = absurd cc
over_stands text before m o bad g h e = absurd cc

-- a fault at a token stands there
pub token_stands : (text : List ℕ) (f : Refusal) → run initial (items between 0 text) ≡ Err f → Stands text f
unfolding advance
token_stands text f e =
    let q = fault_at (items between 0 text) initial f e in
    let front : Front text q.before q.at q.item.at q.item.token =
    record { at = record { before = q.before; rest = q.rest; parts = q.parts; front_is = refl }; runs = runs q.before initial q.at q.went } in
    elim (refused q.item.at q.item.token (step q.at q.item.at q.item.token) (over q.at q.item.at q.item.token) f q.fails) [
      | inl n ↦ subst (λ (r : Refusal). Stands text r) n.1 (misplaced_stands text q.before q.at q.item.at q.item.token front n.0)
      | inr n ↦ over_stands text q.before q.at q.item.at q.item.token f front n.2
    ]
