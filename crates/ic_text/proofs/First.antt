-- No fault stands in front of the one that is answered.
use Rattle.ic_name.specs.declared.limits.TheConstants.{MAX_START_AGENTS}
use Rattle.ic_text.specs.declared.grammar.limits.TheConstants.{MAX_NAME, MAX_NESTING}
use Rattle.std.specs.Prelude.{nat_lt}
use Rattle.std.proofs.Common.{◌≡◌, ℕ, ◌≤◌, ◌<◌, ◌⊎◌, Bool, true, false, cond, List, [], ◌∷◌, ◌++◌, length, Some, None, Ok, Err, refl, sym, ap, subst, ◌∙◌, arith, inl, inr, leb}
use Rattle.std.proofs.lemmas.List.{map-append}
use Rattle.std.proofs.lemmas.Bool.Decides.{nat_tests}
use Rattle.ic_name.specs.declared.kinds.Kind.{Kind}
use Rattle.ic_text.specs.declared.grammar.refusal.Refusal.{Refusal}
use Rattle.ic_text.specs.declared.grammar.refusal.Refusal.TheVariants.{TooLong, BadByte, Syntax, NameTooLong, Thrice, TooManyAgents, TooNested, ReservedFree, TooManyFree}
use Rattle.ic_text.specs.declared.builder.Phase.{Phase}
use Rattle.ic_text.specs.declared.builder.Phase.TheVariants as phases
use Rattle.ic_text.specs.declared.builder.Frame.{Frame}
use Rattle.ic_text.specs.Sides.{Side}
use Rattle.ic_text.specs.Sides as sides
use Rattle.ic_text.specs.Tokens.{Token, symbol, name, opening, closing, comma, equals, semicolon, profile, stray, digit, bad, between, Item, items}
use Rattle.ic_text.specs.Names.{times}
use Rattle.ic_text.specs.Grammar.{symbols, names, occurs}
use Rattle.ic_text.specs.Faults.{At, IsFront, depth, code}
use Rattle.ic_text.specs.Reading.{State, initial, step, over, advance, run, misplaced, mark_at, mark_on, mark_in, with_stack, with_side}
use Rattle.ic_text.proofs.Steps.{advance_ok}
use Rattle.ic_text.proofs.Sound.{Runs, runs, runs_symbols, tokens_of}
use Rattle.ic_text.proofs.Standing.{passed, is_front, counted, depth_is, refused, some_refusal}
use Rattle.ic_text.proofs.Offsets.{IsAbove, items_above, earlier, same_place}
use Rattle.std.proofs.lemmas.Bool.{cases_lt}

-- ---- what was passed has no fault

-- a bad byte is no mark
bad_in : (fs : List Frame) (s m : State) → mark_in fs bad s ≡ Some m → ⊥
bad_in [] s m e = on s.side e
  where
    on : (x : Side) → with_side (mark_on x bad) s ≡ Some m → ⊥
    on sides.Beginning f = absurd cc
    on sides.Heading f = absurd cc
    on sides.Left f = absurd cc
    on (sides.Equals l) f = absurd cc
    on (sides.Right l) f = absurd cc
    on sides.Semicolon f = absurd cc
bad_in (f ∷ fs) s m e = at f.phase e
  where
    at : (p : Phase) → with_stack (mark_at p bad f.agent fs) s ≡ Some m → ⊥
    at phases.Opening g = absurd cc
    at phases.First g = absurd cc
    at phases.Comma g = absurd cc
    at phases.Second g = absurd cc
    at phases.Closing g = absurd cc

-- a bad byte is never taken
bad_step : (s m : State) (o : ℕ) → step s o bad ≡ Some m → ⊥
unfolding step
bad_step s m o e = bad_in s.stack s m e

-- what a fault says of the token at which it stands
abbrev pub Local : Refusal → List Token → Token → Type 0
Local (BadByte o) front t = t ≡ bad
Local (Syntax o) front t = IsFront (front ++ t ∷ []) → ⊥
Local (NameTooLong o) front t = (x : List ℕ) × (t ≡ name x) × (MAX_NAME < length x)
Local (Thrice o) front t = (x : List ℕ) × (t ≡ name x) × (2 ≤ occurs x (names front))
Local (TooManyAgents o) front t = (k : Kind) × (t ≡ symbol k) × (MAX_START_AGENTS ≤ length (symbols front))
Local (TooNested o) front t = (k : Kind) × (t ≡ symbol k) × (MAX_NESTING ≤ depth front)
Local _ front t = ⊥

-- a name that was taken is within the limits
within_name : (m : State) (o : ℕ) (x : List ℕ) → over m o (name x) ≡ None → (length x ≤ MAX_NAME) × (times x m.seen < 2)
unfolding over
within_name m o x e = by_tests (nat_lt MAX_NAME (length x)) (leb 2 (times x m.seen)) refl refl e
  where
    by_tests : (b c : Bool) → nat_lt MAX_NAME (length x) ≡ b → leb 2 (times x m.seen) ≡ c → cond b (Some (NameTooLong o)) (cond c (Some (Thrice o)) None) ≡ None → (length x ≤ MAX_NAME) × (times x m.seen < 2)
    by_tests true c p q f = absurd cc
    by_tests false true p q f = absurd cc
    by_tests false false p q f = ((grind (arith, nat_tests)), (grind (arith, nat_tests)))

-- a symbol that was taken is within the limits
within_symbol : (m : State) (o : ℕ) (k : Kind) → over m o (symbol k) ≡ None → (length m.kinds < MAX_START_AGENTS) × (length m.stack < MAX_NESTING)
unfolding over
within_symbol m o k e = by_tests (leb MAX_START_AGENTS (length m.kinds)) (leb MAX_NESTING (length m.stack)) refl refl e
  where
    by_tests : (b c : Bool) → leb MAX_START_AGENTS (length m.kinds) ≡ b → leb MAX_NESTING (length m.stack) ≡ c → cond b (Some (TooManyAgents o)) (cond c (Some (TooNested o)) None) ≡ None → (length m.kinds < MAX_START_AGENTS) × (length m.stack < MAX_NESTING)
    by_tests true c p q f = absurd cc
    by_tests false true p q f = absurd cc
    by_tests false false p q f = ((grind (arith, nat_tests)), (grind (arith, nat_tests)))

-- one step more
runs_one : (before : List Item) (s m n : State) (i : Item) → Runs s before m → step m i.at i.token ≡ Some n → Runs s (before ++ i ∷ []) n
runs_one [] s m n i g e = (n, ap (λ (y : State). step y i.at i.token) g ∙ e, refl)
runs_one (j ∷ before) s m n i g e = (g.0, g.1, runs_one before g.0 m n i g.2 e)

-- a token that was taken has no fault
pub clear : (before : List Item) (m n : State) (i : Item) → Runs initial before m → advance m i.at i.token ≡ Ok n → (g : Refusal) → Local g (tokens_of before) i.token → ⊥
clear before m n i r e (BadByte o) h =
    bad_step m n i.at (rw (← h) ((advance_ok m n i.at i.token e).0))
clear before m n i r e (Syntax o) h =
    h (subst (λ (ts : List Token). IsFront ts) (map-append (λ (x : Item). x.token) before (i ∷ [])) (is_front (before ++ i ∷ []) n (runs_one before initial m n i r (advance_ok m n i.at i.token e).0)))
clear before m n i r e (NameTooLong o) h =
    let a = within_name m i.at h.0 (ap (over m i.at) (sym h.1) ∙ (advance_ok m n i.at i.token e).1) in omega (arith, a.0, h.2)
clear before m n i r e (Thrice o) h =
    let a = within_name m i.at h.0 (ap (over m i.at) (sym h.1) ∙ (advance_ok m n i.at i.token e).1) in omega (arith, a.1, h.2, counted h.0 before m r)
clear before m n i r e (TooManyAgents o) h =
    let a = within_symbol m i.at h.0 (ap (over m i.at) (sym h.1) ∙ (advance_ok m n i.at i.token e).1) in
    let k = ap length (runs_symbols before initial m r) in omega (arith, a.0, h.2, k)
clear before m n i r e (TooNested o) h =
    let a = within_symbol m i.at h.0 (ap (over m i.at) (sym h.1) ∙ (advance_ok m n i.at i.token e).1) in omega (arith, a.1, h.2, depth_is before m r)
clear before m n i r e TooLong h = h
clear before m n i r e (ReservedFree o) h = h
clear before m n i r e TooManyFree h = h

-- a fault at a token of what was read whole
pub none_within : (text : List ℕ) (s : State) → run initial (items between 0 text) ≡ Ok s → (g : Refusal) (front : List Token) (o : ℕ) (t : Token) → At text front o t → Local g front t → ⊥
none_within text s e g front o t a l =
    let p = passed a.before (record { at = o; token = t }) a.rest initial s (ap (run initial) (sym a.parts) ∙ e) in
    clear a.before p.at p.after (record { at = o; token = t }) (runs a.before initial p.at p.went) p.takes g (subst (λ (ts : List Token). Local g ts t) (sym a.front_is) l)

-- a fault at a token in front of the one at which reading stops
pub none_before : (text : List ℕ) (before rest : List Item) (i : Item) (m : State) → items between 0 text ≡ before ++ i ∷ rest → run initial before ≡ Ok m
    → (g : Refusal) (front : List Token) (o : ℕ) (t : Token) → At text front o t → Local g front t → o < i.at → ⊥
none_before text before rest i m parts went g front o t a l lt =
    let j : Item = record { at = o; token = t } in
    let above : IsAbove 0 (a.before ++ j ∷ a.rest) = subst (λ (is : List Item). IsAbove 0 is) a.parts (items_above between 0 text) in
    let d = earlier 0 a.before j a.rest before i rest above (sym a.parts ∙ parts) lt in
    let p = passed a.before j d.0 initial m (ap (run initial) (sym d.1) ∙ went) in
    clear a.before p.at p.after j (runs a.before initial p.at p.went) p.takes g (subst (λ (ts : List Token). Local g ts t) (sym a.front_is) l)

-- the number of a fault of a name
name_code : (m : State) (o : ℕ) (x : List ℕ) (f : Refusal) → over m o (name x) ≡ Some f → (code f ≤ 5) × (MAX_NAME < length x → code f ≤ 4)
unfolding over
name_code m o x f e = by_tests (nat_lt MAX_NAME (length x)) (leb 2 (times x m.seen)) refl e
  where
    by_tests : (b c : Bool) → nat_lt MAX_NAME (length x) ≡ b → cond b (Some (NameTooLong o)) (cond c (Some (Thrice o)) None) ≡ Some f → (code f ≤ 5) × (MAX_NAME < length x → code f ≤ 4)
    by_tests true c p q = let k : 4 ≡ code f = ap code (some_refusal (NameTooLong o) f q) in ((omega (arith, k)), (λ _. omega (arith, k)))
    by_tests false true p q = let k : 5 ≡ code f = ap code (some_refusal (Thrice o) f q) in ((omega (arith, k)), (λ lt. absurd (let z : length x ≤ MAX_NAME = grind (arith, nat_tests) in omega (arith, z, lt))))
    by_tests false false p q = absurd cc

-- the number of a fault of a symbol
symbol_code : (m : State) (o : ℕ) (k : Kind) (f : Refusal) → over m o (symbol k) ≡ Some f → (code f ≤ 7) × (MAX_START_AGENTS ≤ length m.kinds → code f ≤ 6)
unfolding over
symbol_code m o k f e = by_tests (leb MAX_START_AGENTS (length m.kinds)) (leb MAX_NESTING (length m.stack)) refl e
  where
    by_tests : (b c : Bool) → leb MAX_START_AGENTS (length m.kinds) ≡ b → cond b (Some (TooManyAgents o)) (cond c (Some (TooNested o)) None) ≡ Some f → (code f ≤ 7) × (MAX_START_AGENTS ≤ length m.kinds → code f ≤ 6)
    by_tests true c p q = let n : 6 ≡ code f = ap code (some_refusal (TooManyAgents o) f q) in ((omega (arith, n)), (λ _. omega (arith, n)))
    by_tests false true p q = let n : 7 ≡ code f = ap code (some_refusal (TooNested o) f q) in ((omega (arith, n)), (λ le. absurd (let z : length m.kinds < MAX_START_AGENTS = grind (arith, nat_tests) in omega (arith, z, le))))
    by_tests false false p q = absurd cc

-- the number of a fault of a token that may not stand there
misplaced_code : (t : Token) (o : ℕ) → code (misplaced t o) ≤ 3
misplaced_code bad o = omega arith
misplaced_code (symbol k) o = omega arith
misplaced_code (name x) o = omega arith
misplaced_code opening o = omega arith
misplaced_code closing o = omega arith
misplaced_code comma o = omega arith
misplaced_code equals o = omega arith
misplaced_code semicolon o = omega arith
misplaced_code profile o = omega arith
misplaced_code stray o = omega arith
misplaced_code digit o = omega arith

-- at one token the least number is answered
pub least_code : (before : List Item) (m : State) (i : Item) (f : Refusal) → Runs initial before m → advance m i.at i.token ≡ Err f → (g : Refusal) → Local g (tokens_of before) i.token → code f ≤ code g
unfolding advance
least_code before m i f r e g h =
    elim (refused i.at i.token (step m i.at i.token) (over m i.at i.token) f e) [
      | inl n ↦ early g h n.1
      | inr n ↦ late g h n.0 n.1 n.2
    ]
  where
    early : (g : Refusal) → Local g (tokens_of before) i.token → misplaced i.token i.at ≡ f → code f ≤ code g
    early (BadByte o) h e = let k : code (misplaced bad i.at) ≡ code f = ap (λ (t : Token). code (misplaced t i.at)) (sym h) ∙ ap code e in omega (arith, k)
    early (Syntax o) h e = omega (arith, misplaced_code i.token i.at, ap code e)
    early (NameTooLong o) h e = omega (arith, misplaced_code i.token i.at, ap code e)
    early (Thrice o) h e = omega (arith, misplaced_code i.token i.at, ap code e)
    early (TooManyAgents o) h e = omega (arith, misplaced_code i.token i.at, ap code e)
    early (TooNested o) h e = omega (arith, misplaced_code i.token i.at, ap code e)
    early TooLong h e = absurd h
    early (ReservedFree o) h e = absurd h
    early TooManyFree h e = absurd h

    late : (g : Refusal) → Local g (tokens_of before) i.token → (n : State) → step m i.at i.token ≡ Some n → over m i.at i.token ≡ Some f → code f ≤ code g
    late (BadByte o) h n s e = absurd (bad_step m n i.at (rw (← h) s))
    late (Syntax o) h n s e = absurd (h (subst (λ (ts : List Token). IsFront ts) (map-append (λ (x : Item). x.token) before (i ∷ [])) (is_front (before ++ i ∷ []) n (runs_one before initial m n i r s))))
    late (NameTooLong o) h n s e = (name_code m i.at h.0 f (ap (over m i.at) (sym h.1) ∙ e)).1 h.2
    late (Thrice o) h n s e = (name_code m i.at h.0 f (ap (over m i.at) (sym h.1) ∙ e)).0
    late (TooManyAgents o) h n s e = (symbol_code m i.at h.0 f (ap (over m i.at) (sym h.1) ∙ e)).1 (let k = ap length (runs_symbols before initial m r) in omega (arith, h.2, k))
    late (TooNested o) h n s e = (symbol_code m i.at h.0 f (ap (over m i.at) (sym h.1) ∙ e)).0
    late TooLong h n s e = absurd h
    late (ReservedFree o) h n s e = absurd h
    late TooManyFree h n s e = absurd h

-- a fault at any token stands behind the place at which reading stops, or there with no lesser number
pub least : (text : List ℕ) (before rest : List Item) (i : Item) (m : State) (f : Refusal) → items between 0 text ≡ before ++ i ∷ rest → run initial before ≡ Ok m → advance m i.at i.token ≡ Err f
    → (g : Refusal) (front : List Token) (o : ℕ) (t : Token) → At text front o t → Local g front t → (i.at < o) ⊎ ((i.at ≡ o) × (code f ≤ code g))
least text before rest i m f parts went fails g front o t a l =
    elim (cases_lt i.at o) [
      | inl lt ↦ inl lt
      | inr le ↦ elim (cases_lt o i.at) [
        | inl lt ↦ absurd (none_before text before rest i m parts went g front o t a l lt)
        | inr ge ↦ inr (at_same (omega arith))
      ]
    ]
  where
    at_same : i.at ≡ o → (i.at ≡ o) × (code f ≤ code g)
    at_same e =
        let j : Item = record { at = o; token = t } in
        let above : IsAbove 0 (before ++ i ∷ rest) = subst (λ (is : List Item). IsAbove 0 is) parts (items_above between 0 text) in
        let d = same_place 0 before i rest a.before j a.rest above (sym parts ∙ a.parts) e in
        let token : i.token ≡ t = ap (λ (x : Item). x.token) d.1 in
        let fronts : tokens_of before ≡ front = ap tokens_of d.0 ∙ a.front_is in
        let here : Local g (tokens_of before) i.token = subst (λ (u : Token). Local g (tokens_of before) u) (sym token) (subst (λ (ts : List Token). Local g ts t) (sym fronts) l) in
        (e, least_code before m i f (runs before initial m went) fails g here)
