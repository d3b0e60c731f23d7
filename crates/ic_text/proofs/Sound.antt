-- What is read is what the text denotes.
use Rattle.ic_text.specs.declared.grammar.limits.TheConstants.{MAX_TEXT, MAX_FREE_NAMES, MAX_NAME}
use Rattle.std.specs.Prelude.{nat_lt}
use Rattle.std.proofs.Common.{◌≡◌, ℕ, suc, ◌+◌, ◌≤◌, ◌<◌, Bool, true, false, cond, List, [], ◌∷◌, ◌++◌, length, Option, Some, None, Result, Ok, Err, refl, sym, ap, subst, ◌∙◌, arith, add-one, append_assoc, leb, eqb, ◌&&◌}
use Rattle.std.proofs.lemmas.Bool.Decides.{nat_tests}
use Rattle.ic_text.specs.declared.grammar.refusal.Refusal.TheVariants.{TooLong, Syntax, NameTooLong, Thrice, TooManyFree}
use Rattle.std.specs.Prelude.{map, count_by, unwrap_or, find, IfOk}
use Rattle.std.specs.List.{fold, position_or_len}
use Rattle.std.specs.Str.{bytes_eq}
use Rattle.std.proofs.lemmas.Slice.Eq.{bytes_eq-Decides}
use Rattle.std.proofs.lemmas.List.{append-nil}
use Rattle.ic_name.specs.declared.kinds.Kind.{Kind}
use Rattle.ic_name.specs.declared.ports.Port.{Port}
use Rattle.ic_text.specs.declared.grammar.refusal.Refusal.{Refusal}
use Rattle.ic_text.specs.declared.builder.Frame.{Frame}
use Rattle.ic_text.specs.Sides.{Side}
use Rattle.ic_text.specs.Sides as sides
use Rattle.ic_text.specs.declared.fault.TextFault.{TextFault}
use Rattle.ic_text.specs.Tokens.{Token, symbol, name, opening, closing, comma, equals, semicolon, profile, stray, digit, bad, Item, items, between}
use Rattle.ic_text.specs.Names.{Entry, enter, number, place, times, next, is_free, is_reserved_free}
use Rattle.ic_text.specs.Texts.{is_reserved}
use Rattle.ic_theory.specs.Starts.{Start}
use Rattle.ic_name.specs.declared.rules.Profile.{Profile}
use Rattle.ic_name.specs.declared.rules.Profile.TheVariants.{Classic, Straight}
use Rattle.ic_text.specs.Grammar.{eps, Equation, equation_tokens, text_of, text_links, symbols, names, add, distinct, occurs, AreNames, Denotes, start_of}
use Rattle.ic_text.specs.Reading.{◌>>=◌, State, initial, step, over, advance, run, is_at_rest, finish, finish_names, read_of, Gives}
use Rattle.ic_text.proofs.Headings.{heading_names, heading_symbols}
use Rattle.ic_text.proofs.Steps.{step_adds, advance_ok, kinds_with, seen_with}
use Rattle.ic_text.proofs.Table.{next_some}
use Rattle.ic_text.proofs.Pending.{over_profile, Comes, Agrees, step_back}

-- the steps along tokens
abbrev pub Runs : State → List Item → State → Type 0
Runs s [] s' = s ≡ s'
Runs s (i ∷ is) s' = (m : State) × (step s i.at i.token ≡ Some m) × Runs m is s'

-- both parts went well
pub bind_ok : {A B : Type 0} (r : Result A Refusal) (f : A → Result B Refusal) (y : B) → (r >>= f) ≡ Ok y → (x : A) × (r ≡ Ok x) × (f x ≡ Ok y)
bind_ok (Ok x) f y e = (x, refl, e)
bind_ok (Err d) f y e = absurd cc

-- a value
abbrev pub done : {A : Type 0} → A → Result A Refusal
done x = Ok x

-- equal values
pub ok_is : {A : Type 0} (x y : A) → done x ≡ done y → x ≡ y
ok_is x y e = cc

-- where reading goes well, there are the steps
pub runs : (is : List Item) (s s' : State) → run s is ≡ Ok s' → Runs s is s'
unfolding run
runs [] s s' e = ok_is s s' e
runs (i ∷ is) s s' e =
    let b = bind_ok (advance s i.at i.token) (λ m. run m is) s' e in
    (b.0, (advance_ok s b.0 i.at i.token b.1).0, runs is b.0 s' b.2)

-- a name keeps its number
place_entered : (x : List ℕ) (o : ℕ) (ns : List Entry) → place x (enter x o ns) ≡ Some (number x ns)
place_entered x o [] = rw ((bytes_eq-Decides x x).1 refl) refl
place_entered x o (n ∷ ns) = by_test (bytes_eq x n.text) refl (place_entered x o ns)
  where
    one_more : (p : Option ℕ) (k : ℕ) → next (Some (unwrap_or p k)) ≡ Some (unwrap_or (next p) (suc k))
    one_more None k = ap Some (add-one k)
    one_more (Some i) k = refl

    by_test : (b : Bool) → bytes_eq x n.text ≡ b → place x (enter x o ns) ≡ Some (number x ns) → place x (enter x o (n ∷ ns)) ≡ Some (number x (n ∷ ns))
    by_test true e ih = rw e (rw e refl)
    by_test false e ih = rw e (rw (e, ih) (one_more (place x ns) (length ns)))

-- other names keep theirs
place_stays : (x y : List ℕ) (o i : ℕ) (ns : List Entry) → place x ns ≡ Some i → place x (enter y o ns) ≡ Some i
place_stays x y o i [] h = absurd cc
place_stays x y o i (n ∷ ns) h = by_tests (bytes_eq y n.text) (bytes_eq x n.text) refl (λ j. place_stays x y o j ns)
  where
    at_next : (p : Option ℕ) → next p ≡ Some i → ((j : ℕ) → p ≡ Some j → place x (enter y o ns) ≡ Some j) → next (place x (enter y o ns)) ≡ Some i
    at_next p e f = let k = next_some p i e in ap next (f k.0 k.1) ∙ ap Some (sym k.2)

    by_tests : (b c : Bool) → bytes_eq x n.text ≡ c → ((j : ℕ) → place x ns ≡ Some j → place x (enter y o ns) ≡ Some j) → place x (cond b (record n { times = n.times + 1 } ∷ ns) (n ∷ enter y o ns)) ≡ Some i
    by_tests true c e ih = h
    by_tests false true e ih = rw e (rw e at h)
    by_tests false false e ih = rw e (at_next (place x ns) (rw e at h) ih)

-- so do they at one token more
seen_stays : (x : List ℕ) (i o : ℕ) (t : Token) (ns : List Entry) → place x ns ≡ Some i → place x (seen_with t o ns) ≡ Some i
seen_stays x i o (name y) ns h = place_stays x y o i ns h
seen_stays x i o (symbol k) ns h = h
seen_stays x i o opening ns h = h
seen_stays x i o closing ns h = h
seen_stays x i o comma ns h = h
seen_stays x i o equals ns h = h
seen_stays x i o semicolon ns h = h
seen_stays x i o profile ns h = h
seen_stays x i o stray ns h = h
seen_stays x i o digit ns h = h
seen_stays x i o bad ns h = h

-- and at all tokens
runs_stay : (x : List ℕ) (i : ℕ) (is : List Item) (s s' : State) → Runs s is s' → place x s.seen ≡ Some i → place x s'.seen ≡ Some i
runs_stay x i [] s s' r h = ap (λ (y : State). place x y.seen) (sym r) ∙ h
runs_stay x i (j ∷ is) s s' r h = runs_stay x i is r.0 s' r.2 (ap (place x) (step_adds s r.0 j.at j.token r.1).seen ∙ seen_stays x i j.at j.token s.seen h)

-- the numbers of the names in the end
abbrev pub numbers : State → List ℕ → ℕ
numbers s x = number x s.seen

-- the number of a name when it comes is the one in the end
agrees : (o : ℕ) (t : Token) (is : List Item) (s m s' : State) → step s o t ≡ Some m → Runs m is s' → Agrees (numbers s') t s.seen
agrees o (name x) is s m s' e r =
    let here : place x m.seen ≡ Some (number x s.seen) = ap (place x) (step_adds s m o (name x) e).seen ∙ place_entered x o s.seen in
    ap (λ (p : Option ℕ). unwrap_or p (length s'.seen)) (runs_stay x (number x s.seen) is m s' r here)
agrees o (symbol k) is s m s' e r = tt
agrees o opening is s m s' e r = tt
agrees o closing is s m s' e r = tt
agrees o comma is s m s' e r = tt
agrees o equals is s m s' e r = tt
agrees o semicolon is s m s' e r = tt
agrees o profile is s m s' e r = tt
agrees o stray is s m s' e r = tt
agrees o digit is s m s' e r = tt
agrees o bad is s m s' e r = tt

-- the tokens without their offsets
abbrev pub tokens_of : List Item → List Token
tokens_of is = map (λ i. i.token) is

-- what comes before tokens that are read is those tokens and what comes behind them
pub runs_back : (is : List Item) (s s' : State) → Runs s is s' → (ts : List Token) (ls : List (Port × Port)) (q : Profile) → Comes (numbers s') (length s'.kinds) s' ts ls q
    → Comes (numbers s') (length s.kinds) s (tokens_of is ++ ts) ls q
runs_back [] s s' r ts ls q c = subst (λ (y : State). Comes (numbers s') (length y.kinds) y ts ls q) (sym r) c
runs_back (i ∷ is) s s' r ts ls q c =
    let a = agrees i.at i.token is s r.0 s' r.1 r.2 in
    let d = runs_back is r.0 s' r.2 ts ls q c in
    step_back (numbers s') s r.0 i.at i.token a r.1 (tokens_of is ++ ts) ls q d

-- a fold over the names so far is one over the names of the tokens
step_fold : {B : Type 0} (f : B → List ℕ → B) (F : List Entry → B) → ((x : List ℕ) (o : ℕ) (ns : List Entry) → F (enter x o ns) ≡ f (F ns) x)
    → (t : Token) (o : ℕ) (ns : List Entry) (ts : List Token) → fold f (F ns) (names (t ∷ ts)) ≡ fold f (F (seen_with t o ns)) (names ts)
step_fold f F h (name x) o ns ts = ap (λ b. fold f b (names ts)) (sym (h x o ns))
step_fold f F h (symbol k) o ns ts = refl
step_fold f F h opening o ns ts = refl
step_fold f F h closing o ns ts = refl
step_fold f F h comma o ns ts = refl
step_fold f F h equals o ns ts = refl
step_fold f F h semicolon o ns ts = refl
step_fold f F h profile o ns ts = refl
step_fold f F h stray o ns ts = refl
step_fold f F h digit o ns ts = refl
step_fold f F h bad o ns ts = refl

-- the same of all tokens
pub runs_fold : {B : Type 0} (f : B → List ℕ → B) (F : List Entry → B) → ((x : List ℕ) (o : ℕ) (ns : List Entry) → F (enter x o ns) ≡ f (F ns) x)
    → (is : List Item) (s s' : State) → Runs s is s' → fold f (F s.seen) (names (tokens_of is)) ≡ F s'.seen
runs_fold f F h [] s s' r = ap (λ (y : State). F y.seen) r
runs_fold f F h (i ∷ is) s s' r =
    step_fold f F h i.token i.at s.seen (tokens_of is)
    ∙ ap (λ (ns : List Entry). fold f (F ns) (names (tokens_of is))) (sym (step_adds s r.0 i.at i.token r.1).seen)
    ∙ runs_fold f F h is r.0 s' r.2

-- one token more of the kinds
step_symbols : (t : Token) (ks : List Kind) (ts : List Token) → ks ++ symbols (t ∷ ts) ≡ kinds_with t ks ++ symbols ts
step_symbols (symbol k) ks ts = sym (append_assoc ks (k ∷ []) (symbols ts))
step_symbols (name x) ks ts = refl
step_symbols opening ks ts = refl
step_symbols closing ks ts = refl
step_symbols comma ks ts = refl
step_symbols equals ks ts = refl
step_symbols semicolon ks ts = refl
step_symbols profile ks ts = refl
step_symbols stray ks ts = refl
step_symbols digit ks ts = refl
step_symbols bad ks ts = refl

-- the kinds are those of the symbols
pub runs_symbols : (is : List Item) (s s' : State) → Runs s is s' → s.kinds ++ symbols (tokens_of is) ≡ s'.kinds
runs_symbols [] s s' r = append-nil s.kinds ∙ ap (λ (y : State). y.kinds) r
runs_symbols (i ∷ is) s s' r =
    step_symbols i.token s.kinds (tokens_of is)
    ∙ ap (λ (ks : List Kind). ks ++ symbols (tokens_of is)) (sym (step_adds s r.0 i.at i.token r.1).kinds)
    ∙ runs_symbols is r.0 s' r.2

-- the texts, the numbers and the counts of the names so far
abbrev pub texts : List Entry → List (List ℕ)
texts ns = map (λ n. n.text) ns

-- the texts after one occurrence more
pub texts_enter : (x : List ℕ) (o : ℕ) (ns : List Entry) → texts (enter x o ns) ≡ add x (texts ns)
texts_enter x o [] = refl
texts_enter x o (n ∷ ns) = by_test (bytes_eq x n.text) (texts_enter x o ns)
  where
    by_test : (b : Bool) → texts (enter x o ns) ≡ add x (texts ns) → texts (cond b (record n { times = n.times + 1 } ∷ ns) (n ∷ enter x o ns)) ≡ cond b (n.text ∷ texts ns) (n.text ∷ add x (texts ns))
    by_test true ih = refl
    by_test false ih = ap (λ (w : List (List ℕ)). n.text ∷ w) ih

-- a name has its place among the texts as number
number_is : (x : List ℕ) (ns : List Entry) → number x ns ≡ position_or_len (bytes_eq x) (texts ns)
number_is x [] = refl
number_is x (n ∷ ns) = by_test (bytes_eq x n.text) refl (number_is x ns)
  where
    one_more : (p : Option ℕ) (k : ℕ) → unwrap_or (next p) (suc k) ≡ 1 + unwrap_or p k
    one_more None k = omega arith
    one_more (Some i) k = omega arith

    by_test : (b : Bool) → bytes_eq x n.text ≡ b → number x ns ≡ position_or_len (bytes_eq x) (texts ns) → number x (n ∷ ns) ≡ position_or_len (bytes_eq x) (texts (n ∷ ns))
    by_test true e ih = rw e refl
    by_test false e ih = rw e (one_more (place x ns) (length ns) ∙ ap (λ (k : ℕ). 1 + k) ih)

-- the counts after one occurrence more
pub times_enter : (x y : List ℕ) (o : ℕ) (ns : List Entry) → times x (enter y o ns) ≡ times x ns + cond (bytes_eq x y) 1 0
times_enter x y o [] = by_test (bytes_eq x y)
  where
    by_test : (b : Bool) → cond b 1 0 ≡ 0 + cond b 1 0
    by_test true = refl
    by_test false = refl
times_enter x y o (n ∷ ns) = by_tests (bytes_eq y n.text) (bytes_eq x n.text) refl refl (times_enter x y o ns)
  where
    same_as : bytes_eq y n.text ≡ true → bytes_eq x y ≡ bytes_eq x n.text
    same_as e = ap (bytes_eq x) ((bytes_eq-Decides y n.text).0 e)

    apart : (b : Bool) → bytes_eq x y ≡ b → bytes_eq y n.text ≡ false → bytes_eq x n.text ≡ true → b ≡ false
    apart false e f g = refl
    apart true e f g =
        let h : bytes_eq x n.text ≡ bytes_eq y n.text = ap (λ (w : List ℕ). bytes_eq w n.text) ((bytes_eq-Decides x y).0 e) in
        let k : true ≡ false = sym g ∙ h ∙ f in absurd cc

    by_tests : (b c : Bool) → bytes_eq y n.text ≡ b → bytes_eq x n.text ≡ c → times x (enter y o ns) ≡ times x ns + cond (bytes_eq x y) 1 0 → times x (cond b (record n { times = n.times + 1 } ∷ ns) (n ∷ enter y o ns)) ≡ times x (n ∷ ns) + cond (bytes_eq x y) 1 0
    by_tests true true e f ih = rw (same_as e) (rw f refl)
    by_tests true false e f ih = rw (same_as e) (rw f (omega arith))
    by_tests false true e f ih = rw (apart (bytes_eq x y) refl e f) (rw f (omega arith))
    by_tests false false e f ih = rw f ih

-- the end of a text
abbrev mk : List Kind → List (Port × Port) → List Entry → List Frame → Side → Profile → State
mk ks js ns fs x p = record { kinds = ks; joins = js; seen = ns; stack = fs; side = x; profile = p }

-- nothing is to come
pub end_in : (N : List ℕ → ℕ) (n : ℕ) (ks : List Kind) (js : List (Port × Port)) (ns : List Entry) (fs : List Frame) (x : Side) (p : Profile) → is_at_rest fs x ≡ true → Comes N n (mk ks js ns fs x p) [] js p
end_in N n ks js ns [] sides.Beginning p e = record { rest = (Classic, eps, []); tokens = refl; joins = append-nil js; profile = refl }
end_in N n ks js ns [] sides.Heading p e = absurd cc
end_in N n ks js ns [] sides.Left p e = record { rest = (Classic, eps, []); tokens = refl; joins = append-nil js; profile = refl }
end_in N n ks js ns [] (sides.Equals l) p e = absurd cc
end_in N n ks js ns [] (sides.Right l) p e = absurd cc
end_in N n ks js ns [] sides.Semicolon p e = absurd cc
end_in N n ks js ns (f ∷ fs) sides.Beginning p e = absurd cc
end_in N n ks js ns (f ∷ fs) sides.Heading p e = absurd cc
end_in N n ks js ns (f ∷ fs) sides.Left p e = absurd cc
end_in N n ks js ns (f ∷ fs) (sides.Equals l) p e = absurd cc
end_in N n ks js ns (f ∷ fs) (sides.Right l) p e = absurd cc
end_in N n ks js ns (f ∷ fs) sides.Semicolon p e = absurd cc

-- what a text that was read to its end had
pub record Finished (s : State) (st : Start) : Type 0 where
  pub at_rest : is_at_rest s.stack s.side ≡ true
  pub none : find is_reserved_free s.seen ≡ None
  pub few : count_by is_free s.seen ≤ MAX_FREE_NAMES
  pub start : st ≡ record { kinds = s.kinds; joins = s.joins; names = texts s.seen; profile = s.profile }

-- a guard that was passed
guarded : {A : Type 0} (b : Bool) (d : Refusal) (x : Result A Refusal) (y : A) → cond b x (Err d) ≡ Ok y → (b ≡ true) × (x ≡ Ok y)
guarded true d x y e = (refl, e)
guarded false d x y e = absurd cc

-- a limit that was not passed
guard_ok : {A : Type 0} (b : Bool) (d : Refusal) (x : Result A Refusal) (y : A) → cond b (Err d) x ≡ Ok y → (b ≡ false) × (x ≡ Ok y)
guard_ok true d x y e = absurd cc
guard_ok false d x y e = (refl, e)

-- no reserved name was found
none_reserved : (o : Option Entry) (s : State) (st : Start) → finish_names o s ≡ Ok st → o ≡ None
none_reserved None s st e = refl
none_reserved (Some n) s st e = absurd cc

-- how a text ended well
pub finished : (len : ℕ) (s : State) (st : Start) → finish len s ≡ Ok st → Finished s st
unfolding finish
finished len s st e =
    let a = guarded (is_at_rest s.stack s.side) (Syntax len) (finish_names (find is_reserved_free s.seen) s) st e in
    let n = none_reserved (find is_reserved_free s.seen) s st a.1 in
    let made : Start = record { kinds = s.kinds; joins = s.joins; names = texts s.seen; profile = s.profile } in
    let g = guard_ok (nat_lt MAX_FREE_NAMES (count_by is_free s.seen)) TooManyFree (Ok made) st (rw n at a.1) in
    record { at_rest = a.0; none = n; few = (let h = g.0 in grind (arith, nat_tests)); start = sym (ok_is made st g.1) }

-- no name so far occurs more than twice
name_below : (s : State) (o : ℕ) (x : List ℕ) → over s o (name x) ≡ None → times x s.seen < 2
unfolding over
name_below s o x e = by_tests (nat_lt MAX_NAME (length x)) (leb 2 (times x s.seen)) refl e
  where
    by_tests : (b c : Bool) → leb 2 (times x s.seen) ≡ c → cond b (Some (NameTooLong o)) (cond c (Some (Thrice o)) None) ≡ None → times x s.seen < 2
    by_tests true c f h = absurd cc
    by_tests false true f h = absurd cc
    by_tests false false f h = grind (arith, nat_tests)

-- nor after one token more
pub twice_step : (s : State) (o : ℕ) (t : Token) → over s o t ≡ None → ((x : List ℕ) → times x s.seen ≤ 2) → (x : List ℕ) → times x (seen_with t o s.seen) ≤ 2
twice_step s o (name y) e h x = by_test (bytes_eq x y) refl
  where
    by_test : (b : Bool) → bytes_eq x y ≡ b → times x (enter y o s.seen) ≤ 2
    by_test true f =
        let g : times x s.seen ≡ times y s.seen = ap (λ (w : List ℕ). times w s.seen) ((bytes_eq-Decides x y).0 f) in
        omega (arith, times_enter x y o s.seen, (rw f at (times_enter x y o s.seen)), name_below s o y e, g)
    by_test false f = omega (arith, (rw f at (times_enter x y o s.seen)), h x)
twice_step s o (symbol k) e h x = h x
twice_step s o opening e h x = h x
twice_step s o closing e h x = h x
twice_step s o comma e h x = h x
twice_step s o equals e h x = h x
twice_step s o semicolon e h x = h x
twice_step s o profile e h x = h x
twice_step s o stray e h x = h x
twice_step s o digit e h x = h x
twice_step s o bad e h x = h x

-- nor after all
twice : (is : List Item) (s s' : State) → run s is ≡ Ok s' → ((x : List ℕ) → times x s.seen ≤ 2) → (x : List ℕ) → times x s'.seen ≤ 2
unfolding run
twice [] s s' e h = λ x. let f = ap (λ (y : State). times x y.seen) (ok_is s s' e) in omega (arith, f, h x)
twice (i ∷ is) s s' e h =
    let b = bind_ok (advance s i.at i.token) (λ m. run m is) s' e in
    let a = advance_ok s b.0 i.at i.token b.1 in
    let seen = (step_adds s b.0 i.at i.token a.0).seen in
    twice is b.0 s' b.2 (λ x. rw seen (twice_step s i.at i.token a.1 h x))

-- a name that occurs once is not reserved
pub joints : (x : List ℕ) (ns : List Entry) → find is_reserved_free ns ≡ None → times x ns ≡ 1 → is_reserved x ≡ false
joints x [] e h = absurd (omega arith)
joints x (n ∷ ns) e h = by_test (bytes_eq x n.text) refl (is_reserved_free n) refl (joints x ns)
  where
    both : (b c : Bool) → b ≡ true → (b && c) ≡ false → c ≡ false
    both true c e f = f
    both false c e f = absurd cc

    by_test : (b : Bool) → bytes_eq x n.text ≡ b → (c : Bool) → is_reserved_free n ≡ c → (find is_reserved_free ns ≡ None → times x ns ≡ 1 → is_reserved x ≡ false) → is_reserved x ≡ false
    by_test b f true g ih = absurd (let k = rw g at e in cc)
    by_test true f false g ih =
        let one : n.times ≡ 1 = rw f at h in
        let free : eqb n.times 1 ≡ true = rw one refl in
        ap is_reserved ((bytes_eq-Decides x n.text).0 f) ∙ both (eqb n.times 1) (is_reserved n.text) free g
    by_test false f false g ih = ih (rw g at e) (rw f at h)

-- the start of a profile and equations, from what was read of their tokens
start_is : (p : Profile) (es : List Equation) (ks : List Kind) (js : List (Port × Port)) (ns : List Entry) (ts : List Token) → ts ≡ text_of p es → symbols ts ≡ ks → distinct (names ts) ≡ texts ns
    → text_links (λ x. number x ns) 0 es ≡ js → start_of p es ≡ record { kinds = ks; joins = js; names = texts ns; profile = p }
start_is p es ks js ns ts e k l j =
    let ke : symbols (equation_tokens es) ≡ ks = sym (heading_symbols p (equation_tokens es)) ∙ ap symbols (sym e) ∙ k in
    let ne : names (equation_tokens es) ≡ names ts = sym (heading_names p (equation_tokens es)) ∙ ap names (sym e) in
    let le : distinct (names (equation_tokens es)) ≡ texts ns = ap distinct ne ∙ l in
    let numbered : (λ (x : List ℕ). number x ns) ≡ (λ (x : List ℕ). position_or_len (bytes_eq x) (texts ns)) = λ i x. number_is x ns i in
    let je : text_links (λ x. position_or_len (bytes_eq x) (distinct (names (equation_tokens es)))) 0 es ≡ js =
    ap (λ (xs : List (List ℕ)). text_links (λ x. position_or_len (bytes_eq x) xs) 0 es) le
    ∙ ap (λ (N : List ℕ → ℕ). text_links N 0 es) (sym numbered) ∙ j in
    λ i. record { kinds = ke i; joins = je i; names = le i; profile = p }

-- where nothing has been read, the profile in the end is the one to come
read_profile : (p : Profile) → over_profile p Classic ≡ p
read_profile Classic = refl
read_profile Straight = refl

-- what tokens are read as is what they denote
pub record DenotesTokens (ts : List Token) (st : Start) : Type 0 where
  pub profile : Profile
  pub equations : List Equation
  pub grammar : ts ≡ text_of profile equations
  pub allowed : AreNames (names ts)
  pub start : st ≡ start_of profile equations

-- what tokens are read as is denoted
pub sound_tokens : (is : List Item) (s : State) (len : ℕ) (st : Start) → run initial is ≡ Ok s → finish len s ≡ Ok st → DenotesTokens (tokens_of is) st
sound_tokens is s len st e h =
    let f = finished len s st h in
    let r = runs is initial s e in
    let c = runs_back is initial s r [] s.joins s.profile (end_in (numbers s) (length s.kinds) s.kinds s.joins s.seen s.stack s.side s.profile f.at_rest) in
    let spelled : tokens_of is ≡ text_of c.rest.0 c.rest.2 = sym (append-nil (tokens_of is)) ∙ sym c.tokens in
    let counted : (x : List ℕ) → occurs x (names (tokens_of is)) ≡ times x s.seen = λ x. runs_fold (λ a y. a + cond (bytes_eq x y) 1 0) (times x) (λ y o ns. times_enter x y o ns) is initial s r in
    let listed : distinct (names (tokens_of is)) ≡ texts s.seen = runs_fold (λ ys x. add x ys) texts texts_enter is initial s r in
    let kinds : symbols (tokens_of is) ≡ s.kinds = runs_symbols is initial s r in
    let profiles : s.profile ≡ c.rest.0 = sym c.profile ∙ read_profile c.rest.0 in
    let made : st ≡ record { kinds = s.kinds; joins = s.joins; names = texts s.seen; profile = c.rest.0 } = f.start ∙ (λ i. record { kinds = s.kinds; joins = s.joins; names = texts s.seen; profile = profiles i }) in
    record {
      profile = c.rest.0;
      equations = c.rest.2;
      grammar = spelled;
      allowed = record {
        twice = λ x. omega (arith, counted x, twice is initial s e (λ y. omega arith) x);
        joints = λ x g. joints x s.seen f.none (sym (counted x) ∙ g);
      };
      start = made ∙ sym (start_is c.rest.0 c.rest.2 s.kinds s.joins s.seen (tokens_of is) spelled kinds listed c.joins);
    }

-- what is read is denoted
pub sound : (text : List ℕ) (st : Start) → read_of text ≡ Ok st → Denotes text st
unfolding read_of
sound text st e =
    let g = guard_ok (nat_lt MAX_TEXT (length text)) TooLong (run initial (items between 0 text) >>= finish (length text)) st e in
    let b = bind_ok (run initial (items between 0 text)) (finish (length text)) st g.1 in
    let d = sound_tokens (items between 0 text) b.0 (length text) st b.1 b.2 in
    record { profile = d.profile; equations = d.equations; grammar = d.grammar; allowed = d.allowed; start = d.start }

-- the same of what a function returned
pub found : (text : List ℕ) (r : Result Start TextFault) → Gives (λ s. s) r (read_of text) → IfOk r (λ s. Denotes text s)
found text (Ok s) given = sound text s given
found text (Err e) given = tt
