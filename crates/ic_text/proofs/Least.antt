-- What reading answers: the first fault of the text, and a start where there is none.
use Rattle.std.proofs.Common.{◌≡◌, ℕ, ◌≤◌, ◌<◌, ◌⊎◌, inl, inr, true, false, List, ◌∷◌, ◌++◌, length, Some, None, Result, Ok, Err, refl, sym, ap, subst, ◌∙◌, arith}
use Rattle.std.specs.Prelude.{count_by, find, IfOk}
use Rattle.std.proofs.lemmas.Bool.{cases_lt}
use Rattle.ic_name.specs.declared.rules.Profile.{Profile}
use Rattle.ic_theory.specs.Starts.{Start}
use Rattle.ic_text.specs.Texts.{is_reserved}
use Rattle.ic_text.specs.declared.grammar.limits.TheConstants.{MAX_TEXT, MAX_FREE_NAMES}
use Rattle.ic_text.specs.declared.grammar.refusal.Refusal.{Refusal}
use Rattle.ic_text.specs.declared.grammar.refusal.Refusal.TheVariants.{TooLong, BadByte, Syntax, NameTooLong, Thrice, TooManyAgents, TooNested, ReservedFree, TooManyFree}
use Rattle.ic_text.specs.Tokens.{name, Item, items, between}
use Rattle.ic_text.specs.Grammar.{Equation, text_of, tokens, names, occurs, Denotes}
use Rattle.ic_text.specs.Faults.{Stands, Precedes, IsFirstFault, class, place, code}
use Rattle.ic_text.proofs.Spelling.{one_start}
use Rattle.ic_text.specs.declared.fault.TextFault.{TextFault}
use Rattle.ic_text.specs.Names.{Entry, times, is_free, is_reserved_free}
use Rattle.ic_text.specs.Reading.{State, initial, run, is_at_rest, read_of, Gives}
use Rattle.ic_text.proofs.Sound.{Runs, runs, joints, sound}
use Rattle.ic_text.proofs.Entries.{runs_counted}
use Rattle.ic_text.proofs.Standing.{FaultAt, fault_at, token_stands, counted}
use Rattle.ic_text.proofs.Offsets.{IsAbove, items_above, token_within}
use Rattle.ic_text.proofs.Rising.{runs_ordered, reserved_first}
use Rattle.ic_text.proofs.Outcomes.{IsRead, Reads, long, stopped, unended, reserved, many, whole, reads}
use Rattle.ic_text.proofs.TextEnd.{no_text, is_text, reserved_stands, free_count}
use Rattle.ic_text.proofs.First.{least, none_within}
use Rattle.ic_text.proofs.Sorts as sorts
use Rattle.ic_text.proofs.Sorts.{Sort, sort, IsAtToken, stops_at}

-- ---- which goes first

-- too long a text goes first
long_first : (g : Refusal) → Precedes TooLong g
long_first TooLong = inr (refl, inr (refl, omega arith))
long_first (BadByte o) = inl (omega arith)
long_first (Syntax o) = inl (omega arith)
long_first (NameTooLong o) = inl (omega arith)
long_first (Thrice o) = inl (omega arith)
long_first (TooManyAgents o) = inl (omega arith)
long_first (TooNested o) = inl (omega arith)
long_first (ReservedFree o) = inl (omega arith)
long_first TooManyFree = inl (omega arith)

-- a fault goes before itself
itself : (f g : Refusal) → g ≡ f → Precedes f g
itself f g e = inr (ap class (sym e), inr (ap place (sym e), omega (arith, ap code e)))

-- a fault of a lower class
lower_class : (f g h : Refusal) → g ≡ h → class f < class h → Precedes f g
lower_class f g h e lt = inl (omega (arith, lt, ap class e))

-- ---- where reading stops at a token

-- the fault at which reading stops goes before all others
stopped_least : (text : List ℕ) (f : Refusal) → length text ≤ MAX_TEXT → run initial (items between 0 text) ≡ Err f → (g : Refusal) → Sort text g → Precedes f g
stopped_least text f short e g st =
    let q = fault_at (items between 0 text) initial f e in
    let k = stops_at q.at q.item.at q.item.token f q.fails in
    by_sort q k g st
  where
    by_sort : (q : FaultAt initial (items between 0 text) f) → IsAtToken q.item.at f → (g : Refusal) → Sort text g → Precedes f g
    by_sort q k g (sorts.long h lt) = absurd (omega (arith, lt, short))
    by_sort q k g (sorts.at_token front o t a l c p) =
        elim (least text q.before q.rest q.item q.at f q.parts q.went q.fails g front o t a l) [
          | inl lt ↦ inr (k.class_is ∙ sym c, inl (omega (arith, lt, k.place_is, p)))
          | inr same ↦ inr (k.class_is ∙ sym c, inr (k.place_is ∙ same.0 ∙ sym p, same.1))
        ]
    by_sort q k g (sorts.unended h n) =
        inr (k.class_is ∙ sym (ap class h), inl (omega (arith, token_within text q.before q.item q.rest q.parts, k.place_is, ap place h)))
    by_sort q k g (sorts.reserved o h n) = inl (omega (arith, k.class_is, ap class h))
    by_sort q k g (sorts.many h n) = inl (omega (arith, k.class_is, ap class h))

-- ---- where all tokens were taken

-- what may then be wrong: the text ends early, or something is wrong with its names
data EndSort (text : List ℕ) (g : Refusal) : Type 0 where
  ends_early : g ≡ Syntax (length text) → ((p : Profile) (es : List Equation) → tokens text ≡ text_of p es → ⊥) → EndSort text g
  has_reserved : (o : ℕ) → g ≡ ReservedFree o → Stands text (ReservedFree o) → EndSort text g
  has_many : g ≡ TooManyFree → Stands text TooManyFree → EndSort text g

-- nothing else is wrong where all tokens were taken
at_end : (text : List ℕ) (s : State) → IsRead text s → (g : Refusal) → Sort text g → EndSort text g
at_end text s r g (sorts.long e lt) = absurd (omega (arith, lt, r.short))
at_end text s r g (sorts.at_token front o t a l c p) = absurd (none_within text s r.went g front o t a l)
at_end text s r g (sorts.unended e n) = ends_early e n
at_end text s r g (sorts.reserved o e h) = has_reserved o e h
at_end text s r g (sorts.many e h) = has_many e h

-- a text that ends early goes before what is wrong with its names
unended_least : (text : List ℕ) (g : Refusal) → EndSort text g → Precedes (Syntax (length text)) g
unended_least text g (ends_early e n) = itself (Syntax (length text)) g e
unended_least text g (has_reserved o e h) = lower_class (Syntax (length text)) g (ReservedFree o) e (omega arith)
unended_least text g (has_many e h) = lower_class (Syntax (length text)) g TooManyFree e (omega arith)

-- the text is one of the grammar
ended : (text : List ℕ) (s : State) → IsRead text s → is_at_rest s.stack s.side ≡ true → ((p : Profile) (es : List Equation) → tokens text ≡ text_of p es → ⊥) → ⊥
ended text s r rest n = let w = is_text (items between 0 text) s (runs (items between 0 text) initial s r.went) rest in n w.0 w.1 w.2

-- how often a name occurs, by the table
once : (text : List ℕ) (s : State) → IsRead text s → (x : List ℕ) → occurs x (names (tokens text)) ≡ 1 → times x s.seen ≡ 1
once text s r x e = sym (counted x (items between 0 text) s (runs (items between 0 text) initial s r.went)) ∙ e

-- the first reserved name goes before all others and before too many names
reserved_least : (text : List ℕ) (s : State) → IsRead text s → is_at_rest s.stack s.side ≡ true → (n : Entry) → find is_reserved_free s.seen ≡ Some n
    → (g : Refusal) → EndSort text g → Precedes (ReservedFree n.first) g
reserved_least text s r rest n found g (ends_early e other) = absurd (ended text s r rest other)
reserved_least text s r rest n found g (has_reserved o e h) =
    let its = items between 0 text in
    let went : Runs initial its s = runs its initial s r.went in
    let item : Item = record { at = o; token = name h.1 } in
    let split : Runs initial (h.2.before ++ item ∷ h.2.rest) s = subst (λ (is : List Item). Runs initial is s) h.2.parts went in
    let above : IsAbove 0 (h.2.before ++ item ∷ h.2.rest) = subst (λ (is : List Item). IsAbove 0 is) h.2.parts (items_above between 0 text) in
    let ordered = runs_ordered h.2.before h.1 o h.2.rest initial s 0 split (omega arith) above in
    let le : n.first ≤ o = reserved_first h.1 o 0 ordered.most s.seen s.seen n ordered.rising (runs_counted its s went) ordered.has (once text s r h.1 h.4) h.3 found in
    rw e (inr (refl, by_place le))
  where
    by_place : n.first ≤ o → (n.first < o) ⊎ ((n.first ≡ o) × (8 ≤ 8))
    by_place le =
        elim (cases_lt n.first o) [
          | inl lt ↦ inl lt
          | inr ge ↦ inr (omega (arith, le, ge), omega arith)
        ]
reserved_least text s r rest n found g (has_many e h) = lower_class (ReservedFree n.first) g TooManyFree e (omega arith)

-- no reserved name occurs once
none_reserved : (text : List ℕ) (s : State) → IsRead text s → find is_reserved_free s.seen ≡ None → (o : ℕ) → Stands text (ReservedFree o) → ⊥
none_reserved text s r none o h =
    let f : is_reserved h.1 ≡ false = joints h.1 s.seen none (once text s r h.1 h.4) in
    let z : true ≡ false = sym h.3 ∙ f in
    absurd cc

-- too many names come last
many_least : (text : List ℕ) (s : State) → IsRead text s → is_at_rest s.stack s.side ≡ true → find is_reserved_free s.seen ≡ None → (g : Refusal) → EndSort text g → Precedes TooManyFree g
many_least text s r rest none g (ends_early e other) = absurd (ended text s r rest other)
many_least text s r rest none g (has_reserved o e h) = absurd (none_reserved text s r none o h)
many_least text s r rest none g (has_many e h) = itself TooManyFree g e

-- where the names are right too, nothing is wrong
nothing_wrong : (text : List ℕ) (s : State) → IsRead text s → is_at_rest s.stack s.side ≡ true → find is_reserved_free s.seen ≡ None → count_by is_free s.seen ≤ MAX_FREE_NAMES
    → (g : Refusal) → EndSort text g → ⊥
nothing_wrong text s r rest none few g (ends_early e n) = ended text s r rest n
nothing_wrong text s r rest none few g (has_reserved o e h) = none_reserved text s r none o h
nothing_wrong text s r rest none few g (has_many e h) = omega (arith, few, h, free_count text s (runs (items between 0 text) initial s r.went))

-- ---- what is answered

-- an error
abbrev refuse : Refusal → Result Start Refusal
refuse f = Err f

-- equal errors
err_is : (f g : Refusal) → refuse f ≡ refuse g → f ≡ g
err_is f g e = cc

-- the fault is the first
first : (text : List ℕ) (r : Result Start Refusal) → Reads text r → (f : Refusal) → r ≡ Err f → IsFirstFault text f
first text r (long lt e) f h =
    subst (λ (g : Refusal). IsFirstFault text g) (err_is TooLong f (sym e ∙ h)) (record { stands = lt; first = λ g s. long_first g })
first text r (stopped short d went e) f h =
    subst (λ (g : Refusal). IsFirstFault text g) (err_is d f (sym e ∙ h)) (record { stands = token_stands text d went; first = λ g s. stopped_least text d short went g (sort text g s) })
first text r (unended s q rest e) f h =
    let went = runs (items between 0 text) initial s q.went in
    subst (λ (g : Refusal). IsFirstFault text g) (err_is (Syntax (length text)) f (sym e ∙ h))
    (record { stands = inr (refl, no_text (items between 0 text) s went rest); first = λ g t. unended_least text g (at_end text s q g (sort text g t)) })
first text r (reserved s q rest n found e) f h =
    subst (λ (g : Refusal). IsFirstFault text g) (err_is (ReservedFree n.first) f (sym e ∙ h))
    (record { stands = reserved_stands text s n (runs (items between 0 text) initial s q.went) found; first = λ g t. reserved_least text s q rest n found g (at_end text s q g (sort text g t)) })
first text r (many s q rest none lt e) f h =
    subst (λ (g : Refusal). IsFirstFault text g) (err_is TooManyFree f (sym e ∙ h))
    (record {
      stands = omega (arith, lt, free_count text s (runs (items between 0 text) initial s q.went));
      first = λ g t. many_least text s q rest none g (at_end text s q g (sort text g t));
    })
first text r (whole s q rest none few e) f h = absurd (let z = sym e ∙ h in cc)

-- there is no fault
none : (text : List ℕ) (r : Result Start Refusal) → Reads text r → (st : Start) → r ≡ Ok st → (g : Refusal) → Stands text g → ⊥
none text r (long lt e) st h g t = absurd (let z = sym e ∙ h in cc)
none text r (stopped short d went e) st h g t = absurd (let z = sym e ∙ h in cc)
none text r (unended s q rest e) st h g t = absurd (let z = sym e ∙ h in cc)
none text r (reserved s q rest n found e) st h g t = absurd (let z = sym e ∙ h in cc)
none text r (many s q rest free lt e) st h g t = absurd (let z = sym e ∙ h in cc)
none text r (whole s q rest free few e) st h g t = nothing_wrong text s q rest free few g (at_end text s q g (sort text g t))

-- the fault that is answered is the first
pub answered : (text : List ℕ) (f : Refusal) → read_of text ≡ Err f → IsFirstFault text f
answered text f e = first text (read_of text) (reads text) f e

-- a text that is read has no fault
pub faultless : (text : List ℕ) (r : Result Start TextFault) → Gives (λ s. s) r (read_of text) → IfOk r (λ _. (f : Refusal) → Stands text f → ⊥)
faultless text (Ok s) given = λ f h. none text (read_of text) (reads text) s given f h
faultless text (Err e) given = tt

-- what a text without faults denotes is read
complete : (text : List ℕ) (st : Start) → Denotes text st → ((f : Refusal) → Stands text f → ⊥) → read_of text ≡ Ok st
complete text st d clean = by_result (read_of text) refl
  where
    by_result : (r : Result Start Refusal) → read_of text ≡ r → read_of text ≡ Ok st
    by_result (Ok s) e = e ∙ ap Ok (one_start text s st (sound text s e) d)
    by_result (Err f) e = absurd (clean f (answered text f e).stands)

-- the same of what a function returned
pub only : (text : List ℕ) (r : Result Start TextFault) → Gives (λ s. s) r (read_of text) → (st : Start) → Denotes text st → ((f : Refusal) → Stands text f → ⊥) → Gives (λ s. s) r (Ok st)
only text r given st d clean = subst (λ (q : Result Start Refusal). Gives (λ s. s) r q) (complete text st d clean) given
