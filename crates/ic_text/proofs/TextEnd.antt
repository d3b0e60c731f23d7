-- Where a text may end, and what its table of names then says.
use Rattle.std.proofs.Common.{◌≡◌, ℕ, Bool, true, false, List, [], ◌∷◌, length, Some, refl, sym, ap, ◌∙◌, eqb}
use Rattle.std.specs.Prelude.{count_by, find}
use Rattle.std.proofs.lemmas.List.{append-nil}
use Rattle.ic_name.specs.declared.rules.Profile.{Profile}
use Rattle.ic_text.specs.declared.grammar.refusal.Refusal.TheVariants.{ReservedFree}
use Rattle.ic_text.specs.Tokens.{Token, Item, items, between}
use Rattle.ic_text.specs.Grammar.{Term, eps, Equation, text_of, tokens, names, distinct, occurs, add}
use Rattle.ic_text.specs.Faults.{Stands}
use Rattle.ic_text.proofs.Spelling.{starts}
use Rattle.ic_text.specs.declared.builder.Phase.{Phase}
use Rattle.ic_text.specs.declared.builder.Phase.TheVariants as phases
use Rattle.ic_text.specs.declared.builder.Frame.{Frame}
use Rattle.ic_text.specs.Sides.{Side}
use Rattle.ic_text.specs.Sides as sides
use Rattle.ic_text.specs.Names.{Entry, times, is_free, is_reserved_free}
use Rattle.ic_text.specs.Reading.{State, initial, is_at_rest}
use Rattle.ic_text.proofs.Pending.{Rest, pend, pend_at}
use Rattle.ic_text.proofs.Sound.{Runs, runs_back, runs_fold, numbers, end_in, tokens_of, texts, texts_enter}
use Rattle.ic_text.proofs.Entries.{runs_counted, runs_at, free_is, found_reserved}
use Rattle.ic_text.proofs.Standing.{forth_all, counted}

-- an open symbol has tokens to come
frame_pends : (p : Phase) (u v : Term) (below : List Token) → pend_at p u v below ≡ [] → ⊥
frame_pends phases.Opening u v below e = absurd cc
frame_pends phases.First u v below e = starts u _ e
frame_pends phases.Comma u v below e = absurd cc
frame_pends phases.Second u v below e = starts v _ e
frame_pends phases.Closing u v below e = absurd cc

-- where no tokens are to come, the text may end
ends : (fs : List Frame) (x : Side) (r : Rest fs) → pend fs x r ≡ [] → is_at_rest fs x ≡ true
ends [] sides.Beginning r e = refl
ends [] sides.Heading r e = absurd cc
ends [] sides.Left r e = refl
ends [] (sides.Equals l) r e = absurd cc
ends [] (sides.Right l) r e = absurd (starts r.1 _ e)
ends [] sides.Semicolon r e = absurd cc
ends (f ∷ fs) x r e = absurd (frame_pends f.phase r.0 r.1 (pend fs x r.2) e)

-- where the text may not end, its tokens are no text
pub no_text : (is : List Item) (s : State) → Runs initial is s → is_at_rest s.stack s.side ≡ false → (p : Profile) (es : List Equation) → tokens_of is ≡ text_of p es → ⊥
no_text is s g h p es e =
    let c = forth_all is initial s g (p, eps, es) [] (sym e ∙ sym (append-nil (tokens_of is))) in
    let z : true ≡ false = sym (ends s.stack s.side c.0 c.1) ∙ h in
    absurd cc

-- where the text may end, they are one
pub is_text : (is : List Item) (s : State) → Runs initial is s → is_at_rest s.stack s.side ≡ true → (p : Profile) × (es : List Equation) × (tokens_of is ≡ text_of p es)
is_text is s g h =
    let c = runs_back is initial s g [] s.joins s.profile (end_in (numbers s) (length s.kinds) s.kinds s.joins s.seen s.stack s.side s.profile h) in
    (c.rest.0, c.rest.2, sym (append-nil (tokens_of is)) ∙ sym c.tokens)

-- a reserved name of the table that occurs once does so in the text
pub reserved_stands : (text : List ℕ) (s : State) (n : Entry) → Runs initial (items between 0 text) s → find is_reserved_free s.seen ≡ Some n → Stands text (ReservedFree n.first)
reserved_stands text s n g e =
    let its = items between 0 text in
    let r = found_reserved its s.seen s.seen n (runs_counted its s g) (runs_at its [] its initial s refl g tt) e in
    (tokens_of r.before, n.text, record { before = r.before; rest = r.rest; parts = r.parts; front_is = refl }, r.reserved, counted n.text its s g ∙ r.once)

-- the names that occur once are as many in the text as in the table
pub free_count : (text : List ℕ) (s : State) → Runs initial (items between 0 text) s
    → count_by (λ x. eqb (occurs x (names (tokens text))) 1) (distinct (names (tokens text))) ≡ count_by is_free s.seen
free_count text s g =
    let its = items between 0 text in
    let listed : distinct (names (tokens_of its)) ≡ texts s.seen = runs_fold (λ ys x. add x ys) texts texts_enter its initial s g in
    let each : (λ (x : List ℕ). eqb (occurs x (names (tokens_of its))) 1) ≡ (λ (x : List ℕ). eqb (times x s.seen) 1) = λ i x. eqb (counted x its s g i) 1 in
    ap (λ (xs : List (List ℕ)). count_by (λ x. eqb (occurs x (names (tokens_of its))) 1) xs) listed
    ∙ ap (λ (p : List ℕ → Bool). count_by p (texts s.seen)) each
    ∙ free_is s.seen (runs_counted its s g)
