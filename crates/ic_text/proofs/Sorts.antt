-- The faults of a text, by where they stand.
use Rattle.std.proofs.Common.{◌≡◌, ℕ, ◌<◌, inl, inr, Bool, true, false, cond, List, length, Some, None, Err, refl, sym, ap, ◌∙◌, leb}
use Rattle.std.specs.Prelude.{nat_lt}
use Rattle.ic_name.specs.declared.rules.Profile.{Profile}
use Rattle.ic_name.specs.declared.limits.TheConstants.{MAX_START_AGENTS}
use Rattle.ic_text.specs.declared.grammar.limits.TheConstants.{MAX_TEXT, MAX_NAME, MAX_NESTING}
use Rattle.ic_text.specs.declared.grammar.refusal.Refusal.{Refusal}
use Rattle.ic_text.specs.declared.grammar.refusal.Refusal.TheVariants.{TooLong, BadByte, Syntax, NameTooLong, Thrice, TooManyAgents, TooNested, ReservedFree, TooManyFree}
use Rattle.ic_text.specs.Tokens.{Token, symbol, name, opening, closing, comma, equals, semicolon, profile, stray, digit, bad}
use Rattle.ic_text.specs.Grammar.{Equation, text_of, tokens}
use Rattle.ic_text.specs.Faults.{At, Stands, class, place}
use Rattle.ic_text.specs.Names.{times}
use Rattle.ic_text.specs.Reading.{State, step, over, advance, misplaced}
use Rattle.ic_text.proofs.Standing.{refused, some_refusal}
use Rattle.ic_text.proofs.First.{Local}

-- a fault is of the whole text, at a token, at the text's end, or of its names
pub data Sort (text : List ℕ) (g : Refusal) : Type 0 where
  long : g ≡ TooLong → MAX_TEXT < length text → Sort text g
  at_token : (front : List Token) (o : ℕ) (t : Token) → At text front o t → Local g front t → class g ≡ 1 → place g ≡ o → Sort text g
  unended : g ≡ Syntax (length text) → ((p : Profile) (es : List Equation) → tokens text ≡ text_of p es → ⊥) → Sort text g
  reserved : (o : ℕ) → g ≡ ReservedFree o → Stands text (ReservedFree o) → Sort text g
  many : g ≡ TooManyFree → Stands text TooManyFree → Sort text g

-- each fault that stands is of one of the sorts
pub sort : (text : List ℕ) (g : Refusal) → Stands text g → Sort text g
sort text TooLong h = long refl h
sort text (BadByte o) h = at_token h.0 o bad h.1 refl refl refl
sort text (Syntax o) (inl h) = at_token h.0 o h.1 h.2 h.3 refl refl
sort text (Syntax o) (inr h) = unended (ap Syntax h.0) h.1
sort text (NameTooLong o) h = at_token h.0 o (name h.1) h.2 (h.1, refl, h.3) refl refl
sort text (Thrice o) h = at_token h.0 o (name h.1) h.2 (h.1, refl, h.3) refl refl
sort text (TooManyAgents o) h = at_token h.0 o (symbol h.1) h.2 (h.1, refl, h.3) refl refl
sort text (TooNested o) h = at_token h.0 o (symbol h.1) h.2 (h.1, refl, h.3) refl refl
sort text (ReservedFree o) h = reserved o refl h
sort text TooManyFree h = many refl h

-- a fault at a token
pub record IsAtToken (o : ℕ) (f : Refusal) : Type 0 where
  pub class_is : class f ≡ 1
  pub place_is : place f ≡ o

-- a token that may not stand there
misplaced_at : (t : Token) (o : ℕ) → IsAtToken o (misplaced t o)
misplaced_at bad o = record { class_is = refl; place_is = refl }
misplaced_at (symbol k) o = record { class_is = refl; place_is = refl }
misplaced_at (name x) o = record { class_is = refl; place_is = refl }
misplaced_at opening o = record { class_is = refl; place_is = refl }
misplaced_at closing o = record { class_is = refl; place_is = refl }
misplaced_at comma o = record { class_is = refl; place_is = refl }
misplaced_at equals o = record { class_is = refl; place_is = refl }
misplaced_at semicolon o = record { class_is = refl; place_is = refl }
misplaced_at profile o = record { class_is = refl; place_is = refl }
misplaced_at stray o = record { class_is = refl; place_is = refl }
misplaced_at digit o = record { class_is = refl; place_is = refl }

-- the same fault
same_at : (o : ℕ) (f g : Refusal) → IsAtToken o f → f ≡ g → IsAtToken o g
same_at o f g h e = record { class_is = ap class (sym e) ∙ h.class_is; place_is = ap place (sym e) ∙ h.place_is }

-- a token that passes a limit
over_at : (m : State) (o : ℕ) (t : Token) (f : Refusal) → over m o t ≡ Some f → IsAtToken o f
unfolding over
over_at m o (symbol k) f e = by_tests (leb MAX_START_AGENTS (length m.kinds)) (leb MAX_NESTING (length m.stack)) e
  where
    by_tests : (b c : Bool) → cond b (Some (TooManyAgents o)) (cond c (Some (TooNested o)) None) ≡ Some f → IsAtToken o f
    by_tests true c e = same_at o (TooManyAgents o) f (record { class_is = refl; place_is = refl }) (some_refusal _ f e)
    by_tests false true e = same_at o (TooNested o) f (record { class_is = refl; place_is = refl }) (some_refusal _ f e)
    by_tests false false e = absurd cc
over_at m o (name x) f e = by_tests (nat_lt MAX_NAME (length x)) (leb 2 (times x m.seen)) e
  where
    by_tests : (b c : Bool) → cond b (Some (NameTooLong o)) (cond c (Some (Thrice o)) None) ≡ Some f → IsAtToken o f
    by_tests true c e = same_at o (NameTooLong o) f (record { class_is = refl; place_is = refl }) (some_refusal _ f e)
    by_tests false true e = same_at o (Thrice o) f (record { class_is = refl; place_is = refl }) (some_refusal _ f e)
    by_tests false false e = absurd cc
over_at m o opening f e = absurd cc
over_at m o closing f e = absurd cc
over_at m o comma f e = absurd cc
over_at m o equals f e = absurd cc
over_at m o semicolon f e = absurd cc
over_at m o profile f e = absurd cc
over_at m o stray f e = absurd cc
over_at m o digit f e = absurd cc
over_at m o bad f e = absurd cc

-- the fault at which reading stops stands at the token there
pub stops_at : (m : State) (o : ℕ) (t : Token) (f : Refusal) → advance m o t ≡ Err f → IsAtToken o f
unfolding advance
stops_at m o t f e =
    elim (refused o t (step m o t) (over m o t) f e) [
      | inl n ↦ same_at o (misplaced t o) f (misplaced_at t o) n.1
      | inr n ↦ over_at m o t f n.2
    ]
