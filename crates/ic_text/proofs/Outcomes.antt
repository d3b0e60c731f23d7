-- How reading a text ends.
use Rattle.std.proofs.Common.{◌≡◌, ℕ, ◌≤◌, ◌<◌, Bool, true, false, cond, List, length, Option, Some, None, Result, Ok, Err, refl, arith}
use Rattle.std.specs.Prelude.{nat_lt, count_by, find, map}
use Rattle.std.proofs.lemmas.Bool.Decides.{nat_tests}
use Rattle.ic_theory.specs.Starts.{Start}
use Rattle.ic_text.specs.declared.grammar.limits.TheConstants.{MAX_TEXT, MAX_FREE_NAMES}
use Rattle.ic_text.specs.declared.grammar.refusal.Refusal.{Refusal}
use Rattle.ic_text.specs.declared.grammar.refusal.Refusal.TheVariants.{TooLong, Syntax, ReservedFree, TooManyFree}
use Rattle.ic_text.specs.Tokens.{items, between}
use Rattle.ic_text.specs.Names.{Entry, is_free, is_reserved_free}
use Rattle.ic_text.specs.Reading.{◌>>=◌, State, initial, run, is_at_rest, finish, read_of}

-- a state to which a text was read to its end, within the limit of bytes
pub record IsRead (text : List ℕ) (s : State) : Type 0 where
  pub short : length text ≤ MAX_TEXT
  pub went : run initial (items between 0 text) ≡ Ok s

-- the start of what was read
abbrev pub made : State → Start
made s = record { kinds = s.kinds; joins = s.joins; names = map (λ n. n.text) s.seen; profile = s.profile }

-- the text is too long; reading stops at a token; it ends within an equation; a reserved name occurs once; too many
-- names occur once; or nothing is wrong
pub data Reads (text : List ℕ) (r : Result Start Refusal) : Type 0 where
  long : MAX_TEXT < length text → r ≡ Err TooLong → Reads text r
  stopped : length text ≤ MAX_TEXT → (f : Refusal) → run initial (items between 0 text) ≡ Err f → r ≡ Err f → Reads text r
  unended : (s : State) → IsRead text s → is_at_rest s.stack s.side ≡ false → r ≡ Err (Syntax (length text)) → Reads text r
  reserved : (s : State) → IsRead text s → is_at_rest s.stack s.side ≡ true → (n : Entry) → find is_reserved_free s.seen ≡ Some n → r ≡ Err (ReservedFree n.first) → Reads text r
  many : (s : State) → IsRead text s → is_at_rest s.stack s.side ≡ true → find is_reserved_free s.seen ≡ None → MAX_FREE_NAMES < count_by is_free s.seen → r ≡ Err TooManyFree → Reads text r
  whole : (s : State) → IsRead text s → is_at_rest s.stack s.side ≡ true → find is_reserved_free s.seen ≡ None → count_by is_free s.seen ≤ MAX_FREE_NAMES
      → r ≡ Ok (made s) → Reads text r

-- how it ends where all tokens were taken
ends : (text : List ℕ) (s : State) → IsRead text s → Reads text (finish (length text) s)
unfolding finish
ends text s h = by_test (is_at_rest s.stack s.side) refl
  where
    by_count : is_at_rest s.stack s.side ≡ true → find is_reserved_free s.seen ≡ None → (b : Bool) → nat_lt MAX_FREE_NAMES (count_by is_free s.seen) ≡ b → Reads text (finish (length text) s)
    by_count p q true e = many s h p q (grind (arith, nat_tests)) (rw (p, q, e) refl)
    by_count p q false e = whole s h p q (grind (arith, nat_tests)) (rw (p, q, e) refl)

    by_names : is_at_rest s.stack s.side ≡ true → (o : Option Entry) → find is_reserved_free s.seen ≡ o → Reads text (finish (length text) s)
    by_names p (Some n) q = reserved s h p n q (rw (p, q) refl)
    by_names p None q = by_count p q (nat_lt MAX_FREE_NAMES (count_by is_free s.seen)) refl

    by_test : (b : Bool) → is_at_rest s.stack s.side ≡ b → Reads text (finish (length text) s)
    by_test true p = by_names p (find is_reserved_free s.seen) refl
    by_test false p = unended s h p (rw p refl)

-- how reading ends
pub reads : (text : List ℕ) → Reads text (read_of text)
unfolding read_of
reads text = by_test (nat_lt MAX_TEXT (length text)) refl
  where
    by_run : nat_lt MAX_TEXT (length text) ≡ false → (r : Result State Refusal) → run initial (items between 0 text) ≡ r → Reads text (run initial (items between 0 text) >>= finish (length text))
    by_run p (Ok s) q = rw q (ends text s (record { short = grind (arith, nat_tests); went = q }))
    by_run p (Err f) q = stopped (grind (arith, nat_tests)) f q (rw q refl)

    by_test : (b : Bool) → nat_lt MAX_TEXT (length text) ≡ b → Reads text (cond b (Err TooLong) (run initial (items between 0 text) >>= finish (length text)))
    by_test true p = long (grind (arith, nat_tests)) refl
    by_test false p = by_run p (run initial (items between 0 text)) refl
