-- The first line of an input, taken.
use Rattle.std.proofs.Common.{◌≡◌, ◌≢◌, ℕ, ◌+◌, ◌<◌, Bool, true, false, List, [], ◌∷◌, length, refl, sym, ap, arith, ◌∙◌, subst}
use Rattle.std.specs.Prelude.{Option, Some, None, IfSome, IsSomeAnd}
use Rattle.ic_command.specs.declared.command.TheConstants.{MAX_COMMAND}
use Rattle.ic_command.specs.Lines.{Takes, first_line, has_feed, behind_line}
use Rattle.ic_command.specs.declared.lines.piece.Piece.{Piece}
use Rattle.ic_command.specs.declared.lines.piece.Piece.TheVariants.{Line, TooLong}
use Rattle.ic_session.specs.InputLines.{TextLine, lines}
use Rattle.ic_session.specs.TakenLines.{TakesLine}
use Rattle.ic_session.proofs.InputFacts.{line_with_feed, line_without_feed}

-- the first line has these bytes, and a line feed behind them or not
first_is : (xs line : List ℕ) (ended : Bool) → line ≡ first_line xs → ended ≡ has_feed xs → (ended ≡ false → line ≢ []) → lines xs ≡ record { bytes = line; ended = ended } ∷ lines (behind_line xs)
first_is xs line true is fed some = line_with_feed xs (sym fed) ∙ ap (λ bytes. record { bytes = bytes; ended = true } ∷ lines (behind_line xs)) (sym is)
first_is [] line false is fed some = absurd (some refl is)
first_is (x ∷ xs) line false is fed some =
    let w = line_without_feed x xs (sym fed) in
    let bytes = sym (is ∙ w.1) in
    let behind = sym w.2 in
    w.0 ∙ (λ i. record { bytes = bytes i; ended = false } ∷ lines (behind i))

-- a line was taken
pub line_taken : (old now : Option (List ℕ)) (line : List ℕ) (ended : Bool) (most : ℕ) (p : Piece) → p ≡ Line ended
    → IfSome old (λ xs. Takes p line most xs now) → (p ≡ Line false → line ≢ []) → IfSome old (λ xs. TakesLine (Line ended) line xs now)
line_taken None now line ended most p e t some = tt
line_taken (Some xs) now line ended most p e t some =
    let taken : Takes (Line ended) line most xs now = subst (λ q. Takes q line most xs now) e t in
    subst (λ left. IsSomeAnd left (λ ys. lines xs ≡ record { bytes = line; ended = ended } ∷ lines ys)) (sym taken.2) (first_is xs line ended taken.0 taken.1 (λ unfed. some (e ∙ ap Line unfed)))

-- where the first line has bytes, there is one
first_some : (xs : List ℕ) → 0 < length (first_line xs) → (line : TextLine) × (lines xs ≡ line ∷ lines (behind_line xs)) × (line.bytes ≡ first_line xs)
first_some xs some = (record { bytes = first_line xs; ended = has_feed xs }, first_is xs (first_line xs) (has_feed xs) refl refl (λ _ none. (let no = ap length none in absurd (omega arith))), refl)

-- a line that is too long was taken whole
pub long_taken : (old now new : Option (List ℕ)) (line : List ℕ) (p : Piece) → p ≡ TooLong
    → IfSome old (λ xs. Takes p line (MAX_COMMAND + 1) xs now) → IfSome now (λ ys. new ≡ Some (behind_line ys))
    → IfSome old (λ xs. TakesLine TooLong line xs new)
long_taken None now new line p e t s = tt
long_taken (Some xs) None new line p e t s = let taken = subst (λ q. Takes q line (MAX_COMMAND + 1) xs None) e t in absurd taken.1
long_taken (Some xs) (Some ys) new line p e t s =
    let taken = subst (λ q. Takes q line (MAX_COMMAND + 1) xs (Some ys)) e t in
    let many = taken.0 in
    let first = first_some xs (omega (arith, many)) in
    let long = subst (λ bytes. MAX_COMMAND + 1 < length bytes) (sym first.2) many in
    subst (λ left. IsSomeAnd left (λ zs. (long : TextLine) × (lines xs ≡ long ∷ lines zs) × (MAX_COMMAND + 1 < length long.bytes))) (sym (s ∙ ap Some taken.1)) (first.0, first.1, long)
