-- Lines end at feeds.
use Rattle.std.proofs.Common.{◌≡◌, ◌≢◌, ℕ, Bool, true, false, List, [], ◌∷◌, ◌++◌, refl, sym, ap, ◌∙◌, eqb, append_assoc, append-nil}
use Rattle.std.proofs.lemmas.Bool.{eqb-true}
use Rattle.std.specs.List.{flat_map}
use Rattle.ic_command.specs.Lines.{has_feed}
use Rattle.ic_session.specs.InputLines.{lines, lines_after, last_line, whole_line}

-- a line that has begun ends at the next feed
ended_after : (begun front behind : List ℕ) → has_feed front ≡ false → lines_after begun (front ++ 10 ∷ behind) ≡ record { bytes = begun ++ front; ended = true } ∷ lines behind
ended_after begun [] behind h = rw append-nil refl
ended_after begun (x ∷ xs) behind h = go (eqb x 10) refl (ended_after (begun ++ x ∷ []) xs behind)
  where
    go : (b : Bool) → eqb x 10 ≡ b → (has_feed xs ≡ false → lines_after (begun ++ x ∷ []) (xs ++ 10 ∷ behind) ≡ record { bytes = (begun ++ x ∷ []) ++ xs; ended = true } ∷ lines behind)
        → lines_after begun (x ∷ (xs ++ 10 ∷ behind)) ≡ record { bytes = begun ++ x ∷ xs; ended = true } ∷ lines behind
    go true e f = let no : true ≡ false = rw e at h in cc
    go false e f =
        let k : has_feed xs ≡ false = rw e at h in
        rw e (f k ∙ ap (λ ys. record { bytes = ys; ended = true } ∷ lines behind) (append_assoc begun (x ∷ []) xs))

pub line_ended : (front behind : List ℕ) → has_feed front ≡ false → lines (front ++ 10 ∷ behind) ≡ record { bytes = front; ended = true } ∷ lines behind
line_ended front behind h = ended_after [] front behind h

-- without a feed it goes to the end
last_after : (begun front : List ℕ) → has_feed front ≡ false → lines_after begun front ≡ last_line (begun ++ front)
last_after begun [] h = rw append-nil refl
last_after begun (x ∷ xs) h = go (eqb x 10) refl (last_after (begun ++ x ∷ []) xs)
  where
    go : (b : Bool) → eqb x 10 ≡ b → (has_feed xs ≡ false → lines_after (begun ++ x ∷ []) xs ≡ last_line ((begun ++ x ∷ []) ++ xs)) → lines_after begun (x ∷ xs) ≡ last_line (begun ++ x ∷ xs)
    go true e f = let no : true ≡ false = rw e at h in cc
    go false e f = let k : has_feed xs ≡ false = rw e at h in rw e (f k ∙ ap last_line (append_assoc begun (x ∷ []) xs))

pub line_last : (front : List ℕ) → front ≢ [] → has_feed front ≡ false → lines front ≡ record { bytes = front; ended = false } ∷ []
line_last [] n h = absurd (n refl)
line_last (x ∷ xs) n h = last_after [] (x ∷ xs) h

-- all lines are the bytes that have begun and those that follow
whole_after : (begun xs : List ℕ) → flat_map whole_line (lines_after begun xs) ≡ begun ++ xs
whole_after [] [] = refl
whole_after (b ∷ bs) [] = refl
whole_after begun (x ∷ xs) = go (eqb x 10) refl (whole_after [] xs) (whole_after (begun ++ x ∷ []) xs)
  where
    go : (b : Bool) → eqb x 10 ≡ b → flat_map whole_line (lines_after [] xs) ≡ xs → flat_map whole_line (lines_after (begun ++ x ∷ []) xs) ≡ (begun ++ x ∷ []) ++ xs
        → flat_map whole_line (lines_after begun (x ∷ xs)) ≡ begun ++ x ∷ xs
    go true e f g =
        let is : x ≡ 10 = eqb-true x 10 e in
        rw (e, f) (append_assoc begun (10 ∷ []) xs ∙ ap (λ k. begun ++ k ∷ xs) (sym is))
    go false e f g = rw e (g ∙ append_assoc begun (x ∷ []) xs)

pub lines_whole : (input : List ℕ) → flat_map whole_line (lines input) ≡ input
lines_whole input = whole_after [] input
