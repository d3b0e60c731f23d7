-- The lines of a history, put at the end of a text one by one.
use Rattle.std.proofs.Common.{◌≡◌, ℕ, ◌+◌, ◌<◌, List, [], ◌∷◌, ◌++◌, length, take, get_or, sym, ap, arith, append_assoc, append-nil, ◌∙◌}
use Rattle.std.proofs.lemmas.List.{take_more, length-take}
use Rattle.ic_name.specs.declared.lines.Line.{Line}
use Rattle.std.specs.Prelude.{codes}
use Rattle.std.specs.Fmt.{decimal}
use Rattle.ic_answer.specs.Histories.{line_text, numbered_lines, history_text}

-- numbers go on behind the first lines
numbered_behind : (n : ℕ) (xs : List Line) (x : Line) → numbered_lines n (xs ++ x ∷ []) ≡ numbered_lines n xs ++ line_text (n + length xs) x
numbered_behind n [] x = rw (nat_zero n) (append-nil (line_text n x))
  where
    nat_zero : (m : ℕ) → m + 0 ≡ m
    nat_zero m = omega arith
numbered_behind n (y ∷ ys) x =
    ap (λ us. line_text n y ++ us) (numbered_behind (n + 1) ys x)
    ∙ sym (append_assoc (line_text n y) (numbered_lines (n + 1) ys) (line_text (n + 1 + length ys) x))
    ∙ ap (λ k. (line_text n y ++ numbered_lines (n + 1) ys) ++ line_text k x) (omega arith)

-- a line more
pub line_more : (xs : List Line) (i : ℕ) (y : Line) (head old new : List ℕ) → i < length xs → y ≡ get_or xs i y → old ≡ head ++ numbered_lines 0 (take i xs) → new ≡ old ++ line_text i y
    → new ≡ head ++ numbered_lines 0 (take (i + 1) xs)
line_more xs i y head old new h is had put =
    let x = get_or xs i y in
    let taken = length-take i xs in
    let count : 0 + length (take i xs) ≡ i = omega (arith, taken) in
    put ∙ ap (λ z. old ++ line_text i z) is ∙ ap (λ us. us ++ line_text i x) had
    ∙ append_assoc head (numbered_lines 0 (take i xs)) (line_text i x)
    ∙ ap (λ us. head ++ us) (
    ap (λ k. numbered_lines 0 (take i xs) ++ line_text k x) (sym count)
    ∙ sym (numbered_behind 0 (take i xs) x)
    ∙ ap (λ us. numbered_lines 0 us) (sym (take_more xs i y h)))

-- the lines behind their number
pub history_put : (xs ys : List Line) (k : ℕ) (head all : List ℕ) → head ≡ codes "history " ++ (decimal k ++ codes "\n") → k ≡ length ys → ys ≡ xs → all ≡ head ++ numbered_lines 0 ys → all ≡ history_text xs
history_put xs ys k head all h n same put =
    put ∙ ap (λ us. us ++ numbered_lines 0 ys) (h ∙ ap (λ j. codes "history " ++ (decimal j ++ codes "\n")) n ∙ sym (append_assoc (codes "history ") (decimal (length ys)) (codes "\n")))
    ∙ ap history_text same
