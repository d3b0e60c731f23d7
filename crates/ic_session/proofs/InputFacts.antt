-- The lines of an input, taken one by one.
use Rattle.std.proofs.Common.{◌≡◌, ℕ, ◌+◌, ◌<◌, ◌≤◌, Bool, true, false, List, [], ◌∷◌, ◌++◌, length, refl, sym, ap, arith, ◌∙◌, eqb, append_assoc, append-nil, length-append, subst}
use Rattle.std.specs.Prelude.{Option, Some, None, IfSome, MatchBool, if◌then◌else◌, codes}
use Rattle.std.proofs.Common.{Vec, Global}
use Rattle.std.proofs.lemmas.Slice.Eq.{bytes_eq-Decides}
use Rattle.std.specs.Str.{bytes_eq}
use Rattle.ic_command.specs.declared.lines.piece.Piece.{Piece}
use Rattle.ic_command.specs.declared.lines.piece.Piece.TheVariants.{Line, End}
use Rattle.ic_command.specs.declared.lines.piece.Piece.TheVariants as pieces
use Rattle.ic_command.specs.Lines.{first_line, has_feed, behind_line, is_line, Takes}
use Rattle.ic_command.proofs.FirstLines.{first-prepend}
use Rattle.ic_text.specs.declared.grammar.limits.TheConstants.{MAX_TEXT}
use Rattle.ic_session.specs.declared.net_input.NetInput.TheVariants.{Whole}
use Rattle.ic_session.specs.NetInput.{ReadsNet}
use Rattle.ic_session.specs.InputLines.{lines, lines_after, last_line, net_part, has_bar, command_lines, is_bar, whole_line}

-- the first line and those behind it
lines_front : (front xs : List ℕ) → (has_feed xs ≡ true → lines_after front xs ≡ record { bytes = front ++ first_line xs; ended = true } ∷ lines (behind_line xs))
    × (has_feed xs ≡ false → lines_after front xs ≡ last_line (front ++ xs))
lines_front front [] = (λ h. cc, λ h. rw append-nil refl)
lines_front front (x ∷ xs) = go (eqb x 10) refl (lines_front (front ++ x ∷ []) xs)
  where
    go : (b : Bool) → eqb x 10 ≡ b
        → (has_feed xs ≡ true → lines_after (front ++ x ∷ []) xs ≡ record { bytes = (front ++ x ∷ []) ++ first_line xs; ended = true } ∷ lines (behind_line xs)) × (has_feed xs ≡ false → lines_after (front ++ x ∷ []) xs ≡ last_line ((front ++ x ∷ []) ++ xs))
        → (has_feed (x ∷ xs) ≡ true → lines_after front (x ∷ xs) ≡ record { bytes = front ++ first_line (x ∷ xs); ended = true } ∷ lines (behind_line (x ∷ xs)))
        × (has_feed (x ∷ xs) ≡ false → lines_after front (x ∷ xs) ≡ last_line (front ++ x ∷ xs))
    go true e h = (λ k. rw (e, append-nil) refl, λ k. (let k' : true ≡ false = rw e at k in cc))
    go false e h = (λ k. (let k' : has_feed xs ≡ true = rw e at k in rw e (h.0 k' ∙ ap (λ ys. record { bytes = ys; ended = true } ∷ lines (behind_line xs)) (append_assoc front (x ∷ []) (first_line xs)))), λ k. (let k' : has_feed xs ≡ false = rw e at k in rw e (h.1 k' ∙ ap last_line (append_assoc front (x ∷ []) xs))))

-- without a feed, the first line is all
all_line : (xs : List ℕ) → has_feed xs ≡ false → (first_line xs ≡ xs) × (behind_line xs ≡ [])
all_line xs h = let a = first-prepend xs [] h in (ap first_line (sym (append-nil xs)) ∙ a.0 ∙ append-nil xs, ap behind_line (sym (append-nil xs)) ∙ a.2)

-- with one, a line ends there
pub line_with_feed : (xs : List ℕ) → has_feed xs ≡ true → lines xs ≡ record { bytes = first_line xs; ended = true } ∷ lines (behind_line xs)
line_with_feed xs h = (lines_front [] xs).0 h

-- without one, all is a line
pub line_without_feed : (x : ℕ) (xs : List ℕ) → has_feed (x ∷ xs) ≡ false
    → (lines (x ∷ xs) ≡ record { bytes = x ∷ xs; ended = false } ∷ []) × (first_line (x ∷ xs) ≡ x ∷ xs) × (behind_line (x ∷ xs) ≡ [])
line_without_feed x xs h = let a = all_line (x ∷ xs) h in ((lines_front [] (x ∷ xs)).1 h, a.0, a.1)

-- what was read of the net text so far, and what is left, make the input; where it is known
abbrev pub HasRead : Option (List ℕ) → Option (List ℕ) → List ℕ → Type 0
HasRead None now text = Unit {0}
HasRead (Some xs) None text = ⊥
HasRead (Some xs) (Some ys) text = (net_part (lines xs) ≡ text ++ net_part (lines ys)) × (command_lines (lines xs) ≡ command_lines (lines ys)) × (has_bar (lines xs) ≡ has_bar (lines ys))

-- the last line, without a feed
last_part : (xs : List ℕ) → has_feed xs ≡ false → (b : Bool) → is_bar xs ≡ b → (net_part (lines xs) ≡ (if b then [] else xs)) × (command_lines (lines xs) ≡ []) × (has_bar (lines xs) ≡ b)
last_part [] h b e = (at_none b e, refl, e)
  where
    at_none : (b : Bool) → is_bar [] ≡ b → ◌≡◌ {A = List ℕ} [] (if b then [] else [])
    at_none true e = refl
    at_none false e = refl
last_part (x ∷ xs) h true e = let l = (lines_front [] (x ∷ xs)).1 h in (rw (l, e) refl, rw (l, e) refl, rw (l, e) refl)
last_part (x ∷ xs) h false e = let l = (lines_front [] (x ∷ xs)).1 h in (rw (l, e) (append-nil (x ∷ xs)), rw (l, e) refl, rw (l, e) refl)

-- where a line was taken, less is left to read
pub lessened : {new old : ℕ} (p : Piece) (ended : Bool) → p ≡ Line ended → MatchBool (is_line p) (new < old) (new ≤ old) → new < old
lessened {new} {old} p ended is h = subst (λ q. MatchBool (is_line q) (new < old) (new ≤ old)) is h

-- and not more in any case
pub not_more : {new old : ℕ} (p : Piece) → MatchBool (is_line p) (new < old) (new ≤ old) → new ≤ old
not_more (Line ended) h = omega (arith, h)
not_more pieces.TooLong h = h
not_more End h = h

-- a line of the net was taken
pub read_more : (old now new : Option (List ℕ)) (text line : List ℕ) (ended : Bool) (most : ℕ) → HasRead old now text → (p : Piece) → p ≡ Line ended → IfSome now (λ ys. Takes p line most ys new) → is_bar line ≡ false
    → HasRead old new (text ++ whole_line (record { bytes = line; ended = ended }))
read_more None now new text line ended most h p e t b = tt
read_more (Some xs) None new text line ended most h p e t b = absurd h
read_more (Some xs) (Some ys) new text line ended most h p e t' b = rw t.2 (go ended t.1)
  where
    t : Takes (Line ended) line most ys new
    t = subst (λ q. Takes q line most ys new) e t'

    go : (e : Bool) → e ≡ has_feed ys → HasRead (Some xs) (Some (behind_line ys)) (text ++ whole_line (record { bytes = line; ended = e }))
    go true e =
        let first : is_bar (first_line ys) ≡ false = ap is_bar (sym t.0) ∙ b in
        let l = line_with_feed ys (sym e) in
        let part : net_part (lines ys) ≡ (first_line ys ++ 10 ∷ []) ++ net_part (lines (behind_line ys)) = rw (l, first) refl in
        let rest : command_lines (lines ys) ≡ command_lines (lines (behind_line ys)) = rw (l, first) refl in
        let barred : has_bar (lines ys) ≡ has_bar (lines (behind_line ys)) = rw (l, first) refl in
        (h.0 ∙ ap (λ zs. text ++ zs) (part ∙ ap (λ zs. (zs ++ 10 ∷ []) ++ net_part (lines (behind_line ys))) (sym t.0)) ∙ sym (append_assoc text (line ++ 10 ∷ []) (net_part (lines (behind_line ys)))), h.1 ∙ rest, h.2 ∙ barred)
    go false e =
        let whole = all_line ys (sym e) in
        let same : line ≡ ys = t.0 ∙ whole.0 in
        let p = last_part ys (sym e) false (ap is_bar (sym same) ∙ b) in
        (h.0 ∙ ap (λ zs. text ++ zs) (p.0 ∙ sym same) ∙ rw (whole.1, append-nil) refl, h.1 ∙ p.1 ∙ rw whole.1 refl, h.2 ∙ p.2 ∙ rw whole.1 refl)

-- the bar was taken
pub read_bar : (old now new : Option (List ℕ)) (text : Vec ℕ Global) (line : List ℕ) (ended : Bool) (most : ℕ) → HasRead old now text.items → (p : Piece) → p ≡ Line ended → IfSome now (λ ys. Takes p line most ys new) → is_bar line ≡ true
    → IfSome old (λ xs. ReadsNet (Whole text true) xs new)
read_bar None now new text line ended most h p e t b = tt
read_bar (Some xs) None new text line ended most h p e t b = absurd h
read_bar (Some xs) (Some ys) new text line ended most h p e t' b = rw t.2 (go ended t.1)
  where
    t : Takes (Line ended) line most ys new
    t = subst (λ q. Takes q line most ys new) e t'

    go : (e : Bool) → e ≡ has_feed ys → ReadsNet (Whole text true) xs (Some (behind_line ys))
    go true e =
        let first : is_bar (first_line ys) ≡ true = ap is_bar (sym t.0) ∙ b in
        let l = line_with_feed ys (sym e) in
        let part : net_part (lines ys) ≡ [] = rw (l, first) refl in
        let rest : command_lines (lines ys) ≡ lines (behind_line ys) = rw (l, first) refl in
        let barred : has_bar (lines ys) ≡ true = rw (l, first) refl in
        (sym (append-nil text.items) ∙ ap (λ zs. text.items ++ zs) (sym part) ∙ sym h.0, sym (h.1 ∙ rest), sym (h.2 ∙ barred))
    go false e =
        let whole = all_line ys (sym e) in
        let same : line ≡ ys = t.0 ∙ whole.0 in
        let p = last_part ys (sym e) true (ap is_bar (sym same) ∙ b) in
        (sym (append-nil text.items) ∙ ap (λ zs. text.items ++ zs) (sym p.0) ∙ sym h.0, ap lines whole.1 ∙ sym (h.1 ∙ p.1), sym (h.2 ∙ p.2))

-- the input ended in front of a bar
pub read_end : (old now new : Option (List ℕ)) (text : Vec ℕ Global) (line : List ℕ) (most : ℕ) → HasRead old now text.items → (p : Piece) → p ≡ End → IfSome now (λ ys. Takes p line most ys new) → IfSome old (λ xs. ReadsNet (Whole text false) xs new)
read_end None now new text line most h p e t = tt
read_end (Some xs) None new text line most h p e t = absurd h
read_end (Some xs) (Some ys) new text line most h p e t' =
    let t : Takes End line most ys new = subst (λ q. Takes q line most ys new) e t' in
    let part : net_part (lines ys) ≡ [] = ap (λ zs. net_part (lines zs)) t.0 in
    let rest : command_lines (lines ys) ≡ [] = ap (λ zs. command_lines (lines zs)) t.0 in
    let barred : has_bar (lines ys) ≡ false = ap (λ zs. has_bar (lines zs)) t.0 in
    rw t.1 (sym (append-nil text.items) ∙ ap (λ zs. text.items ++ zs) (sym part) ∙ sym h.0, sym (h.1 ∙ rest), sym (h.2 ∙ barred))

-- a bar is short
bar_short : (line : List ℕ) → is_bar line ≡ true → length line ≤ 4
bar_short line h = go (bytes_eq line (codes "---")) refl (bytes_eq line (codes "---\r")) refl
  where
    go : (a : Bool) → bytes_eq line (codes "---") ≡ a → (b : Bool) → bytes_eq line (codes "---\r") ≡ b → length line ≤ 4
    go true p b q = let n : length line ≡ 3 = ap length ((bytes_eq-Decides line (codes "---")).0 p) in omega arith
    go false p true q = let n : length line ≡ 4 = ap length ((bytes_eq-Decides line (codes "---\r")).0 q) in omega arith
    go false p false q = let no : false ≡ true = rw (p, q) at h in cc

-- a line is longer than a net text may be
pub read_long : (old now new : Option (List ℕ)) (text line : List ℕ) → HasRead old now text → (p : Piece) → p ≡ pieces.TooLong → IfSome now (λ ys. Takes p line MAX_TEXT ys new) → IfSome old (λ xs. MAX_TEXT < length (net_part (lines xs)))
read_long None now new text line h p e t = tt
read_long (Some xs) None new text line h p e t = absurd h
read_long (Some xs) (Some ys) new text line h p e t' = go (has_feed ys) refl (is_bar (first_line ys)) refl
  where
    t : Takes pieces.TooLong line MAX_TEXT ys new
    t = subst (λ q. Takes q line MAX_TEXT ys new) e t'

    total : length (net_part (lines xs)) ≡ length text + length (net_part (lines ys))
    total = ap length h.0 ∙ length-append text (net_part (lines ys))

    go : (f : Bool) → has_feed ys ≡ f → (b : Bool) → is_bar (first_line ys) ≡ b → MAX_TEXT < length (net_part (lines xs))
    go f e true b = let short = bar_short (first_line ys) b in let many = t.0 in absurd (omega arith)
    go true e false b =
        let l = line_with_feed ys e in
        let part : net_part (lines ys) ≡ (first_line ys ++ 10 ∷ []) ++ net_part (lines (behind_line ys)) = rw (l, b) refl in
        let many : length (net_part (lines ys)) ≡ (length (first_line ys) + 1) + length (net_part (lines (behind_line ys))) = ap length part ∙ length-append (first_line ys ++ 10 ∷ []) (net_part (lines (behind_line ys))) ∙ ap (λ n. n + length (net_part (lines (behind_line ys)))) (length-append (first_line ys) (10 ∷ [])) in
        let over = t.0 in
        omega (arith, total)
    go false e false b =
        let whole = all_line ys e in
        let p = last_part ys e false (ap is_bar (sym whole.0) ∙ b) in
        let many : length (net_part (lines ys)) ≡ length (first_line ys) = ap length p.0 ∙ ap length (sym whole.0) in
        let over = t.0 in
        omega (arith, total)

-- what was read is longer than a net text may be
pub read_over : (old now : Option (List ℕ)) (text : List ℕ) → HasRead old now text → MAX_TEXT < length text → IfSome old (λ xs. MAX_TEXT < length (net_part (lines xs)))
read_over None now text h m = tt
read_over (Some xs) None text h m = absurd h
read_over (Some xs) (Some ys) text h m = let total = ap length h.0 ∙ length-append text (net_part (lines ys)) in omega arith
