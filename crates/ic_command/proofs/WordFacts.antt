-- Words by the bytes in front: blanks, then the bytes of a word, then the rest.
use Rattle.std.proofs.Common.{◌≡◌, ℕ, suc, ◌+◌, ◌≤◌, Bool, true, false, List, [], ◌∷◌, ◌++◌, length, take, drop, refl, sym, ap, arith, ◌∙◌, append_assoc, append-nil, ap₂, subst, ◌≢◌}
use Rattle.std.specs.Prelude.{if◌then◌else◌}
use Rattle.std.specs.List.{prefix_len}
use Rattle.ic_command.specs.Words.{is_blank, is_solid, words_after, words}

pub prefix_within : (p : ℕ → Bool) (xs : List ℕ) → prefix_len p xs ≤ length xs
prefix_within p [] = omega arith
prefix_within p (x ∷ xs) = go (p x) (prefix_within p xs)
  where
    go : (b : Bool) → prefix_len p xs ≤ length xs → (if b then 1 + prefix_len p xs else 0) ≤ suc (length xs)
    go true h = omega arith
    go false h = omega arith

-- blanks in front don't count
pub skip_blanks : (xs : List ℕ) → words xs ≡ words (drop (prefix_len is_blank xs) xs)
skip_blanks [] = refl
skip_blanks (x ∷ xs) = go (is_blank x) refl (skip_blanks xs)
  where
    go : (b : Bool) → is_blank x ≡ b → words xs ≡ words (drop (prefix_len is_blank xs) xs) → words (x ∷ xs) ≡ words (drop (prefix_len is_blank (x ∷ xs)) (x ∷ xs))
    go true e h =
        let n : prefix_len is_blank (x ∷ xs) ≡ suc (prefix_len is_blank xs) = rw e (omega arith) in
        let w : words (x ∷ xs) ≡ words xs = rw e refl in
        w ∙ h ∙ ap (λ k. words (drop k (x ∷ xs))) (sym n)
    go false e h = let n : prefix_len is_blank (x ∷ xs) ≡ 0 = rw e refl in ap (λ k. words (drop k (x ∷ xs))) (sym n)

-- the bytes of a word that has begun
word_on : (front xs : List ℕ) (f : ℕ) (fs : List ℕ) → front ≡ f ∷ fs → words_after front xs ≡ (front ++ take (prefix_len is_solid xs) xs) ∷ words (drop (prefix_len is_solid xs) xs)
word_on front [] f fs e = rw (e, append-nil) refl
word_on front (x ∷ xs) f fs e = go (is_blank x) refl (word_on (front ++ x ∷ []) xs f (fs ++ x ∷ []) (ap (λ ys. ys ++ x ∷ []) e))
  where
    go : (b : Bool) → is_blank x ≡ b → words_after (front ++ x ∷ []) xs ≡ ((front ++ x ∷ []) ++ take (prefix_len is_solid xs) xs) ∷ words (drop (prefix_len is_solid xs) xs)
        → words_after front (x ∷ xs) ≡ (front ++ take (prefix_len is_solid (x ∷ xs)) (x ∷ xs)) ∷ words (drop (prefix_len is_solid (x ∷ xs)) (x ∷ xs))
    go true b h =
        let n : prefix_len is_solid (x ∷ xs) ≡ 0 = rw b refl in
        let rest : words (x ∷ xs) ≡ words xs = rw b refl in
        let here : words_after front (x ∷ xs) ≡ front ∷ words xs = rw (b, e) refl in
        here ∙ ap₂ (λ (w : List ℕ) (ws : List (List ℕ)). w ∷ ws) (sym (append-nil front) ∙ ap (λ k. front ++ take k (x ∷ xs)) (sym n)) (sym rest ∙ ap (λ k. words (drop k (x ∷ xs))) (sym n))
    go false b h =
        let n : prefix_len is_solid (x ∷ xs) ≡ suc (prefix_len is_solid xs) = rw b (omega arith) in
        let here : words_after front (x ∷ xs) ≡ words_after (front ++ x ∷ []) xs = rw b refl in
        here ∙ h ∙ ap₂ (λ (w : List ℕ) (ws : List (List ℕ)). w ∷ ws) (append_assoc front (x ∷ []) (take (prefix_len is_solid xs) xs) ∙ ap (λ k. front ++ take k (x ∷ xs)) (sym n)) (ap (λ k. words (drop k (x ∷ xs))) (sym n))

-- a word is what stands in front of the next blank
pub first_word : (xs : List ℕ) → take (prefix_len is_solid xs) xs ≢ [] → words xs ≡ take (prefix_len is_solid xs) xs ∷ words (drop (prefix_len is_solid xs) xs)
first_word [] h = absurd (h refl)
first_word (x ∷ xs) h = go (is_blank x) refl
  where
    go : (b : Bool) → is_blank x ≡ b → words (x ∷ xs) ≡ take (prefix_len is_solid (x ∷ xs)) (x ∷ xs) ∷ words (drop (prefix_len is_solid (x ∷ xs)) (x ∷ xs))
    go true b = let n : prefix_len is_solid (x ∷ xs) ≡ 0 = rw b refl in absurd (h (ap (λ k. take k (x ∷ xs)) n))
    go false b =
        let n : prefix_len is_solid (x ∷ xs) ≡ suc (prefix_len is_solid xs) = rw b (omega arith) in
        let here : words (x ∷ xs) ≡ words_after (x ∷ []) xs = rw b refl in
        here ∙ word_on (x ∷ []) xs x [] refl ∙ ap₂ (λ (w : List ℕ) (ws : List (List ℕ)). w ∷ ws) (ap (λ k. take k (x ∷ xs)) (sym n)) (ap (λ k. words (drop k (x ∷ xs))) (sym n))

-- behind the blanks stands a word, or nothing
pub no_word : (xs : List ℕ) → take (prefix_len is_solid (drop (prefix_len is_blank xs) xs)) (drop (prefix_len is_blank xs) xs) ≡ [] → words xs ≡ []
no_word [] h = refl
no_word (x ∷ xs) h = go (is_blank x) refl (no_word xs)
  where
    go : (b : Bool) → is_blank x ≡ b → (take (prefix_len is_solid (drop (prefix_len is_blank xs) xs)) (drop (prefix_len is_blank xs) xs) ≡ [] → words xs ≡ []) → words (x ∷ xs) ≡ []
    go true b f =
        let n : prefix_len is_blank (x ∷ xs) ≡ suc (prefix_len is_blank xs) = rw b (omega arith) in
        let w : words (x ∷ xs) ≡ words xs = rw b refl in
        let h' : take (prefix_len is_solid (drop (prefix_len is_blank xs) xs)) (drop (prefix_len is_blank xs) xs) ≡ [] =
        subst (λ k. take (prefix_len is_solid (drop k (x ∷ xs))) (drop k (x ∷ xs)) ≡ []) n h in
        w ∙ f h'
    go false b f =
        let n : prefix_len is_blank (x ∷ xs) ≡ 0 = rw b refl in
        let m : prefix_len is_solid (x ∷ xs) ≡ suc (prefix_len is_solid xs) = rw b (omega arith) in
        let h' : take (prefix_len is_solid (x ∷ xs)) (x ∷ xs) ≡ [] = subst (λ k. take (prefix_len is_solid (drop k (x ∷ xs))) (drop k (x ∷ xs)) ≡ []) n h in
        let h'' : take (suc (prefix_len is_solid xs)) (x ∷ xs) ≡ [] = subst (λ k. take k (x ∷ xs) ≡ []) m h' in
        cc

-- what the cuts of a line give, where there is a word and where there is none
pub cut_word : (line word behind rest : List ℕ) → rest ≡ drop (prefix_len is_blank line) line → word ≡ take (prefix_len is_solid rest) rest → behind ≡ drop (prefix_len is_solid rest) rest
    → word ≢ [] → words line ≡ word ∷ words behind
cut_word line word behind rest r w b n =
    let found : take (prefix_len is_solid rest) rest ≢ [] = λ e. n (w ∙ e) in
    skip_blanks line ∙ ap words (sym r) ∙ first_word rest found ∙ ap₂ (λ (x : List ℕ) (ys : List (List ℕ)). x ∷ ys) (sym w) (ap words (sym b))

pub cut_none : (line word rest : List ℕ) → rest ≡ drop (prefix_len is_blank line) line → word ≡ take (prefix_len is_solid rest) rest → word ≡ [] → words line ≡ []
cut_none line word rest r w n = no_word line (rw (← r) (sym w ∙ n))
