-- Words end at blanks.
use Rattle.std.proofs.Common.{◌≡◌, ◌≢◌, ℕ, Bool, true, false, List, [], ◌∷◌, ◌++◌, refl, sym, ap, ◌∙◌, append_assoc, append-nil}
use Rattle.std.proofs.lemmas.List.Elements.{All-head, All-tail}
use Rattle.std.specs.Prelude.{All}
use Rattle.ic_command.specs.Words.{words, words_after, last_word, is_blank}

-- a word that has begun ends at the next blank
parted_after : (begun front behind : List ℕ) (blank : ℕ) → is_blank blank ≡ true → words_after begun (front ++ blank ∷ behind) ≡ words_after begun front ++ words behind
parted_after begun [] behind blank h = rw h refl
parted_after begun (x ∷ xs) behind blank h = go (is_blank x) refl (parted_after [] xs behind blank h) (parted_after (begun ++ x ∷ []) xs behind blank h)
  where
    go : (b : Bool) → is_blank x ≡ b → words_after [] (xs ++ blank ∷ behind) ≡ words_after [] xs ++ words behind
        → words_after (begun ++ x ∷ []) (xs ++ blank ∷ behind) ≡ words_after (begun ++ x ∷ []) xs ++ words behind
        → words_after begun (x ∷ (xs ++ blank ∷ behind)) ≡ words_after begun (x ∷ xs) ++ words behind
    go true e f g = rw e (ap (λ ws. last_word begun ++ ws) f ∙ sym (append_assoc (last_word begun) (words_after [] xs) (words behind)))
    go false e f g = rw e g

pub words_parted : (front behind : List ℕ) (blank : ℕ) → is_blank blank ≡ true → words (front ++ blank ∷ behind) ≡ words front ++ words behind
words_parted front behind blank h = parted_after [] front behind blank h

-- without a blank it goes to the end
word_after : (begun front : List ℕ) → All (λ byte. is_blank byte ≡ false) front → words_after begun front ≡ last_word (begun ++ front)
word_after begun [] h = rw append-nil refl
word_after begun (x ∷ xs) h =
    let solid : is_blank x ≡ false = All-head (λ byte. is_blank byte ≡ false) x xs h in
    rw solid (word_after (begun ++ x ∷ []) xs (All-tail (λ byte. is_blank byte ≡ false) x xs h) ∙ ap last_word (append_assoc begun (x ∷ []) xs))

pub word_alone : (front : List ℕ) → front ≢ [] → All (λ byte. is_blank byte ≡ false) front → words front ≡ front ∷ []
word_alone [] n h = absurd (n refl)
word_alone (x ∷ xs) n h = word_after [] (x ∷ xs) h
