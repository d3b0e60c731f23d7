-- A line whose words have no bytes but plain ones has no others, and the names of agents are such words.
use Rattle.std.proofs.Common.{◌≡◌, ℕ, ◌+◌, ◌<◌, ◌≤◌, Bool, true, false, ◌&&◌, List, [], ◌∷◌, ◌++◌, refl, sym, ◌∙◌, append_assoc, append-nil, arith, subst, eqb}
use Rattle.std.proofs.lemmas.Bool.{and_from, and_parts, eqb-true, leb-true, le-leb}
use Rattle.std.proofs.lemmas.List.Elements.{All-head, All-tail}
use Rattle.std.proofs.lemmas.List.Folds.{list_all-append}
use Rattle.std.specs.Prelude.{All, ◌||◌}
use Rattle.std.specs.Fmt.{decimal}
use Rattle.std.specs.List.{list_all, AllByRecursion}
use Rattle.ic_name.specs.Names.{Name, IsName}
use Rattle.ic_name.specs.Events.{Pair}
use Rattle.ic_name.specs.NameTexts.{digits_text, name_text}
use Rattle.ic_text.specs.Texts.{is_digit}
use Rattle.ic_text.proofs.Spelled.{decimal_digits}
use Rattle.ic_command.specs.Commands.{AreAgents, are_plain_words, is_plain}
use Rattle.ic_command.specs.Words.{is_blank, last_word, words_after, words}

-- a byte between the blank and the tilde
plain_between : (b : ℕ) → 32 ≤ b → b ≤ 126 → is_plain b ≡ true
plain_between b least most = or_first _ _ (and_from _ _ (le-leb 32 b least) (le-leb b 126 most))
  where
    or_first : (x y : Bool) → x ≡ true → (x || y) ≡ true
    or_first true y e = refl
    or_first false y e = absurd cc

-- what divides words is plain
plain_blank : (b : ℕ) → is_blank b ≡ true → is_plain b ≡ true
plain_blank b e = go (eqb b 32) (eqb b 9) refl refl e
  where
    go : (s t : Bool) → eqb b 32 ≡ s → eqb b 9 ≡ t → (s || t) ≡ true → is_plain b ≡ true
    go true t space tab e = rw (eqb-true b 32 space) refl
    go false true space tab e = rw (eqb-true b 9 tab) refl
    go false false space tab e = absurd cc

plain_last : (front : List ℕ) → are_plain_words (last_word front) ≡ true → list_all is_plain front ≡ true
plain_last [] e = refl
plain_last (f ∷ fs) e = (and_parts _ _ e).0

-- what is left, of whose first word some bytes have come
plain_after : (front xs : List ℕ) → are_plain_words (words_after front xs) ≡ true → list_all is_plain (front ++ xs) ≡ true
plain_after front [] e = subst (λ ys. list_all is_plain ys ≡ true) (sym (append-nil front)) (plain_last front e)
plain_after front (x ∷ xs) e = go (is_blank x) refl (plain_after [] xs) (plain_after (front ++ x ∷ []) xs)
  where
    go : (b : Bool) → is_blank x ≡ b → (are_plain_words (words xs) ≡ true → list_all is_plain xs ≡ true)
        → (are_plain_words (words_after (front ++ x ∷ []) xs) ≡ true → list_all is_plain ((front ++ x ∷ []) ++ xs) ≡ true) → list_all is_plain (front ++ x ∷ xs) ≡ true
    go true blank rest on =
        let cut : words_after front (x ∷ xs) ≡ last_word front ++ words xs = rw blank refl in
        let both = sym (list_all-append (list_all is_plain) (last_word front) (words xs)) ∙ subst (λ ws. are_plain_words ws ≡ true) cut e in
        let parts = and_parts _ _ both in
        list_all-append is_plain front (x ∷ xs) ∙ and_from _ _ (plain_last front parts.0) (and_from _ _ (plain_blank x blank) (rest parts.1))
    go false blank rest on =
        let longer : words_after front (x ∷ xs) ≡ words_after (front ++ x ∷ []) xs = rw blank refl in
        subst (λ ys. list_all is_plain ys ≡ true) (append_assoc front (x ∷ []) xs) (on (subst (λ ws. are_plain_words ws ≡ true) longer e))

pub plain_line : (line : List ℕ) → are_plain_words (words line) ≡ true → list_all is_plain line ≡ true
plain_line line e = plain_after [] line e

-- the digits of a number
plain_digit : (d : ℕ) → is_digit d ≡ true → is_plain d ≡ true
plain_digit d h =
    let parts = and_parts _ _ h in
    let least : 48 ≤ d = leb-true _ _ parts.0 in
    let most : d ≤ 57 = leb-true _ _ parts.1 in
    plain_between d (omega (arith, least)) (omega (arith, most))

plain_decimal : (ds : List ℕ) → AllByRecursion (λ b. is_digit b ≡ true) ds → list_all is_plain ds ≡ true
plain_decimal [] h = refl
plain_decimal (d ∷ ds) h = and_from _ _ (plain_digit d h.0) (plain_decimal ds h.1)

plain_digits : (ds : List ℕ) → All (λ d. d < 4) ds → list_all is_plain (digits_text ds) ≡ true
plain_digits [] h = refl
plain_digits (d ∷ ds) h =
    let small = All-head (λ e. e < 4) d ds h in
    and_from _ _ (plain_between (48 + d) (omega arith) (omega (arith, small))) (plain_digits ds (All-tail (λ e. e < 4) d ds h))

plain_name : (n : Name) → IsName n → list_all is_plain (name_text n) ≡ true
plain_name n is = list_all-append is_plain (decimal n.start) (digits_text n.digits) ∙ and_from _ _ (plain_decimal (decimal n.start) (decimal_digits n.start)) (plain_digits n.digits is.digit)

-- the names of two agents
pub plain_agents : {ws : List (List ℕ)} {e : Pair} → AreAgents ws e → are_plain_words ws ≡ true
plain_agents a =
    subst (λ ws. are_plain_words ws ≡ true) (sym a.written)
    (and_from _ _ (plain_name a.first a.first_is) (and_from _ _ (plain_name a.second a.second_is) refl))
