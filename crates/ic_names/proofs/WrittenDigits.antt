-- Digits of a block that are written after their dots, the last one first.
use Rattle.std.proofs.Common.{◌≡◌, ◌≢◌, ℕ, ◌+◌, ◌-◌, ◌*◌, ◌/◌, ◌%◌, ◌<◌, ◌≤◌, List, [], ◌∷◌, ◌++◌, length, take, drop, set, get_or, refl, sym, ◌∙◌, ap, arith}
use Rattle.std.proofs.lemmas.List.{append_assoc, take-append-drop, drop_more, drop_all, drop-set, length-set, get_or-set_other}
use Rattle.ic_name.specs.Names.{Name, depth}
use Rattle.ic_name.specs.NameTexts.{digits_text}
use Rattle.ic_names.specs.Keys.{IsProper}
use Rattle.ic_names.specs.Blocks.{anchor_depth, number_of, block_of}
use Rattle.ic_names.specs.DigitTexts.{HasDots}
use Rattle.ic_names.proofs.PutDigits.{whole_block, last_digit}

-- the text of digits with others behind them
pub digits_text-append : (ds es : List ℕ) → digits_text (ds ++ es) ≡ digits_text ds ++ digits_text es
digits_text-append [] es = refl
digits_text-append (d ∷ ds) es = ap (λ t. 46 ∷ (48 + d) ∷ t) (digits_text-append ds es)

-- a digit that is written leaves the dots
pub dots_kept : (t : List ℕ) (at x : ℕ) → HasDots t → HasDots (set t (2 * at + 1) x)
dots_kept t at x has = record {
  dots = λ k h.
      let other : 2 * k ≢ 2 * at + 1 = λ e. omega (arith, e) in
      get_or-set_other t (2 * at + 1) (2 * k) x 0 other ∙ has.dots k (omega (arith, length-set t (2 * at + 1) x, h));
}

-- the digits from `at` on are written, and those before it, from `first` on, are the number
pub record AreWritten (n : Name) (first at deep number : ℕ) (text old : List ℕ) : Type 0 where
  pub left : number ≡ number_of (take (at - first) (drop first n.digits))
  pub put : drop (2 * at) text ≡ digits_text (drop at n.digits) ++ drop (2 * deep) old

-- at first none is written
pub none_written : (n : Name) (first at number : ℕ) (old : List ℕ) → at ≡ depth n → first ≡ anchor_depth n → number ≡ block_of n → AreWritten n first at at number old old
none_written n first at number old deep anchor is = record {
  left = whole_block n first at number deep anchor is;
  put = ap (λ ds. digits_text ds ++ drop (2 * at) old) (sym (drop_all at n.digits (omega (arith, deep))));
}

-- one digit more
pub one_written : (n : Name) (first at deep number : ℕ) (text old : List ℕ) → IsProper n → first ≤ at → at < depth n → 2 * at + 1 < length text → HasDots text
    → AreWritten n first (at + 1) deep number text old → AreWritten n first at deep (number / 4) (set text (2 * at + 1) (48 + number % 4)) old
one_written n first at deep number text old is low high inside has are =
    let last = last_digit n first at number is low high are.left in
    let new = set text (2 * at + 1) (48 + number % 4) in
    let kept = dots_kept text at (48 + number % 4) has in
    let even : 2 * at < length new = omega (arith, length-set text (2 * at + 1) (48 + number % 4), inside) in
    let next : 2 * at + 1 + 1 ≡ 2 * (at + 1) = omega arith in
    let behind : drop (2 * at + 1) new ≡ (48 + get_or n.digits at 0) ∷ (digits_text (drop (at + 1) n.digits) ++ drop (2 * deep) old) =
    drop-set text (2 * at + 1) (48 + number % 4) inside ∙ ap (λ d. (48 + d) ∷ drop (2 * at + 1 + 1) text) last.1
    ∙ ap (λ k. (48 + get_or n.digits at 0) ∷ drop k text) next ∙ ap (λ ds. (48 + get_or n.digits at 0) ∷ ds) are.put in
    record {
      left = last.0;
      put = drop_more new (2 * at) 0 even ∙ ap (λ d. d ∷ drop (2 * at + 1) new) (kept.dots at even) ∙ ap (λ ds. 46 ∷ ds) behind
          ∙ ap (λ ds. digits_text ds ++ drop (2 * deep) old) (sym (drop_more n.digits at 0 high));
    }

-- the text of the first digits and that of the others, with more behind it
pub joined_text : (ds : List ℕ) (k : ℕ) (text rest : List ℕ) → text ≡ digits_text (drop k ds) ++ rest → digits_text (take k ds) ++ text ≡ digits_text ds ++ rest
joined_text ds k text rest is =
    ap (λ t. digits_text (take k ds) ++ t) is ∙ sym (append_assoc (digits_text (take k ds)) (digits_text (drop k ds)) rest)
    ∙ ap (λ t. t ++ rest) (sym (digits_text-append (take k ds) (drop k ds))) ∙ ap (λ es. digits_text es ++ rest) (take-append-drop k ds)
