-- Digits of a block that are put at their places, the last one first.
use Rattle.std.proofs.Common.{◌≡◌, ℕ, ◌+◌, ◌-◌, ◌*◌, ◌/◌, ◌%◌, ◌<◌, ◌≤◌, List, [], ◌∷◌, ◌++◌, length, take, drop, set, sym, ◌∙◌, ap, arith}
use Rattle.std.specs.List.{refill}
use Rattle.std.proofs.Math.ListN.{get_or}
use Rattle.std.proofs.Math.Seq.{take-append_seam}
use Rattle.std.proofs.lemmas.List.{take_more, take_all, take_at, take-append-drop, append_assoc, drop_more, drop_all, drop-set, get_or-drop, length-drop}
use Rattle.std.proofs.lemmas.List.Elements.{All-get_or}
use Rattle.ic_name.specs.Names.{Name, depth}
use Rattle.ic_names.specs.Keys.{IsProper}
use Rattle.ic_names.specs.Blocks.{anchor_depth, number_of, block_of}
use Rattle.ic_names.proofs.Blocks.{number-push}

-- the digits from `at` on stand at their places, and those before it, from `first` on, are the number
pub record ArePut (n : Name) (first at deep number : ℕ) (digits old : List ℕ) : Type 0 where
  pub left : number ≡ number_of (take (at - first) (drop first n.digits))
  pub put : drop at digits ≡ drop at n.digits ++ drop deep old

-- the number of a block at first
pub whole_block : (n : Name) (first at number : ℕ) → at ≡ depth n → first ≡ anchor_depth n → number ≡ block_of n → number ≡ number_of (take (at - first) (drop first n.digits))
whole_block n first at number deep anchor is =
    is ∙ ap (λ k. number_of (drop k n.digits)) (sym anchor) ∙ ap number_of (sym (take_all (at - first) (drop first n.digits) (omega (arith, length-drop first n.digits, deep))))

-- the last digit of a block, and the number of those before it
pub last_digit : (n : Name) (first at number : ℕ) → IsProper n → first ≤ at → at < depth n → number ≡ number_of (take (at + 1 - first) (drop first n.digits))
    → (number / 4 ≡ number_of (take (at - first) (drop first n.digits))) × (number % 4 ≡ get_or n.digits at 0)
last_digit n first at number is low high left =
    let xs = drop first n.digits in
    let k = at - first in
    let long : k < length xs = omega (arith, length-drop first n.digits, low, high) in
    let more : take (k + 1) xs ≡ take k xs ++ get_or xs k 0 ∷ [] = take_more xs k 0 long in
    let count : at + 1 - first ≡ k + 1 = omega (arith, low) in
    let at_k : first + k ≡ at = omega (arith, low) in
    let same : get_or xs k 0 ≡ get_or n.digits at 0 = get_or-drop first n.digits k 0 ∙ ap (λ i. get_or n.digits i 0) at_k in
    let small : get_or xs k 0 < 4 = let h = All-get_or (λ d. d < 4) n.digits at 0 high is.digit in omega (arith, same, h) in
    let number_is : number ≡ 4 * number_of (take k xs) + get_or xs k 0 =
    left ∙ ap (λ i. number_of (take i xs)) count ∙ ap number_of more ∙ number-push (take k xs) (get_or xs k 0) in
    (omega (arith, number_is, small), omega (arith, number_is, small, same))

-- at first none is put
pub none_put : (n : Name) (first at number : ℕ) (old : List ℕ) → at ≡ depth n → first ≡ anchor_depth n → number ≡ block_of n → ArePut n first at at number old old
none_put n first at number old deep anchor is = record {
  left = whole_block n first at number deep anchor is;
  put = ap (λ ds. ds ++ drop at old) (sym (drop_all at n.digits (omega (arith, deep))));
}

-- one digit more
pub one_put : (n : Name) (first at deep number : ℕ) (digits old : List ℕ) → IsProper n → first ≤ at → at < depth n → at < length digits
    → ArePut n first (at + 1) deep number digits old → ArePut n first at deep (number / 4) (set digits at (number % 4)) old
one_put n first at deep number digits old is low high inside are =
    let last = last_digit n first at number is low high are.left in
    record {
      left = last.0;
      put = drop-set digits at (number % 4) inside ∙ ap (λ ds. number % 4 ∷ ds) are.put ∙ ap (λ d. d ∷ (drop (at + 1) n.digits ++ drop deep old)) last.1
          ∙ ap (λ ds. ds ++ drop deep old) (sym (drop_more n.digits at 0 high));
    }

-- the digits of a name before a place, and those from there on with others behind them, are its digits with the others behind
pub joined_digits : (n : Name) (k : ℕ) (digits rest : List ℕ) → digits ≡ drop k n.digits ++ rest → take k n.digits ++ digits ≡ n.digits ++ rest
joined_digits n k digits rest are =
    ap (λ ds. take k n.digits ++ ds) are ∙ sym (append_assoc (take k n.digits) (drop k n.digits) rest) ∙ ap (λ ds. ds ++ rest) (take-append-drop k n.digits)

-- a list that is filled anew with one as long
pub refilled : (old new : List ℕ) → length new ≡ length old → refill (length old) old new ≡ new
refilled old new same = ap (λ k. take k (new ++ drop (length new) old)) (sym same) ∙ take-append_seam new (drop (length new) old)

-- a name of at most 32 digits has the digits that were put, and one without digits has none
pub short_digits : (n : Name) (first deep : ℕ) (digits old : List ℕ) → depth n ≤ 32 → deep ≡ depth n → first ≡ anchor_depth n → drop first digits ≡ drop first n.digits ++ drop deep old → take deep digits ≡ n.digits
short_digits n first deep digits old short is anchor put =
    let none : first ≡ 0 = omega (arith, short, anchor) in
    let all : digits ≡ n.digits ++ drop deep old = ap (λ k. drop k digits) (sym none) ∙ put ∙ ap (λ k. drop k n.digits ++ drop deep old) none in
    ap (λ ds. take deep ds) all ∙ take_at n.digits (drop deep old) deep (sym is)

pub no_digits : (n : Name) (deep : ℕ) (digits : List ℕ) → deep ≡ depth n → deep ≤ 0 → take deep digits ≡ n.digits
no_digits n deep digits is none =
    let zero_deep : deep ≡ 0 = omega (arith, none) in
    ap (λ k. take k digits) zero_deep ∙ ap (λ k. take k n.digits) (sym zero_deep) ∙ take_all deep n.digits (omega (arith, is))
