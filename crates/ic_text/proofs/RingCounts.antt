-- How often a number stands among those of the rings.
use Rattle.std.proofs.Common.{◌≡◌, ◌≢◌, ℕ, zero, suc, ◌+◌, ◌^◌, ◌≤◌, ◌<◌, Bool, true, false, eqb, List, refl, sym, ap, ◌∙◌, arith}
use Rattle.std.specs.Str.{bytes_eq}
use Rattle.std.specs.Cmp.{both_ways}
use Rattle.std.proofs.lemmas.Bool.{eqb-true, eq-eqb, false_from_ne_true}
use Rattle.std.proofs.lemmas.Bool.Decides.{nat_tests}
use Rattle.std.proofs.lemmas.Slice.Eq.{bytes_eq-Decides}
use Rattle.ic_text.proofs.Distinct.{times_in}
use Rattle.ic_text.specs.NetText.{numbered}
use Rattle.ic_text.specs.Printable.{IsFreeName}
use Rattle.ic_text.proofs.LabelFacts.{numbered_one, numbered_apart}
use Rattle.ic_text.proofs.TextNames.{ring_names}

-- different texts
pub texts_apart : (x y : List ℕ) → x ≢ y → bytes_eq x y ≡ false
texts_apart x y n = false_from_ne_true _ (λ t. n ((bytes_eq-Decides x y).0 t))

-- the texts of numbers are equal where the numbers are
pub number_test : (m k : ℕ) → m < 2 ^ 64 → k < 2 ^ 64 → bytes_eq (numbered m) (numbered k) ≡ eqb m k
number_test m k lt lt' =
    both_ways _ _
    (λ t. eq-eqb m k (numbered_one m k lt lt' ((bytes_eq-Decides (numbered m) (numbered k)).0 t)))
    (λ t. (bytes_eq-Decides (numbered m) (numbered k)).1 (ap numbered (eqb-true m k t)))

-- a lesser number is no ring's
pub rings_above : (m k n : ℕ) → m < k → k + n < 2 ^ 64 → times_in (numbered m) (ring_names k n) ≡ 0
rings_above m k zero lt le = refl
rings_above m k (suc n) lt le =
    let other : eqb m k ≡ false = grind (arith, nat_tests) in
    let test : bytes_eq (numbered m) (numbered k) ≡ false = number_test m k (omega arith) (omega arith) ∙ other in
    let rest = rings_above m (k + 1) n (omega arith) (omega arith) in
    rw test (omega (arith, rest))

-- the number of a ring stands twice
pub rings_twice : (m k n : ℕ) → k ≤ m → m < k + n → k + n < 2 ^ 64 → times_in (numbered m) (ring_names k n) ≡ 2
rings_twice m k zero low high le = absurd (omega arith)
rings_twice m k (suc n) low high le = go (eqb m k) refl (λ low'. rings_twice m (k + 1) n low' (omega arith) (omega arith))
  where
    go : (b : Bool) → eqb m k ≡ b → (k + 1 ≤ m → times_in (numbered m) (ring_names (k + 1) n) ≡ 2) → times_in (numbered m) (ring_names k (suc n)) ≡ 2
    go true e ih =
        let same : m ≡ k = eqb-true m k e in
        let test : bytes_eq (numbered m) (numbered k) ≡ true = number_test m k (omega arith) (omega arith) ∙ e in
        let rest = rings_above m (k + 1) n (omega arith) (omega arith) in
        rw test (omega (arith, rest))
    go false e ih =
        let test : bytes_eq (numbered m) (numbered k) ≡ false = number_test m k (omega arith) (omega arith) ∙ e in
        let more : k + 1 ≤ m = grind (arith, nat_tests) in
        let rest = ih more in
        rw test (omega (arith, rest))

-- a name that may stand free is no ring's
pub rings_none : (x : List ℕ) (k n : ℕ) → IsFreeName x → times_in x (ring_names k n) ≡ 0
rings_none x k zero h = refl
rings_none x k (suc n) h =
    let test : bytes_eq x (numbered k) ≡ false = texts_apart x (numbered k) (λ e. numbered_apart k x h (sym e)) in
    rw test (omega (arith, rings_none x (k + 1) n h))
