-- The lines of rings, one by one.
use Rattle.std.proofs.Common.{◌≡◌, ℕ, suc, ◌+◌, ◌-◌, ◌<◌, ◌≤◌, List, ◌++◌, refl, sym, ◌∙◌, arith, append_assoc}
use Rattle.std.proofs.lemmas.List.{append-nil}
use Rattle.ic_text.specs.NetText.{ring_lines}
use Rattle.ic_text.specs.Lines.{ring_line}

-- the first ring's line, and then the others'
ring_first : (k n : ℕ) → ring_lines k (suc n) ≡ ring_line k ++ ring_lines (k + 1) n
ring_first k n = simp append_assoc

-- a ring's line is the first of those that are left
pub one_ring : (out out' all : List ℕ) (n i k : ℕ) → i < n → out ++ ring_lines (k + i) (n - i) ≡ all → out' ≡ out ++ ring_line (k + i) → out' ++ ring_lines (k + (i + 1)) (n - (i + 1)) ≡ all
one_ring out out' all n i k lt so_far e =
    let m : n - i ≡ suc (n - (i + 1)) = omega arith in
    let j : (k + i) + 1 ≡ k + (i + 1) = omega arith in
    let first : ring_lines (k + i) (suc (n - (i + 1))) ≡ ring_line (k + i) ++ ring_lines ((k + i) + 1) (n - (i + 1)) = ring_first (k + i) (n - (i + 1)) in
    let one : out ++ ring_lines (k + i) (n - i) ≡ out ++ (ring_line (k + i) ++ ring_lines (k + (i + 1)) (n - (i + 1))) = rw m (rw (first, j) refl) in
    rw e (append_assoc out (ring_line (k + i)) (ring_lines (k + (i + 1)) (n - (i + 1))) ∙ sym one ∙ so_far)

-- after the last ring nothing is left
pub no_rings : (out all : List ℕ) (n i k : ℕ) → n ≤ i → out ++ ring_lines (k + i) (n - i) ≡ all → out ≡ all
no_rings out all n i k le so_far =
    let m : n - i ≡ 0 = omega arith in
    sym (append-nil out) ∙ (rw m at so_far)
