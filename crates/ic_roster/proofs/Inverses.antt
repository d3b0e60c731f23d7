-- A table of keys into which one key is entered, or from which one is taken.
use Rattle.std.proofs.Common.{◌≡◌, ◌≢◌, ◌⊎◌, ℕ, Bool, true, false, cond, Option, Some, None, inl, inr, refl, sym, ap, ◌∙◌}
use Rattle.std.specs.Prelude.{◌==◌}
use Rattle.std.proofs.lemmas.Bool.{cases_eq, eqb-true, eq-eqb}
use Rattle.ic_roster.specs.Inverses.{IsInverse}

-- a key that the table lacks is entered with a slot that had none
pub inverse_entered : (find found at at' : ℕ → Option ℕ) (c k : ℕ) → IsInverse find at → find c ≡ None → at k ≡ None → at' k ≡ Some c
    → ((j : ℕ) → j ≢ k → at' j ≡ at j) → ((q : ℕ) → found q ≡ cond (q == c) (Some k) (find q)) → IsInverse found at'
inverse_entered find found at at' c k both new vacant filled others enters q j = (to (q == c) refl, from (cases_eq j k))
  where
    to : (b : Bool) → q == c ≡ b → found q ≡ Some j → at' j ≡ Some q
    to true t e =
        let n : Some k ≡ Some j = sym (ap (λ b. cond b (Some k) (find q)) t) ∙ sym (enters q) ∙ e in
        let s : k ≡ j = cc in
        ap at' (sym s) ∙ filled ∙ ap Some (sym (eqb-true q c t))
    to false t e =
        let n : find q ≡ Some j = sym (ap (λ b. cond b (Some k) (find q)) t) ∙ sym (enters q) ∙ e in
        let m : at j ≡ Some q = (both q j).0 n in
        others j (λ s. (let v : None ≡ Some q = sym vacant ∙ ap at (sym s) ∙ m in absurd cc)) ∙ m

    kept : (b : Bool) → q == c ≡ b → find q ≡ Some j → found q ≡ Some j
    kept true t e = let v : None ≡ Some j = sym new ∙ ap find (sym (eqb-true q c t)) ∙ e in absurd cc
    kept false t e = enters q ∙ ap (λ b. cond b (Some k) (find q)) t ∙ e

    from : (j ≡ k) ⊎ (j ≢ k) → at' j ≡ Some q → found q ≡ Some j
    from (inl s) e =
        let v : Some c ≡ Some q = sym filled ∙ ap at' (sym s) ∙ e in
        let w : c ≡ q = cc in
        ap found (sym w) ∙ enters c ∙ ap (λ b. cond b (Some k) (find c)) (eq-eqb c c refl) ∙ ap Some (sym s)
    from (inr d) e = kept (q == c) refl ((both q j).1 (sym (others j d) ∙ e))

-- a key is taken from the table with its slot
pub inverse_taken : (find found at at' : ℕ → Option ℕ) (c k : ℕ) → IsInverse find at → at k ≡ Some c → at' k ≡ None
    → ((j : ℕ) → j ≢ k → at' j ≡ at j) → ((q : ℕ) → found q ≡ cond (q == c) None (find q)) → IsInverse found at'
inverse_taken find found at at' c k both was vacant others takes q j = (to (q == c) refl, from (cases_eq j k))
  where
    to : (b : Bool) → q == c ≡ b → found q ≡ Some j → at' j ≡ Some q
    to true t e =
        let n : None ≡ Some j = sym (ap (λ b. cond b None (find q)) t) ∙ sym (takes q) ∙ e in
        absurd cc
    to false t e =
        let n : find q ≡ Some j = sym (ap (λ b. cond b None (find q)) t) ∙ sym (takes q) ∙ e in
        let m : at j ≡ Some q = (both q j).0 n in
        others j (λ s. (let v : Some c ≡ Some q = sym was ∙ ap at (sym s) ∙ m in
        let w : c ≡ q = cc in
        let x : true ≡ false = sym (eq-eqb c c refl) ∙ ap (λ p. p == c) w ∙ t in absurd cc)) ∙ m

    kept : (b : Bool) → q == c ≡ b → j ≢ k → find q ≡ Some j → found q ≡ Some j
    kept true t d e =
        let v : Some j ≡ Some k = sym e ∙ ap find (eqb-true q c t) ∙ (both c k).1 was in
        let w : j ≡ k = cc in
        absurd (d w)
    kept false t d e = takes q ∙ ap (λ b. cond b None (find q)) t ∙ e

    from : (j ≡ k) ⊎ (j ≢ k) → at' j ≡ Some q → found q ≡ Some j
    from (inl s) e = let v : None ≡ Some q = sym vacant ∙ ap at' (sym s) ∙ e in absurd cc
    from (inr d) e = kept (q == c) refl d ((both q j).1 (sym (others j d) ∙ e))

-- no two slots have one key
pub inverse_one : (find at : ℕ → Option ℕ) → IsInverse find at → (j k c : ℕ) → at j ≡ Some c → at k ≡ Some c → j ≡ k
inverse_one find at both j k c first second =
    let e : Some j ≡ Some k = sym ((both c j).1 first) ∙ (both c k).1 second in
    cc

-- a table that finds the same is read both ways, too
pub inverse_same : (find found at : ℕ → Option ℕ) → IsInverse find at → ((q : ℕ) → found q ≡ find q) → IsInverse found at
inverse_same find found at both same q j = (λ e. (both q j).0 (sym (same q) ∙ e), λ e. same q ∙ (both q j).1 e)
