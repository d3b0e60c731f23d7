-- A new table keeps the rule.
use Rattle.std.proofs.Common.{◌≡◌, ℕ, zero, suc, ◌+◌, ◌≤◌, true≢false, [], ◌∷◌, sym, refl, ap, subst, inl, arith}
use Rattle.std.specs.Prelude.{slice_index, min}
use Rattle.std.proofs.Math.ListN.{length-replicate, replicate}
use mathlib.Core.Option.{some, some-injective, some-ne-none}
use lib.ListN.{get_elem?}
use Rattle.ic_claim.specs.declared.view.View.{View}
use Rattle.ic_claim.specs.Counts.{one_if}
use Rattle.ic_claim.specs.Views.{new_view}
use Rattle.ic_claim.specs.Rule.{Fits, Agree}
use Rattle.ic_claim.proofs.Drawing.{nat_lt-not}

zeros : (n w : ℕ) → slice_index (replicate n 0) w ≡ 0
zeros zero w = refl
zeros (suc n) zero = refl
zeros (suc n) (suc w) = zeros n w

only_first : (b k : ℕ) (v : View) → get_elem? (new_view b 0 ∷ []) k ≡ some v → Fits b (replicate 1026 0) (new_view b 0 ∷ []) k v
only_first b zero v at = subst (Fits b (replicate 1026 0) (new_view b 0 ∷ []) 0) (some-injective _ _ at)
    record {
      numbered = λ l. refl;
      budgeted = λ l. refl;
      emptied = λ spent. absurd (true≢false (sym spent));
      holds = λ w held. absurd (cc held);
      told = λ knows. absurd (true≢false (sym knows));
      used_up = λ some_none. absurd (some_none refl);
      own_none = λ l. refl;
      kept_none = λ l. refl;
    }
only_first b (suc k) v at = absurd (some-ne-none v (sym at))

pub opens : (b : ℕ) → b ≤ 1048576 → Agree b (replicate 1026 0) (new_view b 0 ∷ [])
opens b small =
    let ticket : slice_index (replicate 1026 0) 1 ≡ 0 = zeros 1026 1 in
    record {
      places = length-replicate {A = ℕ} 1026 0;
      bounded = small;
      first = (new_view b 0, record { there = refl; unspent = refl; counted = refl; most = omega arith });
      fits = only_first b;
      claims = λ w lt. inl (zeros 1026 (w + 2));
      tickets = λ x. sym (ap one_if (nat_lt-not x (min (slice_index (replicate 1026 0) 1) b) (omega arith)));
      nones = λ x. omega arith;
      over = omega arith;
      homes = refl;
      stop = zeros 1026 0;
    }
