use Rattle.std.proofs.Common.{max, rules, ◌≡◌, ℕ, ◌+◌, ◌<◌, ◌≤◌, ◌⊎◌, List, [], ◌∷◌, ◌++◌, inl, inr, length, get_or, refl, ap, arith, ◌∙◌}
use Rattle.std.proofs.Math.Nat.{max-eq_left, max-eq_right}
use Rattle.std.proofs.lemmas.Bool.{cases_lt}
use Rattle.ic_path.specs.Orders.{IsIn}
use Rattle.ic_path.proofs.Picks.{in-cons_cases, none_in, in_first, pick_before}
use Rattle.ic_link.proofs.InPlace.{in_at}
use Rattle.ic_path.proofs.InLists.{in-append_cases, in_behind}
use Rattle.ic_trace.specs.declared.known.Known.{Known}
use Rattle.ic_trace.specs.Known.{rank_at, IsRankAbove}
use Rattle.ic_trace.proofs.ByNumber.{read_rank}
use Rattle.ic_trace.proofs.known.rank_above.Goals as goal
use Rattle.ic_path.proofs.ListPlaces.{seen_more}

-- the greater of two numbers
record Greatest (a b new : ℕ) : Type 0 where
  first : a ≤ new
  second : b ≤ new
  one : (new ≡ a) ⊎ (new ≡ b)

greatest : (a b : ℕ) → Greatest a b (max a b)
greatest a b = by (cases_lt a b)
  where
    by : (a < b) ⊎ (b ≤ a) → Greatest a b (max a b)
    by (inl less) = let e : max a b ≡ b = max-eq_right (omega (arith, less)) in record { first = omega (arith, e, less); second = omega (arith, e); one = inr e }
    by (inr more) = let e : max a b ≡ a = max-eq_left more in record { first = omega (arith, e); second = omega (arith, e, more); one = inl e }

-- one cause more
above_more : {ks : List Known} {causes : List ℕ} {rank : ℕ} (j new : ℕ) → IsRankAbove ks causes rank → Greatest rank (rank_at ks j + 1) new → IsRankAbove ks (causes ++ j ∷ []) new
above_more {ks} {causes} {rank} j new h g = record {
  above = λ i k. elim (in-append_cases causes k) [ inl m ↦ (let l = h.above i m in let f = g.first in omega arith) | inr m ↦ elim (in-cons_cases m) [ inl q ↦ (let s : rank_at ks i ≡ rank_at ks j = ap (rank_at ks) q in let f = g.second in omega arith) | inr n ↦ absurd (none_in n) ] ];
  least = by g.one h.least;
}
  where
    by : (new ≡ rank) ⊎ (new ≡ rank_at ks j + 1) → (rank ≡ 0) ⊎ ((x : ℕ) × IsIn x causes × (rank ≡ rank_at ks x + 1)) → (new ≡ 0) ⊎ ((x : ℕ) × IsIn x (causes ++ j ∷ []) × (new ≡ rank_at ks x + 1))
    by (inr e) l = inr (j, in_behind causes (in_first j []), e)
    by (inl e) (inl z) = inl (e ∙ z)
    by (inl e) (inr w) = inr (w.0, in_before w.1, e ∙ w.2)
      where
        in_before : {x : ℕ} → IsIn x causes → IsIn x (causes ++ j ∷ [])
        in_before i = (_, pick_before (j ∷ []) i.1)

pub bounds-known-cause : goal.bounds-known-cause
bounds-known-cause c = c.requires.inside _ (in_at c.args.causes.now c.loop-cause.cause-index 0 c.loop-cause-test.true)

pub bounds-known-cause-in-loop-cause : goal.bounds-known-cause-in-loop-cause
bounds-known-cause-in-loop-cause c = c.requires.inside _ (in_at c.args.causes.now c.loop-cause.cause-index 0 c.loop-cause-test.true)

pub offset_bounds-known-cause : goal.offset_bounds-known-cause
offset_bounds-known-cause c = let h : get_or c.args.causes.now c.loop-cause.cause-index 0 < length c.args.known.now = c.requires.inside _ (in_at c.args.causes.now c.loop-cause.cause-index 0 c.loop-cause-test.true) in search rules

pub rank_with-rank-requires : goal.rank_with-rank-requires
rank_with-rank-requires c =
    let i = get_or c.args.causes.now c.loop-cause.cause-index 0 in
    let h : i < length c.args.known.now = c.requires.inside _ (in_at c.args.causes.now c.loop-cause.cause-index 0 c.loop-cause-test.true) in
    let low : (get_or c.args.known.now i c.index-known-cause.result).rank < length c.args.known.now = c.requires.low _ (in_at c.args.known.now i c.index-known-cause.result h) in
    let few = c.requires.few in
    let e = ap (λ (x : Known). x.rank) c.index-known-cause.is in
    omega (arith, low, few, e)

pub loop-cause-preserved : goal.loop-cause-preserved
loop-cause-preserved c =
    let ks = c.args.known.now in
    let k = c.index-known-cause.result in
    let i = get_or c.args.causes.now c.loop-cause.cause-index 0 in
    let h : i < length ks = c.requires.inside _ (in_at c.args.causes.now c.loop-cause.cause-index 0 c.loop-cause-test.true) in
    let low : (get_or ks i k).rank < length ks = c.requires.low _ (in_at ks i k h) in
    let is : rank_at ks i ≡ (get_or ks i k).rank = read_rank ks i k h c.index-known-cause.is ∙ ap (λ (x : Known). x.rank) c.index-known-cause.is in
    let g : Greatest c.loop-cause.rank ((get_or ks i k).rank + 1) c.rank_with-rank.result = rw c.rank_with-rank.ensures (greatest c.loop-cause.rank ((get_or ks i k).rank + 1)) in
    let m = c.loop-cause.invariant.low in
    record {
      low = by g.one low m;
      above = rw (seen_more c.args.causes.now c.loop-cause.cause-index i 0 c.loop-cause-test.true refl) (above_more i c.rank_with-rank.result c.loop-cause.invariant.above (rw is g));
    }
  where
    by : {a r n new : ℕ} → (new ≡ a) ⊎ (new ≡ r + 1) → r < n → a ≤ n → new ≤ n
    by (inl e) l m = omega arith
    by (inr e) l m = omega arith
