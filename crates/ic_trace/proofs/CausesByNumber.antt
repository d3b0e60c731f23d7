-- Direct causes and concurrency by numbers.
use Rattle.std.proofs.Common.{◌≡◌, ◌↔◌, ℕ, ◌<◌, ◌⊎◌, Bool, true, false, not, List, length, get_or, inl, inr, refl, sym, ap, subst}
use Rattle.std.specs.Prelude.{IsTrue}
use Rattle.ic_path.specs.Orders.{IsIn}
use Rattle.ic_link.proofs.InPlace.{in_at}
use Rattle.ic_path.proofs.InLists.{map_cases, in-map}
use Rattle.ic_theory.specs.Starts.{Start, IsProper}
use Rattle.ic_theory.specs.Causes.{IsCause}
use Rattle.ic_theory.specs.Letters.{AreConcurrent}
use Rattle.ic_trace.specs.declared.known.Known.{Known}
use Rattle.ic_trace.specs.Known.{events_in, event_at, AreKnown}
use Rattle.ic_trace.proofs.ByNumber.{read_event, event_in}
use Rattle.ic_trace.proofs.KnownEvents.{one_number}
use Rattle.ic_trace.proofs.SameCauses.{concurrent_by}

module _ (s : Start) (ks : List Known) (known : AreKnown s ks) where
  -- a number among the causes is that of a direct cause
  pub cause_by_number : (k : Known) (i j : ℕ) → i < length ks → j < length ks → k ≡ get_or ks i k → IsIn j k.causes.items ↔ IsCause s (events_in ks) (event_at ks i) (event_at ks j)
  cause_by_number k i j inside within e =
      let h = known.each k (subst (λ x. IsIn x ks) (sym e) (in_at ks i k inside)) in
      rw (read_event ks i k inside e) (
        λ m. (h.causes (event_at ks j)).1 (in-map (event_at ks) m),
        λ q.
            let x = map_cases (event_at ks) k.causes.items ((h.causes (event_at ks j)).0 q) in
            subst (λ n. IsIn n k.causes.items) (one_number ks known.sound x.0 j (h.inside x.0 x.1) within x.2) x.1,
      )

  -- events of two numbers are concurrent where neither is a direct cause of the other
  pub concurrent_by_number : IsProper s → (a b : ℕ) → a < length ks → b < length ks → (x y : Bool) → (a ≡ b → ⊥)
      → IsTrue x ↔ IsCause s (events_in ks) (event_at ks a) (event_at ks b) → IsTrue y ↔ IsCause s (events_in ks) (event_at ks b) (event_at ks a) → x ≡ false → IsTrue (not y) ↔ AreConcurrent s (event_at ks a) (event_at ks b)
  concurrent_by_number ok a b l m x y apart p q none =
      let c = concurrent_by s ok known.sound known.sound (event_in ks a l) (event_in ks b m) (λ e. apart (one_number ks known.sound a b l m e)) in (
        λ f. c.1 (λ k. off x none (p.1 k), λ k. untrue y f (q.1 k)),
        λ k. is_untrue y (λ t. (c.0 k).1 (q.0 t)),
      )
    where
      off : (z : Bool) → z ≡ false → IsTrue z → ⊥
      off z e t = cc

      untrue : (z : Bool) → IsTrue (not z) → IsTrue z → ⊥
      untrue true f t = cc
      untrue false f t = cc

      is_untrue : (z : Bool) → (IsTrue z → ⊥) → IsTrue (not z)
      is_untrue true f = absurd (f refl)
      is_untrue false f = refl

  -- nor are they concurrent where one is
  pub no_concurrence : (a b : ℕ) → a < length ks → b < length ks → (a ≡ b) ⊎ IsCause s (events_in ks) (event_at ks a) (event_at ks b) → ¬ (AreConcurrent s (event_at ks a) (event_at ks b))
  no_concurrence a b l m (inl e) c = c.different (ap (event_at ks) e)
  no_concurrence a b l m (inr q) c = (c.no_cause (events_in ks) known.sound (event_in ks a l) (event_in ks b m)).0 q
