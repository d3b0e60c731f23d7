-- The order of events tells all events apart.
use Rattle.std.proofs.Common.{◌≡◌, Bool, true, false, ◌&&◌, ◌==◌, refl, sym, ap, ◌∙◌}
use Rattle.std.proofs.lemmas.Bool.Decides.{nat_tests}
use Rattle.std.proofs.Common.{arith, ℕ}
use Rattle.std.specs.Cmp.{IsEquivalence, IsTotalOrder, then_total, on_total, nat_cmp_total}
use Rattle.std.specs.declared.cmp.Ordering.{Ordering}
use Rattle.std.specs.declared.cmp.Ordering.TheVariants.{Less, Equal, Greater}
use Rattle.std.specs.Ordering.{is_eq, nat_cmp, ordering_then}
use Rattle.ic_name.specs.declared.ids.EventId.{EventId}
use Rattle.ic_name.specs.Spots.{same_event}
use Rattle.ic_name.specs.EventOrders.{event_cmp}
use Rattle.ic_name.proofs.SameFacts.{same_event_true, same_event_self}

-- the order of events is total
pub event_total : IsTotalOrder event_cmp
event_total = then_total (on_total (λ e. e.slot) nat_cmp_total) (on_total (λ e. e.line) nat_cmp_total)

-- the test of numbers is that of their order
nat_at : (m n : ℕ) → is_eq (nat_cmp m n) ≡ (m == n)
nat_at m n = grind (arith, nat_tests)

-- two orders say equal where and_parts do
then_at : (o p : Ordering) → is_eq (ordering_then o p) ≡ is_eq o && is_eq p
then_at Less p = refl
then_at Equal p = refl
then_at Greater p = refl

-- the test of events is that of their order
pub event_at : (a b : EventId) → is_eq (event_cmp a b) ≡ same_event a b
event_at a b = then_at (nat_cmp a.slot b.slot) (nat_cmp a.line b.line) ∙ rw (nat_at a.slot b.slot, nat_at a.line b.line) refl

-- the test is the same either way round
pub same_event_flips : (a b : EventId) → same_event a b ≡ same_event b a
same_event_flips a b = by (same_event a b) (same_event b a) refl refl
  where
    by : (x y : Bool) → same_event a b ≡ x → same_event b a ≡ y → same_event a b ≡ same_event b a
    by true true h k = h ∙ sym k
    by false false h k = h ∙ sym k
    by true false h k = ap (same_event a) (sym (same_event_true a b h)) ∙ ap (λ e. same_event e a) (same_event_true a b h)
    by false true h k = ap (λ e. same_event e b) (sym (same_event_true b a k)) ∙ ap (same_event b) (same_event_true b a k)

-- the test is an equivalence
pub event_equivalence : IsEquivalence same_event
event_equivalence = record { refl = same_event_self; symm = same_event_flips; congr = λ a b e h. ap (λ x. same_event x e) (same_event_true a b h) }
