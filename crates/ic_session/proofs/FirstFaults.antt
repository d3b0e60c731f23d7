-- A text has one first fault.
use Rattle.std.proofs.Common.{◌≡◌, ℕ, ◌<◌, ◌≤◌, List, ◌⊎◌, inl, inr, refl, ap, arith}
use Rattle.ic_text.specs.declared.grammar.refusal.Refusal.{Refusal}
use Rattle.ic_text.specs.declared.grammar.refusal.Refusal.TheVariants.{TooLong, BadByte, Syntax, NameTooLong, Thrice, TooManyAgents, TooNested, ReservedFree, TooManyFree}
use Rattle.ic_text.specs.Faults.{IsFirstFault, Precedes, class, place, code}

-- faults of one class, number and place are one
same_fault : (f g : Refusal) → class f ≡ class g → place f ≡ place g → code f ≡ code g → f ≡ g
same_fault TooLong TooLong c p n = refl
same_fault (BadByte o) (BadByte q) c p n = ap BadByte p
same_fault (Syntax o) (Syntax q) c p n = ap Syntax p
same_fault (NameTooLong o) (NameTooLong q) c p n = ap NameTooLong p
same_fault (Thrice o) (Thrice q) c p n = ap Thrice p
same_fault (TooManyAgents o) (TooManyAgents q) c p n = ap TooManyAgents p
same_fault (TooNested o) (TooNested q) c p n = ap TooNested p
same_fault (ReservedFree o) (ReservedFree q) c p n = ap ReservedFree p
same_fault TooManyFree TooManyFree c p n = refl
same_fault f g c p n = absurd (omega (arith, n))

-- no two faults precede each other
one_front : (f g : Refusal) → Precedes f g → Precedes g f → f ≡ g
one_front f g (inl h) (inl k) = absurd (omega (arith, h, k))
one_front f g (inl h) (inr k) = let e = k.0 in absurd (omega (arith, h, e))
one_front f g (inr h) (inl k) = let e = h.0 in absurd (omega (arith, k, e))
one_front f g (inr h) (inr k) = by_place h.0 h.1 k.1
  where
    by_place : class f ≡ class g → (place f < place g) ⊎ ((place f ≡ place g) × (code f ≤ code g))
        → (place g < place f) ⊎ ((place g ≡ place f) × (code g ≤ code f)) → f ≡ g
    by_place c (inl h) (inl k) = absurd (omega (arith, h, k))
    by_place c (inl h) (inr k) = let e = k.0 in absurd (omega (arith, h, e))
    by_place c (inr h) (inl k) = let e = h.0 in absurd (omega (arith, k, e))
    by_place c (inr h) (inr k) = let m = h.1 in let n = k.1 in same_fault f g c h.0 (omega (arith, m, n))

-- so a text has one first fault
pub one_first_fault : (text : List ℕ) (f g : Refusal) → IsFirstFault text f → IsFirstFault text g → f ≡ g
one_first_fault text f g h k = one_front f g (h.first g k.stands) (k.first f h.stands)
