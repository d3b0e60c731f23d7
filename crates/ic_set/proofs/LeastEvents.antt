-- The least of standing events in canonical order, as more of them are seen.
use Rattle.std.proofs.Common.{◌≡◌, ℕ, Bool, true, false, List, [], ◌∷◌, ◌++◌, ◌⊎◌, inl, inr, sym, ap, subst, ◌∙◌}
use Rattle.std.specs.declared.cmp.Ordering.{Ordering}
use Rattle.std.specs.declared.cmp.Ordering.TheVariants.{Less, Greater}
use Rattle.std.specs.Ordering.{ordering_reverse, is_lt}
use Rattle.ic_name.specs.Events.{Event}
use Rattle.ic_name.specs.declared.ids.EventId.{EventId}
use Rattle.ic_path.specs.Orders.{IsIn}
use Rattle.ic_theory.specs.Causes.{canonical_cmp}
use Rattle.ic_theory.proofs.Replies.{canonical_total}
use Rattle.ic_path.proofs.ListEnds.{in-end_cases, in_end, in_before}
use Rattle.ic_roster.specs.Rosters.{Stander, HaveOwnLines}
use Rattle.ic_set.specs.Removal.{AreNoted, TellsOrder, IsLeastOf}
use Rattle.ic_set.proofs.Namings.{same_stander, same_lead}
use Rattle.ic_name.proofs.Orderings.{lt_less}

-- an event of the list has this id, is this event, and has this rank
abbrev IsTold : List Stander → EventId → Event → ℕ → Type 0
IsTold ss d e rank = (z : Stander) × IsIn z ss × (z.id ≡ d) × (z.event ≡ e) × (z.rank ≡ rank)

-- events that are told of and have one lead are one
pub one_told : (ss : List Stander) → HaveOwnLines ss → (d f : EventId) (a b : Event) (m n : ℕ) → IsTold ss d a m → IsTold ss f b n → a.lead ≡ b.lead → a ≡ b
one_told ss own d f a b m n s t same =
    sym s.3 ∙ ap (λ (z : Stander). z.event) (same_lead ss s.0 t.0 own s.1 t.1 (ap (λ (e : Event). e.lead) s.3 ∙ same ∙ sym (ap (λ (e : Event). e.lead) t.3))) ∙ t.3

-- what compares two events by the ranks that are told of them compares those under their ids
pub compared : (ss : List Stander) → HaveOwnLines ss → (x y : Stander) (d f : EventId) (a b : Event) (m n : ℕ) (rank : Event → ℕ) (o : Ordering) → IsIn x ss → IsIn y ss → IsTold ss d a m → IsTold ss f b n → x.id ≡ d → y.id ≡ f → AreNoted ss rank
    → ((r : Event → ℕ) → r a ≡ m → r b ≡ n → o ≡ canonical_cmp r a b) → o ≡ canonical_cmp rank x.event y.event
compared ss own x y d f a b m n rank o i j s t e g noted h =
    let first : s.0 ≡ x = sym (same_stander ss x s.0 own i s.1 (inl (e ∙ sym s.2))) in
    let second : t.0 ≡ y = sym (same_stander ss y t.0 own j t.1 (inl (g ∙ sym t.2))) in
    let one : a ≡ x.event = sym s.3 ∙ ap (λ (z : Stander). z.event) first in
    let other : b ≡ y.event = sym t.3 ∙ ap (λ (z : Stander). z.event) second in
    h rank (ap rank (sym s.3) ∙ sym (noted s.0 s.1) ∙ s.4) (ap rank (sym t.3) ∙ sym (noted t.0 t.1) ∙ t.4) ∙ λ u. canonical_cmp rank (one u) (other u)

-- no event is greater than itself
not_itself : (rank : Event → ℕ) (e : Event) → canonical_cmp rank e e ≡ Greater → ⊥
not_itself rank e h = let r : canonical_cmp rank e e ≡ Less = (canonical_total rank).antisymm e e ∙ ap ordering_reverse h in cc

-- the first one is the least so far
pub least_first : (ss : List Stander) → HaveOwnLines ss → (ds : List EventId) (d : EventId) → ((e : EventId) → IsIn e ds → ⊥) → IsLeastOf ss (ds ++ d ∷ []) d
least_first ss own ds d none = record { among = in_end d ds; none_before = λ x y rank i j e k noted h. by x y rank i j e noted h (in-end_cases k) }
  where
    by : (x y : Stander) (rank : Event → ℕ) → IsIn x ss → IsIn y ss → x.id ≡ d → AreNoted ss rank → canonical_cmp rank x.event y.event ≡ Greater → (y.id ≡ d) ⊎ IsIn y.id ds → ⊥
    by x y rank i j e noted h (inl f) = not_itself rank x.event (subst (λ (z : Stander). canonical_cmp rank x.event z.event ≡ Greater) (same_stander ss y x own j i (inl (f ∙ sym e))) h)
    by x y rank i j e noted h (inr k) = none y.id k

-- one that comes before the least so far is the least then
pub least_moves : (ss : List Stander) → HaveOwnLines ss → (ds : List EventId) (least d : EventId) → (z : Stander) → IsIn z ss → z.id ≡ least → (before : Bool) → before ≡ true → TellsOrder ss d least before
    → IsLeastOf ss ds least → IsLeastOf ss (ds ++ d ∷ []) d
least_moves ss own ds least d z m g before true_is tells h = record { among = in_end d ds; none_before = λ x y rank i j e k noted q. by x y rank i j e noted q (in-end_cases k) }
  where
    by : (x y : Stander) (rank : Event → ℕ) → IsIn x ss → IsIn y ss → x.id ≡ d → AreNoted ss rank → canonical_cmp rank x.event y.event ≡ Greater → (y.id ≡ d) ⊎ IsIn y.id ds → ⊥
    by x y rank i j e noted q (inl f) = not_itself rank x.event (subst (λ (w : Stander). canonical_cmp rank x.event w.event ≡ Greater) (same_stander ss y x own j i (inl (f ∙ sym e))) q)
    by x y rank i j e noted q (inr k) =
        let total = canonical_total rank in
        let low : canonical_cmp rank y.event x.event ≡ Less = total.antisymm y.event x.event ∙ ap ordering_reverse q in
        let less = total.trans y.event x.event z.event low (lt_less _ (sym (tells x z rank i m e g noted) ∙ true_is)) in
        h.none_before z y rank m j g k noted (total.antisymm z.event y.event ∙ ap ordering_reverse less)

-- else the least stays
pub least_stays : (ss : List Stander) (ds : List EventId) (least d : EventId) (before : Bool) → before ≡ false → TellsOrder ss d least before → IsLeastOf ss ds least → IsLeastOf ss (ds ++ d ∷ []) least
least_stays ss ds least d before false_is tells h = record { among = in_before d h.among; none_before = λ x y rank i j e k noted q. by x y rank i j e noted q (in-end_cases k) }
  where
    by : (x y : Stander) (rank : Event → ℕ) → IsIn x ss → IsIn y ss → x.id ≡ least → AreNoted ss rank → canonical_cmp rank x.event y.event ≡ Greater → (y.id ≡ d) ⊎ IsIn y.id ds → ⊥
    by x y rank i j e noted q (inl f) =
        let less : canonical_cmp rank y.event x.event ≡ Less = (canonical_total rank).antisymm y.event x.event ∙ ap ordering_reverse q in
        let both : false ≡ true = sym false_is ∙ tells y x rank j i f e noted ∙ ap is_lt less in
        cc
    by x y rank i j e noted q (inr k) = h.none_before x y rank i j e k noted q
