-- Standing events that aren't in a mark, found by leads and put in canonical order.
use Rattle.std.proofs.Common.{◌≡◌, ◌↔◌, List, [], ◌∷◌, ◌++◌, inl, inr, sym, ap, subst, ◌∙◌}
use Rattle.ic_name.specs.Names.{Name}
use Rattle.ic_name.specs.Events.{Event}
use Rattle.ic_name.specs.declared.ids.EventId.{EventId}
use Rattle.ic_path.specs.Orders.{IsIn}
use Rattle.ic_path.proofs.Picks.{none_in, pick_before}
use Rattle.ic_roster.specs.Rosters.{Stander}
use Rattle.ic_set.specs.Orders.{AreInOrder}
use Rattle.ic_set.specs.Removal.{Stands}
use Rattle.ic_set.specs.Sets.{IsStandingSet}
use Rattle.ic_set.proofs.Namings.{same_lead, same_stander}
use Rattle.ic_journal.specs.Views.{BenchView, set_of}
use Rattle.ic_undo.specs.Among.{AreOutsideIds}
use Rattle.ic_undo.specs.GoingBack.{IsOutside}
use Rattle.ic_undo.specs.Marks.{MarkView, IsMark}
use Rattle.ic_undo.proofs.MarkedEvents.{led_inside}
use Rattle.ic_undo.proofs.Places.{parts, in_part}

module _ (v : BenchView) (set : IsStandingSet (set_of v)) (m : MarkView) where
  -- no lead leads any
  pub outside_none : AreOutsideIds v m [] []
  outside_none = record { each = λ x i out j. absurd (none_in j); only = λ d j. absurd (none_in j) }

  -- one lead more, which leads none that stands and isn't in the mark
  pub outside_same : (ns : List Name) (n : Name) (ids : List EventId) → ((x : Stander) → IsIn x v.events → IsOutside m x → x.event.lead ≡ n → ⊥) → AreOutsideIds v m ns ids → AreOutsideIds v m (ns ++ n ∷ []) ids
  outside_same ns n ids not h = record {
    each = λ x i out j. elim (parts ns j) [
      | inl k ↦ h.each x i out k
      | inr r ↦ elim r [ inl q ↦ absurd (not x i out q) | inr k ↦ absurd (none_in k) ]
    ];
    only = h.only;
  }

  -- one lead more, which leads one of the mark's
  pub outside_led : IsMark (record { start = v.start; events = m.events }) → (ns : List Name) (n : Name) (ids : List EventId) (e : Event) → IsIn e m.events → e.lead ≡ n → AreOutsideIds v m ns ids → AreOutsideIds v m (ns ++ n ∷ []) ids
  outside_led k ns n ids e j led h = outside_same ns n ids (λ x i out q. out (led_inside v set m.events k x e i j (led ∙ sym q))) h

  -- one lead more, which leads one that stands and isn't in the mark
  pub outside_more : (ns : List Name) (n : Name) (ids : List EventId) (d : EventId) (x : Stander) → IsIn x v.events → IsOutside m x → x.id ≡ d → x.event.lead ≡ n → AreOutsideIds v m ns ids → AreOutsideIds v m (ns ++ n ∷ []) (ids ++ d ∷ [])
  outside_more ns n ids d x i out under led h = record {
    each = λ y j away k. elim (parts ns k) [
      | inl l ↦ (let b = h.each y j away l in (b.0 ++ d ∷ [], pick_before (d ∷ []) b.1))
      | inr r ↦ elim r [
        | inl q ↦
            let one : y ≡ x = same_lead v.events y x set.own_lines j i (q ∙ sym led) in
            subst (λ c. IsIn c (ids ++ d ∷ [])) (sym under ∙ ap (λ (z : Stander). z.id) (sym one)) (in_part ids d [])
        | inr l ↦ absurd (none_in l)
      ]
    ];
    only = λ c j. elim (parts ids j) [
      | inl k ↦ h.only c k
      | inr r ↦ elim r [ inl q ↦ (x, i, out, under ∙ sym q) | inr k ↦ absurd (none_in k) ]
    ];
  }

  module _ (ns : List Name) (found ids : List EventId) (h : AreOutsideIds v m ns found) (same : (d : EventId) → IsIn d ids ↔ IsIn d found) where
    -- each of the same ids is that of a standing event
    pub outside_stand : (d : EventId) → IsIn d ids → Stands (set_of v) d
    outside_stand d i = let x = h.only d ((same d).0 i) in (x.0, x.1, x.3)

    -- in order they are those of all standing events that aren't in the mark
    pub outside_in_order : ((x : Stander) → IsIn x v.events → IsOutside m x → IsIn x.event.lead ns) → (ordered : List EventId) → AreInOrder (set_of v) (λ x. IsIn x.id ids) ordered → AreInOrder (set_of v) (IsOutside m) ordered
    outside_in_order among ordered a = record {
      order = a.order;
      each = record {
        each = λ x i. a.each.each x (i.0, (same x.id).1 (h.each x i.0 i.1 (among x i.0 i.1)));
        only = λ x i. (let s = a.each.only x i in (s.0, outside x s.0 s.1));
        once = a.each.once;
      };
      canonical = a.canonical;
      named = a.named;
    }
      where
        outside : (x : Stander) → IsIn x v.events → IsIn x.id ids → IsOutside m x
        outside x i j =
            let y = h.only x.id ((same x.id).0 j) in
            subst (IsOutside m) (same_stander v.events y.0 x set.own_lines y.1 i (inl y.3)) y.2
