-- Events that agree on what each has of its own are one.
use Rattle.std.proofs.Common.{◌≡◌, List, inl, inr, sym, ap, ◌∙◌}
use Rattle.ic_path.specs.Orders.{IsIn}
use Rattle.ic_path.proofs.Picks.{in_others}
use Rattle.ic_name.specs.declared.ids.EventId.{EventId}
use Rattle.ic_name.specs.Names.{Name}
use Rattle.ic_roster.specs.Rosters.{Stander, HaveOwnLines}

-- two events of one id
same_id : (ss : List Stander) (x y : Stander) → HaveOwnLines ss → IsIn x ss → IsIn y ss → y.id ≡ x.id → x ≡ y
same_id ss x y own i j e = elim (in_others i.1 j) [ inl same ↦ sym same | inr k ↦ absurd (own.slots x y i.0 i.1 k (ap (λ (d : EventId). d.slot) e)) ]

-- two events of one lead
pub same_lead : (ss : List Stander) (x y : Stander) → HaveOwnLines ss → IsIn x ss → IsIn y ss → y.event.lead ≡ x.event.lead → x ≡ y
same_lead ss x y own i j e = elim (in_others i.1 j) [ inl same ↦ sym same | inr k ↦ absurd (own.leads x y i.0 i.1 k e) ]

-- an event of the same id has the same lead
pub led_there : (ss : List Stander) (x y : Stander) → HaveOwnLines ss → IsIn x ss → IsIn y ss → y.id ≡ x.id → {n : Name} → x.event.lead ≡ n → y.event.lead ≡ n
led_there ss x y own i j e lead = ap (λ (z : Stander). z.event.lead) (sym (same_id ss x y own i j e)) ∙ lead
