-- Standing events that are told apart by their lines, and lists read from their ends.
use Rattle.std.proofs.Common.{◌≡◌, List, ◌++◌, inl, inr, Option, Some, None, refl, sym, ap, ◌∙◌}
use Rattle.ic_name.specs.Events.{Event}
use Rattle.ic_name.specs.declared.ids.EventId.{EventId}
use Rattle.ic_path.specs.Orders.{IsIn, Alike}
use Rattle.ic_path.proofs.Picks.{in_others, pick_before}
use Rattle.ic_path.proofs.Alikes.{alike_back, alike_pick, alike-in}
use Rattle.ic_path.proofs.InLists.{in_behind}
use Rattle.ic_roster.specs.Rosters.{Stander, HaveOwnLines}
use Rattle.ic_journal.specs.Reads.{StandsIn, IsEventUnder}
use Rattle.ic_journal.specs.Views.{BenchView}
pub use Rattle.ic_journal.proofs.Reversed.{reverse_more, alike_reverse, map-reverse}

-- a standing event is known by its line
pub one_in_line : (v : BenchView) → HaveOwnLines v.events → (x y : Stander) → IsIn x v.events → IsIn y v.events → x.id.line ≡ y.id.line → x ≡ y
one_in_line v own x y i j e = elim (in_others j.1 i) [ inl q ↦ q | inr k ↦ absurd (own.lines y x j.0 j.1 k e) ]

-- the event under an id is each event that stands in its line
pub one_under : (v : BenchView) (d : EventId) (e : Event) → HaveOwnLines v.events → IsEventUnder v d (Some e) → (x : Stander) → StandsIn v d x → e ≡ x.event
one_under v d e own under x s =
    let same : under.0 ≡ x = one_in_line v own under.0 x under.1.0 s.0 (under.1.1 ∙ sym s.1) in
    sym under.2 ∙ ap (λ (y : Stander). y.event) same

-- where an event stands in the line of an id, one is found under it
pub found_under : (v : BenchView) (d : EventId) (r : Option Event) → IsEventUnder v d r → (x : Stander) × StandsIn v d x → ((e : Event) → r ≡ Some e → ⊥) → ⊥
found_under v d None under x absent = under x.0 x.1.0 x.1.1
found_under v d (Some e) under x absent = absent e refl

-- no event stands in two parts of the set
pub apart : (v : BenchView) → HaveOwnLines v.events → (xs ys : List Stander) → Alike v.events (xs ++ ys) → (z : Stander) → IsIn z xs → IsIn z ys → ⊥
apart v own xs ys a z i j =
    let p = alike_pick (alike_back a) (pick_before ys i.1) in
    own.lines z z p.0 p.1 (alike-in p.2 (in_behind i.0 j)) refl
