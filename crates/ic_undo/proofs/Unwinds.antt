-- Events that are undone from the last one of a canonical order on are unwound.
use Rattle.std.proofs.Common.{◌≡◌, ℕ, ◌+◌, ◌<◌, List, [], ◌∷◌, map, length, reverse, Option, Some, None, true, false, refl, sym, ap, subst, arith, ◌∙◌}
use Rattle.std.specs.Option.{is_some}
use Rattle.std.specs.List.Sorted.{IsStrictlySortedBy}
use Rattle.std.proofs.lemmas.List.{length-reverse, reverse-reverse}
use Rattle.ic_name.specs.Events.{Pair}
use Rattle.ic_name.specs.declared.ids.EventId.{EventId}
use Rattle.ic_name.specs.declared.limits.TheConstants.{MAX_LINES}
use Rattle.ic_path.specs.Orders.{IsIn}
use Rattle.ic_path.specs.Rings.{HasEachOnce}
use Rattle.ic_path.proofs.Picks.{in_first}
use Rattle.ic_path.proofs.Alikes.{alike_back, alike_pick, alike-in}
use Rattle.ic_theory.specs.Causes.{canonical_cmp}
use Rattle.ic_roster.specs.Rosters.{Stander, HaveOwnLines}
use Rattle.ic_set.specs.Orders.{AreInOrder, IsAny}
use Rattle.ic_journal.specs.Views.{BenchView, set_of}
use Rattle.ic_journal.specs.Benches.{IsBench}
use Rattle.ic_journal.specs.Reads.{NoneStands, IsRankOf}
use Rattle.ic_journal.specs.Undone.{AreUndone, AreIdsOfFree, AreUndoneFrom}
use Rattle.ic_undo.specs.Undone.{AreLastFirst, IsCleared, IsUnwound}
use Rattle.ic_undo.specs.Backwards.{AreUndoneBack}
use Rattle.ic_undo.specs.Unwinding.{DontFit}
use Rattle.ic_path.proofs.InLists.{in_behind}
use Rattle.ic_undo.proofs.Backs.{alike_reverse, map-reverse, apart}
use Rattle.ic_undo.proofs.PlacedEvents.{order_length}
use Rattle.ic_undo.proofs.FreeOrders.{AreWithDependents, in_free_order}

-- what a list has each once it has each once read from its end
pub each_once_back : {X : Type 0} {P : X → Type 0} (xs : List X) → HasEachOnce P xs → HasEachOnce P (reverse xs)
each_once_back xs h = record {
  each = λ x p. alike-in (alike_reverse xs) (h.each x p);
  only = λ x i. h.only x (alike-in (alike_back (alike_reverse xs)) i);
  once = λ x rest k i. (let p = alike_pick (alike_back (alike_reverse xs)) k in h.once x p.0 p.1 (alike-in p.2 i));
}

-- the events of an order read from its end, read from their end, are those of the order
twice_back : (order : List Stander) → reverse (map (λ (x : Stander). x.event) (reverse order)) ≡ map (λ (x : Stander). x.event) order
twice_back order = ap reverse (map-reverse (λ (x : Stander). x.event) order) ∙ reverse-reverse (map (λ (x : Stander). x.event) order)

-- events in canonical order, the last one first
pub last_first : (v : BenchView) (P : Stander → Type 0) (ids : List EventId) (a : AreInOrder (set_of v) P ids) → AreLastFirst v P (reverse a.order)
last_first v P ids a = record {
  each = each_once_back a.order a.each;
  backwards = λ rank r. subst (λ es. IsStrictlySortedBy (canonical_cmp rank) es) (sym (twice_back a.order)) (a.canonical rank r);
}

-- where a line for each of the ids doesn't fit, none for each of the events does
pub dont_fit : (v : BenchView) (P : Stander → Type 0) (ids : List EventId) → AreInOrder (set_of v) P ids → MAX_LINES < length v.lines + length ids → DontFit v P
dont_fit v P ids a l =
    let same = length-reverse a.order in
    let count = order_length a.order ids a.named in
    (reverse a.order, last_first v P ids a, omega (arith, l, same, count))

-- the ids are those of events that can be undone from the last one on
pub ids_of_free : (v : BenchView) (P : Stander → Type 0) (ids : List EventId) → IsBench v → AreWithDependents v P → AreInOrder (set_of v) P ids → AreIdsOfFree v ids
ids_of_free v P ids ok closed a = (a.order, in_free_order v P ids ok closed a, a.named)

-- and then they are unwound
pub unwound : (old new : BenchView) (P : Stander → Type 0) (ids : List EventId) (names : List Pair) → IsBench old → AreWithDependents old P → AreInOrder (set_of old) P ids → AreUndoneBack old ids names new → IsUnwound old P names new
unwound old new P ids names ok closed a back =
    let done = back a.order (in_free_order old P ids ok closed a) a.named in
    record { undone = reverse a.order; which = last_first old P ids a; did = done.0; named = done.1 }

-- where all events are undone without their names, they were so many
pub cleared : (old new : BenchView) (ids : List EventId) (count : ℕ) → IsBench old → AreWithDependents old IsAny → AreInOrder (set_of old) IsAny ids → AreUndoneFrom old ids new → count ≡ length ids → IsCleared old count new
cleared old new ids count ok closed a back counted = record {
  undone = reverse a.order;
  which = last_first old IsAny ids a;
  did = back a.order (in_free_order old IsAny ids ok closed a) a.named;
  counted = counted ∙ sym (length-reverse a.order ∙ order_length a.order ids a.named);
}

-- where all events are undone none is left
pub nothing_left : (old new : BenchView) (undone : List Stander) → HaveOwnLines old.events → AreLastFirst old IsAny undone → AreUndone old undone new → new.events ≡ []
nothing_left old new undone own which did = by new.events refl
  where
    by : (es : List Stander) → new.events ≡ es → new.events ≡ []
    by [] e = e
    by (z ∷ zs) e =
        let left : IsIn z new.events = subst (λ xs. IsIn z xs) (sym e) (in_first z zs) in
        let stood : IsIn z old.events = alike-in (alike_back did.events) (in_behind undone left) in
        absurd (apart old own undone new.events did.events z (which.each.each z (stood, tt)) left)

-- where no rank is found no such event stands
pub none_stands : (v : BenchView) (d : EventId) (r : Option ℕ) → is_some r ≡ false → IsRankOf v d r → NoneStands v d
none_stands v d None h k = k
none_stands v d (Some r) h k = absurd cc

-- where a rank is found one stands
pub one_stands : (v : BenchView) (d : EventId) (r : Option ℕ) → is_some r ≡ true → IsRankOf v d r → NoneStands v d → ⊥
one_stands v d None h k none = cc
one_stands v d (Some r) h k none = none k.0 k.1.0 k.1.1
