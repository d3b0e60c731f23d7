-- Where events are absorbed, or a bench goes back to a mark, other events stand than before.
use Rattle.std.proofs.Common.{ℕ, ◌+◌, ◌<◌, List, [], ◌++◌, length, append-nil, sym, subst, arith}
use Rattle.std.proofs.lemmas.List.{length-map, map-append}
use Rattle.ic_name.specs.Events.{Event, Pair}
use Rattle.ic_path.specs.Orders.{IsIn, Alike}
use Rattle.ic_path.proofs.Alikes.{alike_self, alike-in, alike-map, append-alike-comm}
use Rattle.ic_path.proofs.InLists.{in_behind, map_cases}
use Rattle.ic_path.proofs.Picks.{none_in}
use Rattle.ic_journal.specs.Rosters.{Stander}
use Rattle.ic_set.specs.Views.{standing, events_of}
use Rattle.ic_journal.specs.Views.{BenchView, set_of}
use Rattle.ic_journal.specs.Undone.{AreUndone}
use Rattle.ic_undo.specs.Absorbing.{Absorbs}
use Rattle.ic_undo.specs.GoingBack.{AreFired, AreMissing, AreOutside, Goes, IsBack, IsPartWay}
use Rattle.ic_undo.specs.Marks.{MarkView}
use Rattle.ic_undo.specs.declared.faults.Counts.{Counts}
use Rattle.ic_answer.specs.Changed.{HasChanged}
use Rattle.ic_answer.proofs.ChangedEvents.{exchanged}

-- what stood is what was undone and what stays
left_by : (old new : BenchView) (gone : List Stander) → AreUndone old gone new → Alike (standing (set_of old)) (events_of gone ++ standing (set_of new))
left_by old new gone did =
    subst (λ es. Alike (standing (set_of old)) es) (map-append (λ (x : Stander). x.event) gone new.events) (alike-map (λ (x : Stander). x.event) did.events)

-- what stands is what was fired and what stood
entered_by : (old new : BenchView) (came : List Event) → AreFired old came new → Alike (came ++ standing (set_of old)) (standing (set_of new))
entered_by old new came did =
    subst (λ es. Alike (es ++ standing (set_of old)) (standing (set_of new))) did.fired
    (subst (λ es. Alike es (standing (set_of new))) (map-append (λ (x : Stander). x.event) did.came old.events) (alike-map (λ (x : Stander). x.event) did.events))

-- events were fired
firing_changes : (old new : BenchView) (came : List Event) → AreFired old came new → 0 < length came → HasChanged old new
firing_changes old new came did some =
    exchanged old new [] came (standing (set_of old)) (alike_self (standing (set_of old))) (entered_by old new came did) (λ e i j. none_in i) (omega (arith, some))

-- listed events were absorbed, so many
pub absorbing_changes : (old new : BenchView) (names : List Pair) (count : ℕ) → Absorbs old names count new → 0 < count → HasChanged old new
absorbing_changes old new names count h some = firing_changes old new h.came h.fired (let counted = h.fired_count in omega (arith, counted, some))

-- events were undone, then others were fired
going_changes : (old new : BenchView) (gone : List Stander) (came : List Event) (counts : Counts) → Goes old gone came counts new
    → ((e : Event) → IsIn e (events_of gone) → IsIn e came → ⊥) → 0 < counts.undone + counts.fired → HasChanged old new
going_changes old new gone came counts g apart some =
    exchanged old new (events_of gone) came (standing (set_of g.between)) (left_by old g.between gone g.undone) (entered_by g.between new came g.fired) apart
    (let undone = g.undone_count in let fired = g.fired_count in let count = length-map gone (λ x. x.event) in omega (arith, some, undone, fired, count))

-- what isn't in a mark is nothing that the mark misses
are_apart : (v : BenchView) (m : MarkView) (gone others : List Stander) (came later : List Event) → AreOutside v m (gone ++ others) → AreMissing v m (came ++ later)
    → (e : Event) → IsIn e (events_of gone) → IsIn e came → ⊥
are_apart v m gone others came later outside missing e i j =
    let x = map_cases (λ (x : Stander). x.event) gone i in
    let out = outside.each.only x.0 (alike-in (append-alike-comm others gone) (in_behind others x.1)) in
    let wanted = missing.each.only e (alike-in (append-alike-comm later came) (in_behind later j)) in
    out.1 (subst (λ f. IsIn f m.events) (sym x.2) wanted.0)

-- the bench is back at a mark
pub back_changes : (old new : BenchView) (m : MarkView) (counts : Counts) → IsBack old m counts new → 0 < counts.undone + counts.fired → HasChanged old new
back_changes old new m counts b some =
    going_changes old new b.gone b.came counts b.did
    (are_apart old m b.gone [] b.came [] (subst (AreOutside old m) (sym (append-nil b.gone)) b.outside) (subst (AreMissing old m) (sym (append-nil b.came)) b.missing)) some

-- or on its way
pub part_way_changes : (old new : BenchView) (m : MarkView) (counts : Counts) → IsPartWay old m counts new → 0 < counts.undone + counts.fired → HasChanged old new
part_way_changes old new m counts b some =
    going_changes old new b.gone b.came counts b.did (are_apart old m b.gone b.others b.came b.behind b.outside b.missing) some
