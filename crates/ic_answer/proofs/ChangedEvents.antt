-- Where events are fired or undone, other events stand than before.
use Rattle.std.proofs.Common.{◌≡◌, ℕ, ◌+◌, ◌<◌, List, [], ◌∷◌, ◌++◌, length, Result, Ok, Err, OnErr, sym, refl, subst, arith, ◌∙◌}
use Rattle.std.proofs.lemmas.List.{length-map, map-append}
use Rattle.ic_name.specs.Events.{Event}
use Rattle.ic_path.specs.Orders.{here, IsIn, Alike}
use Rattle.ic_path.proofs.Alikes.{alike_self, alike_then, alike_back, alike-in, alike-length, alike-map, append-alike-comm, cancel_front}
use Rattle.ic_path.proofs.Picks.{none_in}
use Rattle.ic_theory.specs.Starts.{Start}
use Rattle.ic_theory.specs.Machine.{State, deep, full, fired}
use Rattle.ic_roster.specs.Rosters.{Stander}
use Rattle.ic_set.specs.Views.{standing, events_of}
use Rattle.ic_journal.specs.Views.{BenchView, set_of}
use Rattle.ic_journal.specs.Benches.{IsAt, IsBench, fired_in}
use Rattle.ic_journal.specs.Reduced.{IsReduced, Reduces}
use Rattle.ic_journal.specs.Reducing.{AreFiredInTurn, MeetsLimit}
use Rattle.ic_journal.specs.Reducing as reducing
use Rattle.ic_journal.specs.Undone.{AreUndone}
use Rattle.ic_journal.specs.declared.reducing.end.End.{End}
use Rattle.ic_journal.specs.declared.reducing.end.End.TheVariants.{Normal, Budget, Limit, Memory}
use Rattle.ic_answer.specs.Changed.{HasChanged}

-- an error only where something was done is one only where something has changed
pub changed_at_error : {X E : Type 0} {Done : Type 0} (old new : BenchView) (result : Result X E) → (Done → HasChanged old new)
    → OnErr result Done → OnErr result (HasChanged old new)
changed_at_error old new (Ok x) changes done = tt
changed_at_error old new (Err e) changes done = changes done

-- some events went and others came, at least one in all
pub exchanged : (old new : BenchView) (gone came stay : List Event) → Alike (standing (set_of old)) (gone ++ stay) → Alike (came ++ stay) (standing (set_of new))
    → ((e : Event) → IsIn e gone → IsIn e came → ⊥) → 0 < length gone + length came → HasChanged old new
exchanged old new gone came stay left entered apart some = record { others = λ same. by gone (cancelled same) apart some }
  where
    cancelled : Alike (standing (set_of old)) (standing (set_of new)) → Alike gone came
    cancelled same = cancel_front stay (alike_then (append-alike-comm stay gone) (alike_then (alike_back left) (alike_then same (alike_then (alike_back entered) (append-alike-comm came stay)))))

    by : (es : List Event) → Alike es came → ((e : Event) → IsIn e es → IsIn e came → ⊥) → 0 < length es + length came → ⊥
    by [] alike apart some = let none = alike-length alike in omega (arith, none, some)
    by (e ∷ es) alike apart some = apart e (es, here) (alike-in alike (es, here))

-- events were undone
pub undoing_changes : (old new : BenchView) (gone : List Stander) → AreUndone old gone new → 0 < length gone → HasChanged old new
undoing_changes old new gone did some =
    exchanged old new (events_of gone) [] (standing (set_of new))
    (subst (λ es. Alike (standing (set_of old)) es) (map-append (λ (x : Stander). x.event) gone new.events) (alike-map (λ (x : Stander). x.event) did.events))
    (alike_self (standing (set_of new))) (λ e i j. none_in j) (let count = length-map gone (λ x. x.event) in omega (arith, count, some))

-- as many stand on the bench as at its state
standing_count : (v : BenchView) (st : State) → IsAt v st → length (standing (set_of v)) ≡ length st.standing
standing_count v st at = length-map v.events (λ x. x.event) ∙ sym (length-map v.events fired_in) ∙ alike-length at.standing

-- each firing adds an event
firings_add : {s : Start} {n : ℕ} {st next : State} → AreFiredInTurn s n st next → length next.standing ≡ n + length st.standing
firings_add {st = st} reducing.none = omega arith
firings_add (reducing.more least few (fired a d f) later) = let rest = firings_add later in omega (arith, rest)

-- meeting a limit adds none
limit_adds_none : {s : Start} {st next : State} → MeetsLimit s st next → length next.standing ≡ length st.standing
limit_adds_none (reducing.history_full least most) = refl
limit_adds_none (reducing.deep least few (deep a d)) = refl
limit_adds_none (reducing.full least few (full a d f)) = refl

-- as many more stand as were fired
reduction_adds : (s : Start) (st next : State) (most n : ℕ) (end : End) → IsReduced s st most n end next → length next.standing ≡ n + length st.standing
reduction_adds s st next most n Normal h = firings_add h.0
reduction_adds s st next most n Budget h = firings_add h.0
reduction_adds s st next most n Limit h = limit_adds_none h.3 ∙ firings_add h.1
reduction_adds s st next most n Memory h = firings_add h.0

-- events were fired in turn
pub reducing_changes : (old new : BenchView) (most n : ℕ) (end : End) → IsBench old → Reduces old most n end new → 0 < n → HasChanged old new
reducing_changes old new most n end ok h some = record {
  others = λ same. (
      let st = ok.running.state in
      let r = h.reduced st ok.running.at in
      let before = standing_count old st ok.running.at in
      let after = standing_count new r.0 r.2 in
      let added = reduction_adds old.start st r.0 most n end r.1 in
      let alike = alike-length same in
      omega (arith, before, after, added, alike, some)
      );
}
