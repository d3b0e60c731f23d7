-- What undoing what was fired last answers.
use Rattle.std.proofs.Common.{◌≡◌, ℕ, ◌+◌, ◌<◌, List, [], ◌∷◌, ◌++◌, length, Err, inl, inr, refl, sym, ap, subst, arith, ◌∙◌}
use Rattle.std.specs.Prelude.{min}
use Rattle.std.proofs.Math.Nat.{min-eq_left, min-eq_right, min-le_left}
use Rattle.std.proofs.lemmas.Bool.{cases_lt, cases_eq}
use Rattle.std.proofs.lemmas.List.{length-map}
use Rattle.ic_name.specs.Events.{Event}
use Rattle.ic_name.specs.declared.ids.EventId.{EventId}
use Rattle.ic_name.specs.declared.limits.TheConstants.{MAX_LINES}
use Rattle.ic_path.specs.Orders.{IsIn}
use Rattle.ic_path.proofs.Alikes.{alike-in, alike-length}
use Rattle.ic_path.proofs.InLists.{in-map}
use Rattle.ic_path.proofs.Picks.{none_in, in_first, length-pick}
use Rattle.ic_theory.specs.Starts.{Start}
use Rattle.ic_theory.specs.Machine.{State, undone}
use Rattle.ic_theory.proofs.Machines.{history_length}
use Rattle.ic_set.specs.Views.{events_of}
use Rattle.ic_set.proofs.LookedUp.{none_long}
use Rattle.ic_journal.specs.Views.{BenchView}
use Rattle.ic_journal.specs.Benches.{fired_in, IsAt}
use Rattle.ic_journal.specs.Calls.{Stays, Reserves}
use Rattle.ic_journal.specs.declared.faults.ReserveFault.{ReserveFault}
use Rattle.ic_journal.specs.declared.faults.ReserveFault.TheVariants as reserve
use Rattle.ic_journal.proofs.BenchSteps.{still_at}
use Rattle.ic_answer.specs.declared.refused.Refused.TheVariants as refused
use Rattle.ic_answer.specs.LastFired.{AreSince, AreLastFired, AreUndoneSince, UnstepsBench}
use Rattle.ic_answer.specs.Longer.{IsLonger}
use Rattle.ic_answer.specs.Texts.{refusal_text}
use Rattle.ic_answer.specs.Unstepped.{AreUnstepped, none, more, StopsAfter, enough, none_stands, no_line, unstepped_text, Unsteps, unstepped, history_full, memory}
use Rattle.ic_answer.proofs.FiredBefore.{unstepped_lines}
use Rattle.ic_answer.proofs.LastEvents.{since_still}

-- memory is wanting
pub unstep_memory : (v : BenchView) (most : ℕ) → UnstepsBench v most (refusal_text refused.Memory) v
unstep_memory v most = record { start = refl; replies = λ st at. (st, memory, at) }

-- a list that isn't empty has a first element
some_in : {X : Type 0} (xs : List X) → 0 < length xs → (x : X) × IsIn x xs
some_in [] l = absurd (omega (arith, l))
some_in (x ∷ xs) l = (x, in_first x xs)

-- the history has no line for an undo
pub unstep_full : (v : BenchView) (most : ℕ) → 0 < most → 0 < length v.events → length v.lines ≡ MAX_LINES → UnstepsBench v most (refusal_text refused.HistoryFull) v
unstep_full v most some stand full = record {
  start = refl;
  replies = λ st at. (
      let x = some_in v.events stand in
      (st, history_full some (alike-in at.standing (in-map fired_in x.1)) (history_length at.history ∙ full), at)
      );
}

without_elements : {X : Type 0} (xs : List X) → ((x : X) → IsIn x xs → ⊥) → length xs ≡ 0
without_elements [] h = refl
without_elements (x ∷ xs) h = absurd (h x (in_first x xs))

-- room that isn't reserved changes nothing
pub not_reserved : (old new : BenchView) (n : ℕ) (f : ReserveFault) → Reserves old n (Err f) new → new ≡ old
not_reserved old new n reserve.HistoryFull h = h.1
not_reserved old new n reserve.Memory h = h.2

-- the ids are those of the bench with room, too
pub ids_still : (old mid : BenchView) (most : ℕ) (ids same : List EventId) → Stays old mid → (last : AreLastFired old most ids) → same ≡ ids → AreSince mid last.line same
ids_still old mid most ids same stays last e = record { order = last.since.order; since = since_still old mid last.line last.since.order stays last.since.since; named = last.since.named ∙ sym e }

-- and its history is the old one
pub longer_still : (old mid new : BenchView) → Stays old mid → IsLonger mid new → IsLonger old new
longer_still old mid new stays longer = record { more = longer.more; lines = longer.lines ∙ ap (λ ls. ls ++ longer.more) stays.lines }

-- each undo leaves one event less
fewer_stand : {s : Start} {st next : State} {es : List Event} → AreUnstepped s st es next → length next.standing + length es ≡ length st.standing
fewer_stand none = omega arith
fewer_stand (more l f (undone p i n) u) = let rest = fewer_stand u in let one = length-pick p in omega (arith, rest, one)

module _ (old mid new : BenchView) (most room : ℕ) (ids : List EventId) (left : length old.lines + room ≡ MAX_LINES) (stand : room ≡ 0 → 0 < most → length old.events ≡ 0)
    (stays : Stays old mid) (last : AreLastFired old (min most room) ids) (did : AreUndoneSince mid last.line last.since.order [] new) where
  -- they are as many as their ids
  many : length (events_of last.since.order) ≡ length ids
  many = length-map last.since.order (λ x. x.event) ∙ sym (length-map last.since.order (λ x. x.id)) ∙ ap length last.since.named

  -- so many were undone, or as many as there was room for
  at_most : (st next : State) → IsAt old st → AreUnstepped old.start st (events_of last.since.order) next → length ids ≡ min most room → StopsAfter most (events_of last.since.order) next
  at_most st next at u e = elim (cases_lt room most) [
    | inr l ↦ enough (many ∙ e ∙ min-eq_left l)
    | inl l ↦ elim (cases_eq room 0) [ inl z ↦ nothing l z | inr some ↦ full l some ]
  ]
    where
      counted : room < most → length (events_of last.since.order) ≡ room
      counted l = many ∙ e ∙ min-eq_right (omega (arith, l))

      nothing : room < most → room ≡ 0 → StopsAfter most (events_of last.since.order) next
      nothing l z =
          let count = counted l in
          let were = stand z (omega (arith, l, z)) in
          let same = alike-length at.standing in
          let kept = length-map old.events fired_in in
          let fewer = fewer_stand u in
          none_stands (omega (arith, count, l)) (none_long next.standing (omega (arith, count, were, same, kept, fewer)))

      full : room < most → (room ≡ 0 → ⊥) → StopsAfter most (events_of last.since.order) next
      full l some =
          let count = counted l in
          let lines = unstepped_lines u in
          let before = history_length at.history in
          no_line (λ none. some (sym count ∙ ap length none)) (omega (arith, count, l)) (omega (arith, lines, before, count, left))

  -- or all
  all_gone : (st next : State) → IsAt new next → length ids < min most room → last.line ≡ 0 → StopsAfter most (events_of last.since.order) next
  all_gone st next at few first =
      let count = many in
      let less = min-le_left most room in
      let gone = without_elements new.events (λ x i. none_in (did.left.each x i (omega (arith, first)))) in
      let same = alike-length at.standing in
      let kept = length-map new.events fired_in in
      none_stands (omega (arith, count, few, less)) (none_long next.standing (omega (arith, gone, same, kept)))

  -- and they are told
  pub unsteps : (text : List ℕ) → text ≡ unstepped_text (events_of last.since.order) → UnstepsBench old most text new
  unsteps text told = record { start = did.start ∙ stays.same.start; replies = replies }
    where
      replies : (st : State) → IsAt old st → (next : State) × Unsteps old.start st most text next × IsAt new next
      replies st at =
          let went = did.unstepped st (still_at old mid stays st at) in
          let u = subst (λ (s : Start). AreUnstepped s st (events_of last.since.order) went.0) stays.same.start went.1 in
          let ends : StopsAfter most (events_of last.since.order) went.0 = elim last.many [ inl e ↦ at_most st went.0 at u e | inr l ↦ all_gone st went.0 went.2 l.0 l.1 ] in
          (went.0, subst (λ t. Unsteps old.start st most t went.0) (sym told) (unstepped u ends), went.2)
