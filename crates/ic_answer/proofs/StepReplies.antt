-- What firing the active pair with the least lead again and again answers.
use Rattle.std.proofs.Common.{◌≡◌, ℕ, ◌+◌, ◌<◌, ◌≤◌, List, [], ◌∷◌, ◌++◌, length, refl, sym, ap, ap₂, subst, append-nil, arith, ◌∙◌}
use Rattle.std.specs.Prelude.{vec_capacity, vec_len}
use Rattle.std.proofs.lemmas.List.{length-append}
use Rattle.std.proofs.lemmas.List.Concat.{flat_map-append}
use Rattle.ic_name.specs.Events.{Event}
use Rattle.ic_theory.specs.Starts.{Start}
use Rattle.ic_theory.specs.Active.{IsActive}
use Rattle.ic_theory.specs.Machine.{State, events}
use Rattle.ic_set.specs.Views.{standing}
use Rattle.ic_journal.specs.Views.{BenchView, set_of}
use Rattle.ic_journal.specs.Reducing.{IsNormal}
use Rattle.ic_journal.proofs.LeastFired.{normal_at}
use Rattle.ic_answer.specs.declared.listing.Listing.{Listing}
use Rattle.ic_answer.specs.declared.refused.Refused.{Refused}
use Rattle.ic_answer.specs.declared.refused.Refused.TheVariants as refused
use Rattle.ic_answer.specs.Stepped.{AreStepped, none, more, RefusesNext, enough, none_active, next_refused, stepped_head, stepped_text, StepsOften, stepped, first_refused, memory}
use Rattle.ic_answer.specs.Stepping.{Lists, HasStepped, HasRefused, StepsBench}
use Rattle.ic_answer.specs.Texts.{event_line, refusal_text}

-- an event more is listed
pub lists_more : (had mid has : Listing) (es : List Event) (e : Event) (count : ℕ) (line : List ℕ) → Lists had es → length es + 1 ≡ count → mid.lines.items ≡ had.lines.items → line ≡ event_line e
    → has.lines.items ≡ mid.lines.items ++ line → has.head.items ≡ stepped_head count → vec_len has.lines + vec_len has.head ≤ vec_capacity has.lines → Lists has (es ++ e ∷ [])
lists_more had mid has es e count line h many same is put head room = record {
  head = head ∙ ap stepped_head (sym many ∙ sym (length-append es (e ∷ [])));
  lines = put ∙ ap₂ (λ xs ys. xs ++ ys) (same ∙ h.lines) (is ∙ sym (append-nil (event_line e))) ∙ sym (flat_map-append event_line es (e ∷ []));
  room = room;
}

-- no memory is left
pub steps_memory : (v : BenchView) (most : ℕ) → StepsBench v most (refusal_text refused.Memory) v
steps_memory v most = record { start = refl; replies = λ st at. (st, memory, at) }

-- where no event was fired the state is the same
same_state : {s : Start} {st next : State} {es : List Event} → AreStepped s st es next → length es ≡ 0 → next ≡ st
same_state none e = refl
same_state (more l f a h) e = absurd (omega (arith, e))

module _ (old mid : BenchView) (most : ℕ) (es : List Event) (did : HasStepped old es mid) where
  -- the first firing is refused
  pub refused_first : (new : BenchView) (r : Refused) → length es ≡ 0 → 0 < most → HasRefused mid r new → StepsBench old most (refusal_text r) new
  refused_first new r first some h = record {
    start = h.start ∙ did.start;
    replies = λ st at. (
        let one = did.stepped st at in
        let two = h.refuses one.0 one.2 in
        let refuses = subst (λ s. RefusesNext s one.0 r two.0) did.start two.1 in
        (two.0, first_refused some (subst (λ tt. RefusesNext old.start tt r two.0) (same_state one.1 first) refuses), two.2)
        );
  }

  -- a later one is
  pub refused_later : (new : BenchView) (r : Refused) (text : List ℕ) → 0 < length es → length es < most → HasRefused mid r new → text ≡ stepped_text es → StepsBench old most text new
  refused_later new r text some few h told = record {
    start = h.start ∙ did.start;
    replies = λ st at. (
        let one = did.stepped st at in
        let two = h.refuses one.0 one.2 in
        let refuses = subst (λ s. RefusesNext s one.0 r two.0) did.start two.1 in
        (two.0, subst (λ t. StepsOften old.start st most t two.0) (sym told) (stepped one.1 (next_refused (λ no. let zero = ap length no in omega (arith, zero, some)) few refuses)), two.2)
        );
  }

  -- no pair is active
  pub idle : (text : List ℕ) → length es < most → ((e : Event) → IsActive mid.start (standing (set_of mid)) e → ⊥) → text ≡ stepped_text es → StepsBench old most text mid
  idle text few normal told = record {
    start = did.start;
    replies = λ st at. (
        let one = did.stepped st at in
        let ended = subst (λ s. IsNormal s (events one.0)) did.start (normal_at mid normal one.0 one.2) in
        (one.0, subst (λ t. StepsOften old.start st most t one.0) (sym told) (stepped one.1 (none_active few ended)), one.2)
        );
  }

  -- as many were fired as were to be
  pub as_many : (text : List ℕ) → length es ≡ most → text ≡ stepped_text es → StepsBench old most text mid
  as_many text many told = record {
    start = did.start;
    replies = λ st at. (let one = did.stepped st at in (one.0, subst (λ t. StepsOften old.start st most t one.0) (sym told) (stepped one.1 (enough many)), one.2));
  }
