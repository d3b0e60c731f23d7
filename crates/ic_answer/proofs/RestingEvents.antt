-- The events that rest on one that stands, as the machine has them.
use Rattle.std.proofs.Common.{◌≡◌, ◌≢◌, ℕ, List, ◌++◌, length, map, inr, sym, ap, subst, append_assoc, ◌∙◌}
use Rattle.std.specs.Prelude.{codes}
use Rattle.std.specs.Fmt.{decimal}
use Rattle.std.specs.List.{flat_map}
use Rattle.std.proofs.lemmas.List.{length-map}
use Rattle.ic_name.specs.Events.{Event, Pair, pair}
use Rattle.ic_name.specs.declared.ids.EventId.{EventId}
use Rattle.ic_path.specs.Orders.{IsIn}
use Rattle.ic_path.proofs.Alikes.{alike_back, alike-in}
use Rattle.ic_path.proofs.InLists.{in-map, map_cases}
use Rattle.ic_theory.specs.Machine.{State, events}
use Rattle.ic_roster.specs.Rosters.{Stander}
use Rattle.ic_set.specs.Orders.{AreInOrder}
use Rattle.ic_set.specs.Views.{events_of}
use Rattle.ic_set.proofs.Namings.{same_stander}
use Rattle.ic_journal.specs.Views.{BenchView, set_of}
use Rattle.ic_journal.specs.Benches.{IsAt, IsBench}
use Rattle.ic_journal.proofs.MachineSteps.{events_at}
use Rattle.ic_undo.specs.Undone as bench
use Rattle.ic_command.specs.declared.question.Question.TheVariants.{Dependents}
use Rattle.ic_answer.specs.declared.refused.Refused.TheVariants.{NotStanding}
use Rattle.ic_answer.specs.BenchQuestions.{AreResting, InformsOf, dependents_text, dependents, not_standing}
use Rattle.ic_name.specs.NameTexts.{pair_text}
use Rattle.ic_answer.specs.Texts.{event_line, refusal_text}
use Rattle.ic_answer.specs.Unwinding.{RestsOn}
use Rattle.ic_answer.proofs.Images.{each_image}
use Rattle.ic_answer.proofs.StandingCauses.{named_event, none_named}
use Rattle.ic_answer.proofs.UnwoundEvents.{resting_same}
use Rattle.ic_theory.proofs.Restored.{rank-alike}

-- those of a bench are the machine's
resting_at : (v : BenchView) {st : State} → IsBench v → IsAt v st → (x : Stander) (ids : List EventId) → IsIn x v.events → (a : AreInOrder (set_of v) (bench.RestsOn v x.id.line) ids)
    → AreResting v.start (events st) x.event (events_of a.order)
resting_at v {st} b at x ids i a = record {
  each = each_image (λ (y : Stander). y.event) (λ y. IsIn y v.events × bench.RestsOn v x.id.line y) (λ f. IsIn f (events st) × RestsOn v.start (events st) x.event f) a.order a.each
      found
      (λ y k. (alike-in (events_at v at) (in-map (λ (z : Stander). z.event) k.0), (resting_same v b at x i).to y k.0 k.1))
      (λ y z k l e. same_stander v.events y z b.set.own_lines k.0 l.0 (inr e));
  canonical = λ rank is. a.canonical rank (rank-alike v.start rank (alike_back (events_at v at)) is);
}
  where
    found : (f : Event) → IsIn f (events st) × RestsOn v.start (events st) x.event f → (y : Stander) × (IsIn y v.events × bench.RestsOn v x.id.line y) × (y.event ≡ f)
    found f q =
        let m = map_cases (λ (y : Stander). y.event) v.events (alike-in (alike_back (events_at v at)) q.0) in
        (m.0, (m.1, (resting_same v b at x i).from m.0 m.1 (subst (λ g. RestsOn v.start (events st) x.event g) (sym m.2) q.1)), m.2)

-- what is told of an event that stands
pub tells_resting : (v : BenchView) → IsBench v → (p : Pair) (x : Stander) (ids : List EventId) → IsIn x v.events → pair x.event ≡ p → (a : AreInOrder (set_of v) (bench.RestsOn v x.id.line) ids)
    → InformsOf v (Dependents p) (dependents_text p (events_of a.order))
tells_resting v b p x ids i e a st at = dependents (named_event v p at x i e) (resting_at v b at x ids i a)

-- and of one that doesn't
pub tells_unstanding : (v : BenchView) (p : Pair) → ((x : Stander) → IsIn x v.events → pair x.event ≢ p) → InformsOf v (Dependents p) (refusal_text NotStanding)
tells_unstanding v p none st at = not_standing (none_named v p at none)

-- the parts of a text in another grouping
regroup : (a p q n z f : List ℕ) → ((a ++ p) ++ (q ++ (n ++ z))) ++ f ≡ ((((a ++ p) ++ q) ++ n) ++ z) ++ f
regroup a p q n z f = simp append_assoc

-- what was put into the text one by one
pub resting_put : (p : Pair) (k : ℕ) (ids : List EventId) (order : List Stander) (front named counts head all : List ℕ) → front ≡ codes "dependents " → named ≡ front ++ pair_text p
    → counts ≡ codes " events " ++ (decimal k ++ codes "\n") → k ≡ length ids → head ≡ named ++ counts → all ≡ head ++ flat_map event_line (events_of order)
    → map (λ x. x.id) order ≡ ids → all ≡ dependents_text p (events_of order)
resting_put p k ids order front named counts head all f n c m h a same =
    let count : k ≡ length (events_of order) = m ∙ ap length (sym same) ∙ length-map order (λ (x : Stander). x.id) ∙ sym (length-map order (λ (x : Stander). x.event)) in
    let tail = flat_map event_line (events_of order) in
    let counts_is : counts ≡ codes " events " ++ (decimal (length (events_of order)) ++ codes "\n") = c ∙ ap (λ j. codes " events " ++ (decimal j ++ codes "\n")) count in
    let named_is : named ≡ codes "dependents " ++ pair_text p = n ∙ ap (λ us. us ++ pair_text p) f in
    a ∙ ap (λ us. us ++ tail) (h ∙ ap (λ us. us ++ counts) named_is ∙ ap (λ us. (codes "dependents " ++ pair_text p) ++ us) counts_is)
    ∙ regroup (codes "dependents ") (pair_text p) (codes " events ") (decimal (length (events_of order))) (codes "\n") tail
