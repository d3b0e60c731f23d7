-- What a bench reads under the id of an event that stands.
use Rattle.std.proofs.Common.{◌≡◌, ℕ, List, ◌++◌, length, map, Option, Some, None, Vec, Global, sym, ap, subst, append_assoc, ◌∙◌}
use Rattle.std.specs.Prelude.{codes, option_map}
use Rattle.std.specs.Fmt.{decimal}
use Rattle.std.specs.List.{flat_map}
use Rattle.std.proofs.lemmas.List.{length-map}
use Rattle.ic_name.specs.Events.{Event, Pair}
use Rattle.ic_name.specs.declared.ids.EventId.{EventId}
use Rattle.ic_path.specs.Orders.{IsIn}
use Rattle.ic_roster.specs.Rosters.{Stander}
use Rattle.ic_theory.specs.Causes.{IsRank}
use Rattle.ic_set.specs.Views.{standing, events_of}
use Rattle.ic_set.specs.Orders.{AreInOrder, IsCauseOf}
use Rattle.ic_journal.specs.Views.{BenchView, set_of}
use Rattle.ic_journal.specs.Benches.{IsBench}
use Rattle.ic_journal.specs.Reads.{IsEventUnder, IsRankOf, AreCausesOf}
use Rattle.ic_name.specs.NameTexts.{pair_text}
use Rattle.ic_answer.specs.Texts.{event_line, why_text}
use Rattle.ic_answer.proofs.StandingCauses.{found_again}

module _ (v : BenchView) (b : IsBench v) (d : EventId) (x : Stander) (i : IsIn x v.events) (e : x.id ≡ d) where
  -- the event
  event_known : (o : Option Event) → IsEventUnder v d o → o ≡ Some x.event
  event_known None h = absurd (h x i (ap (λ (a : EventId). a.line) e))
  event_known (Some f) h = ap Some (sym h.2 ∙ ap (λ (y : Stander). y.event) (sym (found_again v b d x h.0 i e h.1)))

  pub event_there : (o : Option Event) → IsEventUnder v d o → o ≡ None → ⊥
  event_there o h n = let q : None ≡ Some x.event = sym n ∙ event_known o h in cc

  pub event_found : (o : Option Event) (f : Event) → IsEventUnder v d o → o ≡ Some f → f ≡ x.event
  event_found o f h s = let q : Some f ≡ Some x.event = sym s ∙ event_known o h in cc

  -- its rank
  pub rank_found : (r : ℕ) → IsRankOf v d (Some r) → (rank : Event → ℕ) → IsRank v.start (standing (set_of v)) rank → r ≡ rank x.event
  rank_found r h rank is = h.2 rank is ∙ ap (λ (y : Stander). rank y.event) (sym (found_again v b d x h.0 i e h.1))

  -- its causes
  pub causes_there : (o : Option (Vec EventId Global)) → AreCausesOf v d (option_map (λ ids. ids.items) o) → o ≡ None → ⊥
  causes_there None h n = h x i (ap (λ (a : EventId). a.line) e)
  causes_there (Some us) h n = cc

  pub causes_found : (o : Option (Vec EventId Global)) (ids : Vec EventId Global) → AreCausesOf v d (option_map (λ ids. ids.items) o) → o ≡ Some ids → AreInOrder (set_of v) (IsCauseOf (set_of v) x.id) ids.items
  causes_found None ids h s = cc
  causes_found (Some us) ids h s =
      let q : us ≡ ids = cc in
      subst (λ (w : Vec EventId Global). AreInOrder (set_of v) (IsCauseOf (set_of v) x.id) w.items) q
      (subst (λ (y : Stander). AreInOrder (set_of v) (IsCauseOf (set_of v) y.id) us.items) (sym (found_again v b d x h.0 i e h.1)) h.2)

-- the parts of a text in another grouping
regroup : (a p q r c n z f : List ℕ) → ((a ++ p) ++ (q ++ (r ++ (c ++ (n ++ z))))) ++ f ≡ ((((((a ++ p) ++ q) ++ r) ++ c) ++ n) ++ z) ++ f
regroup a p q r c n z f = simp append_assoc

-- what was put into the text one by one
pub why_put : (p : Pair) (r k : ℕ) (ids : List EventId) (order : List Stander) (front named counts head all : List ℕ) → front ≡ codes "why " → named ≡ front ++ pair_text p
    → counts ≡ codes " rank " ++ (decimal r ++ (codes " causes " ++ (decimal k ++ codes "\n"))) → k ≡ length ids → head ≡ named ++ counts → all ≡ head ++ flat_map event_line (events_of order)
    → map (λ x. x.id) order ≡ ids → all ≡ why_text p r (events_of order)
why_put p r k ids order front named counts head all f n c m h a same =
    let count : k ≡ length (events_of order) = m ∙ ap length (sym same) ∙ length-map order (λ (x : Stander). x.id) ∙ sym (length-map order (λ (x : Stander). x.event)) in
    let tail = flat_map event_line (events_of order) in
    let counts_is : counts ≡ codes " rank " ++ (decimal r ++ (codes " causes " ++ (decimal (length (events_of order)) ++ codes "\n"))) = c ∙ ap (λ j. codes " rank " ++ (decimal r ++ (codes " causes " ++ (decimal j ++ codes "\n")))) count in
    let named_is : named ≡ codes "why " ++ pair_text p = n ∙ ap (λ us. us ++ pair_text p) f in
    a ∙ ap (λ us. us ++ tail) (h ∙ ap (λ us. us ++ counts) named_is ∙ ap (λ us. (codes "why " ++ pair_text p) ++ us) counts_is)
    ∙ regroup (codes "why ") (pair_text p) (codes " rank ") (decimal r) (codes " causes ") (decimal (length (events_of order))) (codes "\n") tail
