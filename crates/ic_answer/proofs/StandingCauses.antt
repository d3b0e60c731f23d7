-- The causes and the rank of an event that stands, as the machine has them.
use Rattle.std.proofs.Common.{◌≡◌, ◌≢◌, ℕ, List, inl, inr, refl, sym, ap, subst, ◌∙◌}
use Rattle.ic_name.specs.Events.{Event, Pair, pair}
use Rattle.ic_name.specs.declared.ids.EventId.{EventId}
use Rattle.ic_path.specs.Orders.{IsIn}
use Rattle.ic_path.proofs.Alikes.{alike_back, alike-in}
use Rattle.ic_roster.specs.Rosters.{Stander}
use Rattle.ic_theory.specs.Machine.{Standing, State, events}
use Rattle.ic_theory.specs.Causes.{IsCause, IsRank}
use Rattle.ic_theory.proofs.Ranks.{cause_included, same_set, cause_in}
use Rattle.ic_set.specs.Views.{standing, events_of}
use Rattle.ic_set.specs.Orders.{AreInOrder, IsCauseOf}
use Rattle.ic_set.proofs.Namings.{same_stander}
use Rattle.ic_journal.specs.Views.{BenchView, set_of}
use Rattle.ic_journal.specs.Benches.{IsAt, IsBench, fired_in}
use Rattle.ic_journal.specs.Reads.{StandsIn}
use Rattle.ic_journal.proofs.MachineSteps.{events_at}
use Rattle.ic_answer.specs.Standing.{HasRank, AreCauses}
use Rattle.ic_answer.specs.CommandReplies.{IsNamed, NoneIsNamed, why, why_not_standing}
use Rattle.ic_answer.specs.Texts.{why_text, refusal_text}
use Rattle.ic_answer.specs.Turns.{Tells}
use Rattle.ic_command.specs.declared.command.Command.TheVariants.{Why}
use Rattle.ic_answer.specs.declared.refused.Refused.TheVariants.{NotStanding}
use Rattle.ic_answer.proofs.Images.{each_image}
use Rattle.ic_path.proofs.InLists.{in-map, map_cases}
use Rattle.ic_theory.proofs.Restored.{rank-alike}
use Rattle.ic_undo.proofs.RestingCauses.{same_line}

-- the event that stands under an id is the one that was fired in its line
pub found_again : (v : BenchView) → IsBench v → (d : EventId) (x y : Stander) → IsIn x v.events → x.id ≡ d → StandsIn v d y → x ≡ y
found_again v b d x y i e s = same_line v.events x y b.set.own_lines i s.0 (ap (λ (a : EventId). a.line) e ∙ sym s.1)

-- a standing event of a name is one of the machine's
pub named_event : (v : BenchView) (p : Pair) {st : State} → IsAt v st → (x : Stander) → IsIn x v.events → pair x.event ≡ p → IsNamed st p (fired_in x)
named_event v p at x i e = record { stands = alike-in at.standing (in-map fired_in i); name = e }

-- where none has the name, none of the machine's has
pub none_named : (v : BenchView) (p : Pair) {st : State} → IsAt v st → ((x : Stander) → IsIn x v.events → pair x.event ≢ p) → NoneIsNamed st p
none_named v p at none x n =
    let m = map_cases fired_in v.events (alike-in (alike_back at.standing) n.stands) in
    none m.0 m.1 (ap (λ (y : Standing). pair y.event) m.2 ∙ n.name)

-- the rank of an event that stands
pub rank_at : (v : BenchView) {st : State} → IsAt v st → (x : Stander) (r : ℕ) → ((rank : Event → ℕ) → IsRank v.start (standing (set_of v)) rank → r ≡ rank x.event) → HasRank v.start (events st) x.event r
rank_at v at x r f rank is = f rank (rank-alike v.start rank (alike_back (events_at v at)) is)

-- a direct cause of an event that stands stands
cause_there : (v : BenchView) (x : Stander) → IsIn x v.events → (c : Event) → IsCause v.start (standing (set_of v)) x.event c
    → (y : Stander) × (IsIn y v.events × IsCauseOf (set_of v) x.id y) × (y.event ≡ c)
cause_there v x i c k =
    let m = map_cases (λ (y : Stander). y.event) v.events (cause_in v.start k) in
    (m.0, (m.1, (x, i, refl, subst (λ e. IsCause v.start (standing (set_of v)) x.event e) (sym m.2) k)), m.2)

-- what is a cause by its id is one
cause_by_id : (v : BenchView) → IsBench v → (x : Stander) → IsIn x v.events → (y : Stander) → IsIn y v.events × IsCauseOf (set_of v) x.id y → IsCause v.start (standing (set_of v)) x.event y.event
cause_by_id v b x i y k =
    let same : k.1.0 ≡ x = same_stander v.events k.1.0 x b.set.own_lines k.1.1 i (inl k.1.2) in
    subst (λ (z : Stander). IsCause v.start (standing (set_of v)) z.event y.event) same k.1.3

-- the direct causes of an event that stands
pub causes_at : (v : BenchView) {st : State} → IsBench v → IsAt v st → (x : Stander) (ids : List EventId) → IsIn x v.events → (a : AreInOrder (set_of v) (IsCauseOf (set_of v) x.id) ids)
    → AreCauses v.start (events st) x.event (events_of a.order)
causes_at v {st} b at x ids i a = record {
  each = each_image (λ (y : Stander). y.event) (λ y. IsIn y v.events × IsCauseOf (set_of v) x.id y) (λ c. IsCause v.start (events st) x.event c) a.order a.each
      (λ c k. cause_there v x i c (cause_included v.start (same_set (alike_back (events_at v at))) k))
      (λ y k. cause_included v.start (same_set (events_at v at)) (cause_by_id v b x i y k))
      (λ y z k l e. same_stander v.events y z b.set.own_lines k.0 l.0 (inr e));
  canonical = λ rank is. a.canonical rank (rank-alike v.start rank (alike_back (events_at v at)) is);
}

-- what is told of an event that stands
pub tells_why : (v : BenchView) → IsBench v → (p : Pair) (x : Stander) (r : ℕ) (ids : List EventId) → IsIn x v.events → pair x.event ≡ p
    → ((rank : Event → ℕ) → IsRank v.start (standing (set_of v)) rank → r ≡ rank x.event) → (a : AreInOrder (set_of v) (IsCauseOf (set_of v) x.id) ids)
    → Tells v (Why p) (why_text p r (events_of a.order))
tells_why v b p x r ids i e f a st at = why (named_event v p at x i e) (rank_at v at x r f) (causes_at v b at x ids i a)

-- and of one that doesn't
pub tells_none : (v : BenchView) (p : Pair) → ((x : Stander) → IsIn x v.events → pair x.event ≢ p) → Tells v (Why p) (refusal_text NotStanding)
tells_none v p none st at = why_not_standing (none_named v p at none)
