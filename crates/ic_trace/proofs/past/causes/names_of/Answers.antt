use Rattle.std.proofs.Common.{◌≡◌, List, [], ◌∷◌, ◌++◌, ◌⊎◌, inl, inr, sym, ap, subst, ◌∙◌}
use Rattle.std.proofs.lemmas.List.{take_more, map-append}
use Rattle.ic_name.specs.Events.{pair}
use Rattle.ic_name.specs.declared.ids.EventId.{EventId}
use Rattle.ic_path.specs.Orders.{IsIn}
use Rattle.ic_path.proofs.Picks.{in-cons_cases, none_in}
use Rattle.ic_roster.specs.Rosters.{Stander}
use Rattle.ic_theory.proofs.Future.{pick_part}
use Rattle.ic_link.proofs.InPlace.{in_at}
use Rattle.ic_trace.proofs.past.causes.names_of.Goals as goal

-- what is at the end of a list is the last element, or before it
at_end : {X : Type 0} (P : X → Type 0) (xs : List X) (x : X) → ((y : X) → IsIn y xs → P y) → P x → (y : X) → IsIn y (xs ++ x ∷ []) → P y
at_end {X} P xs x before last y i = by (pick_part xs (x ∷ []) i.1)
  where
    here : (y ≡ x) ⊎ IsIn y [] → P y
    here (inl e) = subst P (sym e) last
    here (inr k) = absurd (none_in k)

    by : IsIn y xs ⊎ IsIn y (x ∷ []) → P y
    by (inl k) = before y k
    by (inr k) = here (in-cons_cases k)

pub unreachable-requires : goal.unreachable-requires
unreachable-requires c =
    let x = c.requires _ (in_at c.args.ids.now c.loop-id.id-index (record { slot = 0; line = 0 }) c.loop-id-test.true) in
    c.in_default.ensures.absent x.0 x.1 x.2

pub loop-id-preserved : goal.loop-id-preserved
loop-id-preserved c =
    let none : EventId = record { slot = 0; line = 0 } in
    let ids = c.args.ids.now in
    let i = c.loop-id.id-index in
    let so_far = c.loop-id.invariant in
    let x = c.in-Some.ensures.found in
    let is = ap pair (x.3 ∙ sym c.in_ok-event.ensures) ∙ sym c.in_ok-name.ensures in (
      so_far.0 ++ x.0 ∷ [],
      at_end (λ (y : Stander). IsIn y c.args.roster.now.events) so_far.0 x.0 so_far.1 x.1,
      map-append (λ (y : Stander). y.id) so_far.0 (x.0 ∷ []) ∙ (λ u. so_far.2 u ++ x.2 u ∷ []) ∙ sym (take_more ids i none c.loop-id-test.true),
      map-append (λ (y : Stander). pair y.event) so_far.0 (x.0 ∷ []) ∙ ap (λ ps. ps ++ pair x.0.event ∷ []) so_far.3 ∙ ap (λ p. c.loop-id.names.items ++ p ∷ []) is
          ∙ sym c.in_ok-push.ensures.items,
    )
