use Rattle.std.proofs.Common.{[], ◌∷◌, ◌++◌, slice_index_or, sym, ap, ◌∙◌}
use Rattle.std.proofs.lemmas.List.{take_more, map-append}
use Rattle.std.proofs.lemmas.List.Elements.{All-push}
use Rattle.ic_name.specs.declared.ids.EventId.{EventId}
use Rattle.ic_name.specs.Events.{Event}
use Rattle.ic_names.specs.declared.table.NameId.{NameId}
use Rattle.ic_names.specs.Tables.{name_at}
use Rattle.ic_set.specs.Placed.{IsPlaced}
use Rattle.ic_link.proofs.InPlace.{in_at}
use Rattle.ic_set.proofs.bare.BareSet.placed.Goals as goal

pub unreachable-requires : goal.unreachable-requires
unreachable-requires g c =
    let none : EventId = record { slot = 0; line = 0 } in
    let stands = rw (← c.self.view_is) at (c.requires _ (in_at c.args.ids.now c.loop-id.id-index none c.loop-id-test.true)) in
    c.in_default.ensures.absent stands.0 stands.1 stands.2

pub loop-id-preserved : goal.loop-id-preserved
loop-id-preserved g c =
    let none : EventId = record { slot = 0; line = 0 } in
    let x = c.in-Some.ensures.found in
    let pushed = c.in_ok-push.ensures.items in record {
      under = rw (pushed, map-append (λ p. p.id) c.loop-id.placed.items, c.placed_event.ensures.id, take_more c.args.ids.now c.loop-id.id-index none c.loop-id-test.true) (ap (λ ds. ds ++ slice_index_or c.args.ids.now c.loop-id.id-index none ∷ []) c.loop-id.invariant.under);
      shown = rw pushed (All-push (IsPlaced c.args.self.now) c.loop-id.placed.items _ c.loop-id.invariant.shown (rw (← c.self.view_is) (x.0, x.1, x.2 ∙ sym c.placed_event.ensures.id, ap (λ (e : Event). e.lead) x.3 ∙ ap (λ (n : NameId). name_at c.self.inside.roster.names n.place) (sym c.placed_event.ensures.lead), x.4 ∙ sym c.placed_event.ensures.rank, rw c.names-names.ensures at (c.placed_event.ensures.keyed (rw c.names-names.ensures c.in-Some.ensures.named.lead)))));
    }
