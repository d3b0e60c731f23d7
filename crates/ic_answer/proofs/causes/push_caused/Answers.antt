-- The rank and the direct causes are those of the machine's state.
use Rattle.std.proofs.Common.{◌≡◌, ℕ, Vec, Global, ◌++◌, length, refl, sym, ap, ◌∙◌}
use Rattle.std.proofs.lemmas.List.{length-map}
use Rattle.std.specs.Prelude.{codes}
use Rattle.std.specs.Fmt.{decimal}
use Rattle.ic_name.specs.Events.{Event, pair}
use Rattle.ic_name.specs.NameTexts.{pair_text}
use Rattle.ic_name.specs.declared.ids.EventId.{EventId}
use Rattle.ic_path.specs.Orders.{IsIn}
use Rattle.ic_path.proofs.InLists.{all_of_each}
use Rattle.ic_roster.specs.Rosters.{Stander}
use Rattle.ic_set.specs.Views.{events_of}
use Rattle.ic_answer.specs.Caused.{Caused}
use Rattle.ic_answer.proofs.StandingCauses.{rank_at, causes_at}
use Rattle.ic_answer.proofs.FoundCauses.{event_there, event_found, rank_found, causes_there, causes_found}
use Rattle.ic_answer.proofs.CausedEvents.{caused_put}
use Rattle.ic_answer.proofs.causes.push_caused.Goals as goal

pub returns-in_default : goal.returns-in_default
returns-in_default g c = λ st at x i e. absurd (event_there c.args.bench.now c.lawful.ensures c.args.id x i e c.in_ok-event.field-0 c.in_ok-event.ensures c.in_default.is)

pub returns-in_default-rank : goal.returns-in_default-rank
returns-in_default-rank g c = λ st at x i e. absurd (c.in_default-rank.ensures x i (ap (λ (d : EventId). d.line) e))

pub returns-in_default-2 : goal.returns-in_default-2
returns-in_default-2 g c = λ st at x i e. absurd (causes_there c.args.bench.now c.lawful.ensures c.args.id x i e c.in_ok-causes.field-0 c.in_ok-causes.ensures c.in_default-2.is)

pub returns : goal.returns
returns g c = λ st at x i e.
    let v = c.args.bench.now in
    let ids = c.in-Some-2.causes in
    let r = rank_at v at x c.in-Some-rank.rank (rank_found v c.lawful.ensures c.args.id x i e c.in-Some-rank.rank c.in-Some-rank.ensures) in
    let a = causes_found v c.lawful.ensures c.args.id x i e c.in_ok-causes.field-0 ids c.in_ok-causes.ensures c.in-Some-2.is in
    let there = all_of_each (λ (y : Stander). IsIn y v.events) a.order (λ y k. (a.each.only y k).0) in
    let y : Caused = record { event = x.event; rank = c.in-Some-rank.rank; causes = events_of a.order } in
    let count : c.len.result ≡ length (events_of a.order) = c.len.ensures ∙ sym c.deref-2.ensures.len ∙ ap length (c.deref-2.ensures.value ∙ sym a.named) ∙ length-map a.order (λ (z : Stander). z.id) ∙ sym (length-map a.order (λ (z : Stander). z.event)) in
    let counts : c.into_bytes-counts.result.items ≡ codes " rank " ++ (decimal c.in-Some-rank.rank ++ (codes " causes " ++ decimal c.len.result)) = ap (λ (w : Vec ℕ Global). w.items) c.into_bytes-counts.ensures.value ∙ c.in_ok-format.ensures.ok in
    let named : c.push_event_name.new.text.items ≡ c.args.text.now.items ++ pair_text (pair x.event) = c.in_ok-push_event_name.ensures ∙ ap (λ (f : Event). c.args.text.now.items ++ pair_text (pair f)) (event_found v c.lawful.ensures c.args.id x i e c.in_ok-event.field-0 c.in-Some.event c.in_ok-event.ensures c.in-Some.is) in
    let put = c.in_ok-push_causes.ensures a.order there (a.named ∙ sym c.deref-2.ensures.value) in (
      y,
      refl,
      record { rank = r; causes = causes_at v c.lawful.ensures at x ids.items i a },
      caused_put y c.len.result c.args.text.now.items c.push_event_name.new.text.items c.into_bytes-counts.result.items c.extend_from_slice.new.self.items c.push_causes.new.text.items c.push.new.self.items
          named counts count (c.in_ok-extend_from_slice.ensures.items ∙ ap (λ us. c.push_event_name.new.text.items ++ us) c.deref.ensures.value) put c.in_ok-push.ensures.items,
    )
