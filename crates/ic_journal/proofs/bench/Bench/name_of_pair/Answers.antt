use Rattle.std.proofs.Common.{◌≡◌, IsSome, true, false, sym, ap, subst, ◌∙◌}
use Rattle.std.proofs.lemmas.Option.{get_or_from_slice_get}
use Rattle.ic_name.specs.Names.{start_name}
use Rattle.ic_name.specs.Events.{pair}
use Rattle.ic_name.proofs.NameOrder.{name_less_apart}
use Rattle.ic_names.specs.Tables.{name_at}
use Rattle.ic_roster.specs.Rosters.{IsNamed, event_in}
use Rattle.ic_set.specs.Pairs.{IsPairOf}
use Rattle.ic_journal.specs.Views.{set_of}
use Rattle.ic_journal.proofs.NamedPairs.{named_in}
use Rattle.ic_journal.proofs.bench.Bench.name_of_pair.Goals as goal

pub unreachable-requires-in_default-of : goal.unreachable-requires-in_default-of
unreachable-requires-in_default-of g c =
    let ns = c.names-names.result.now in
    let i = c.interaction_of-event.result in
    let named : IsNamed ns i = subst (λ ms. IsNamed ms i) (sym (c.names-names.ensures ∙ c.roster.ensures.names)) c.interaction_of-event.ensures.named in
    let first : name_at ns i.lead.place ≡ c.in-Some.lead = get_or_from_slice_get ns i.lead.place c.in-Some.lead (start_name 0) (sym c.in_ok-lead.ensures ∙ c.in-Some.is) in
    let second : name_at ns i.other.place ≡ c.in-Some-2.other = get_or_from_slice_get ns i.other.place c.in-Some-2.other (start_name 0) (sym c.in_ok-other.ensures ∙ c.in-Some-2.is) in
    let some : IsSome c.of.result = c.of.ensures.some.1 (λ same. name_less_apart _ _ named.ordered (first ∙ same ∙ sym second)) in
    let none : false ≡ true = subst (λ o. IsSome o) c.in_default-of.is some in
    absurd cc

pub returns : goal.returns
returns g c =
    let ns = c.names-names.result.now in
    let i = c.interaction_of-event.result in
    let named : IsNamed ns i = subst (λ ms. IsNamed ms i) (sym (c.names-names.ensures ∙ c.roster.ensures.names)) c.interaction_of-event.ensures.named in
    let first : c.in-Some.lead ≡ name_at ns i.lead.place = sym (get_or_from_slice_get ns i.lead.place c.in-Some.lead (start_name 0) (sym c.in_ok-lead.ensures ∙ c.in-Some.is)) in
    let second : c.in-Some-2.other ≡ name_at ns i.other.place = sym (get_or_from_slice_get ns i.other.place c.in-Some-2.other (start_name 0) (sym c.in_ok-other.ensures ∙ c.in-Some-2.is)) in
    λ e p. (
    let own : IsPairOf c.bare-set.result.now.set e c.args.pair = rw c.bare-set.ensures (subst (λ v. IsPairOf (set_of v) e c.args.pair) (sym c.self.view_is) p) in
    let event = subst (λ ms. event_in ms i ≡ e) (sym (c.names-names.ensures ∙ c.roster.ensures.names)) (c.interaction_of-event.ensures.event e own) in
    c.in-Some-of.ensures.pair ∙ named_in ns i named c.in-Some.lead c.in-Some-2.other first second ∙ ap pair event)
