-- The rank and the direct causes are those of the machine's state.
use Rattle.std.proofs.Common.{◌≡◌, ℕ, Vec, Global, ◌++◌, length, sym, ap, subst, ◌∙◌}
use Rattle.std.specs.Prelude.{codes}
use Rattle.std.specs.Fmt.{decimal}
use Rattle.ic_name.specs.declared.ids.EventId.{EventId}
use Rattle.ic_command.specs.declared.command.Command.TheVariants.{Why}
use Rattle.ic_answer.specs.Turns.{Tells}
use Rattle.ic_answer.proofs.StandingCauses.{tells_why, tells_none}
use Rattle.ic_answer.proofs.FoundCauses.{rank_found, causes_there, causes_found, why_put}
use Rattle.ic_path.specs.Orders.{IsIn}
use Rattle.ic_roster.specs.Rosters.{Stander}
use Rattle.ic_answer.proofs.why.why.Goals as goal
use Rattle.ic_path.proofs.InLists.{all_of_each}

pub returns-in_default : goal.returns-in_default
returns-in_default g c = tells_none c.args.bench.now c.args.event.now c.in_default.ensures.absent

pub returns-in_default-rank : goal.returns-in_default-rank
returns-in_default-rank g c = let x = c.in-Some.ensures.found in absurd (c.in_default-rank.ensures x.0 x.1 (ap (λ (d : EventId). d.line) x.2))

pub returns-in_default-2 : goal.returns-in_default-2
returns-in_default-2 g c =
    let x = c.in-Some.ensures.found in
    absurd (causes_there c.args.bench.now c.lawful.ensures c.in-Some.id x.0 x.1 x.2 c.in_ok-causes.field-0 c.in_ok-causes.ensures c.in_default-2.is)

pub returns : goal.returns
returns g c =
    let v = c.args.bench.now in
    let x = c.in-Some.ensures.found in
    let ids = c.in-Some-2.causes in
    let r = rank_found v c.lawful.ensures c.in-Some.id x.0 x.1 x.2 c.in-Some-rank.rank c.in-Some-rank.ensures in
    let a = causes_found v c.lawful.ensures c.in-Some.id x.0 x.1 x.2 c.in_ok-causes.field-0 ids c.in_ok-causes.ensures c.in-Some-2.is in
    let there = all_of_each (λ (y : Stander). IsIn y v.events) a.order (λ y i. (a.each.only y i).0) in
    let count : c.len.result ≡ length ids.items = c.len.ensures ∙ sym c.deref-2.ensures.len ∙ ap length c.deref-2.ensures.value in
    let counts : c.into_bytes-counts.result.items ≡ codes " rank " ++ (decimal c.in-Some-rank.rank ++ (codes " causes " ++ (decimal c.len.result ++ codes "\n"))) = ap (λ (w : Vec ℕ Global). w.items) c.into_bytes-counts.ensures.value ∙ c.in_ok-format.ensures.ok in
    let put = c.in_ok-push_events.ensures a.order there (a.named ∙ sym c.deref-2.ensures.value) in
    let text = why_put c.args.event.now c.in-Some-rank.rank c.len.result ids.items a.order c.in_ok-text.text.items c.push_name.new.text.items c.into_bytes-counts.result.items c.extend_from_slice.new.self.items c.push_events.new.text.items
    c.in_ok-text.ensures.items c.in_ok-push_name.ensures counts count (c.in_ok-extend_from_slice.ensures.items ∙ ap (λ us. c.push_name.new.text.items ++ us) c.deref.ensures.value) put a.named in
    subst (λ t. Tells v (Why c.args.event.now) t) (sym text) (tells_why v c.lawful.ensures c.args.event.now x.0 c.in-Some-rank.rank ids.items x.1 x.3 r a)
