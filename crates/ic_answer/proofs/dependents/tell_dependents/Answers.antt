-- The events are those of the machine's state.
use Rattle.std.proofs.Common.{◌≡◌, ℕ, Vec, Global, ◌++◌, length, sym, ap, subst, ◌∙◌}
use Rattle.std.specs.Prelude.{codes}
use Rattle.std.specs.Fmt.{decimal}
use Rattle.ic_name.specs.declared.ids.EventId.{EventId}
use Rattle.ic_command.specs.declared.question.Question.TheVariants.{Dependents}
use Rattle.ic_path.specs.Orders.{IsIn}
use Rattle.ic_roster.specs.Rosters.{Stander}
use Rattle.ic_set.specs.Orders.{AreInOrder}
use Rattle.ic_journal.specs.Views.{set_of}
use Rattle.ic_undo.specs.Undone.{RestsOn}
use Rattle.ic_answer.specs.BenchQuestions.{InformsOf}
use Rattle.ic_answer.proofs.RestingEvents.{tells_resting, tells_unstanding, resting_put}
use Rattle.ic_answer.proofs.dependents.tell_dependents.Goals as goal
use Rattle.ic_path.proofs.InLists.{all_of_each}

pub returns-in_default : goal.returns-in_default
returns-in_default g c = tells_unstanding c.args.bench.now c.args.event.now c.in_default.ensures.absent

pub returns : goal.returns
returns g c =
    let v = c.args.bench.now in
    let x = c.in-Some.ensures.found in
    let ids = c.in_ok-resting.resting in
    let a = subst (λ (d : EventId). AreInOrder (set_of v) (RestsOn v d.line) ids.items) (sym x.2) c.in_ok-resting.ensures in
    let there = all_of_each (λ (y : Stander). IsIn y v.events) a.order (λ y i. (a.each.only y i).0) in
    let count : c.len.result ≡ length ids.items = c.len.ensures ∙ sym c.deref-2.ensures.len ∙ ap length c.deref-2.ensures.value in
    let counts : c.into_bytes-count.result.items ≡ codes " events " ++ (decimal c.len.result ++ codes "\n") = ap (λ (w : Vec ℕ Global). w.items) c.into_bytes-count.ensures.value ∙ c.in_ok-format.ensures.ok in
    let put = c.in_ok-push_events.ensures a.order there (a.named ∙ sym c.deref-2.ensures.value) in
    let text = resting_put c.args.event.now c.len.result ids.items a.order c.in_ok-text.text.items c.push_name.new.text.items c.into_bytes-count.result.items c.extend_from_slice.new.self.items c.push_events.new.text.items
    c.in_ok-text.ensures.items c.in_ok-push_name.ensures counts count (c.in_ok-extend_from_slice.ensures.items ∙ ap (λ us. c.push_name.new.text.items ++ us) c.deref.ensures.value) put a.named in
    subst (λ t. InformsOf v (Dependents c.args.event.now) t) (sym text) (tells_resting v c.lawful.ensures c.args.event.now x.0 ids.items x.1 x.3 a)
