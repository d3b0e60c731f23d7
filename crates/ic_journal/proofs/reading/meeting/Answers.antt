use Rattle.std.proofs.Common.{◌≡◌, ◌≢◌, Option, Some, None, IsSome, IfNone, sym, ◌∙◌}
use Rattle.std.proofs.lemmas.Option.{get_or_from_slice_get}
use Rattle.ic_name.specs.Names.{Name, start_name}
use Rattle.ic_journal.proofs.reading.meeting.Goals as goal

-- where names that differ give something, there is nothing for equal names alone
for_equal : {X : Type 0} {a b m n : Name} (o : Option X) → m ≡ a → n ≡ b → (a ≢ b → IsSome o) → IfNone o (m ≢ n → ⊥)
for_equal None first second some = λ differ. (let there = some (λ e. differ (first ∙ e ∙ sym second)) in cc)
for_equal (Some x) first second some = tt

pub returns-clause-none : goal.returns-clause-none
returns-clause-none c =
    let ns = c.args.names.now in
    let first = get_or_from_slice_get ns c.args.a.name.place c.in-Some.first (start_name 0) (sym c.in_ok-first.ensures ∙ c.in-Some.is) in
    let second = get_or_from_slice_get ns c.args.b.name.place c.in-Some-2.second (start_name 0) (sym c.in_ok-second.ensures ∙ c.in-Some-2.is) in
    for_equal c.make.result first second c.make.ensures.some.1
