use Rattle.std.proofs.Common.{◌≡◌, List, Result, Ok, Err, Vec, Global, IfOk, sym, ap, subst, ◌∙◌}
use Rattle.ic_name.specs.Events.{Event}
use Rattle.ic_name.specs.declared.lines.Line.{Line}
use Rattle.ic_path.specs.Orders.{Alike}
use Rattle.ic_set.specs.Views.{standing as standing_in}
use Rattle.ic_journal.specs.Views.{BenchView, set_of}
use Rattle.ic_journal.specs.Benches.{IsBench}
use Rattle.ic_trace.specs.declared.lists.Letter.{Letter}
use Rattle.ic_trace.specs.Accepted.{accepted}
use Rattle.ic_trace.specs.Letters.{Leaves}
use Rattle.ic_trace.proofs.AcceptedRuns.{accepted_leaves}
use Rattle.ic_trace.proofs.accepted.letters.Goals as goal

-- the letters of the lines of a bench leave what it has standing
leaves : {X : Type 0} (v : BenchView) → IsBench v → (lines : List Line) → lines ≡ v.lines → (r : Result (Vec Letter Global) X) → IfOk r (λ letters. letters.items ≡ accepted lines)
    → IfOk r (λ letters. (es : List Event) × Leaves v.start letters.items es × Alike es (standing_in (set_of v)))
leaves v b lines e (Ok letters) is = subst (λ xs. (es : List Event) × Leaves v.start xs es × Alike es (standing_in (set_of v))) (sym (is ∙ ap accepted e)) (accepted_leaves v b)
leaves v b lines e (Err x) is = is

pub returns-clause-standing : goal.returns-clause-standing
returns-clause-standing g c = leaves c.args.bench.now c.lawful.ensures c.deref.result.now (c.deref.ensures.value ∙ c.in_ok-lines.ensures) c.letters_of.result c.letters_of.ensures
