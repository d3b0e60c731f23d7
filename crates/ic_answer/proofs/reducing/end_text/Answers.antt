use Rattle.std.proofs.Common.{ℕ, Vec, Global, codes, sym, ap, ◌∙◌}
use Rattle.ic_answer.specs.Ends.{end_text}
use Rattle.ic_answer.proofs.ReducingReplies.{reduced_parts}
use Rattle.ic_answer.proofs.reducing.end_text.Goals as goal

pub returns-in_ok-format-in-Normal : goal.returns-in_ok-format-in-Normal
returns-in_ok-format-in-Normal c =
    ap (λ (v : Vec ℕ Global). v.items) c.into_bytes.ensures.value ∙ c.in_ok-format-in-Normal.ensures.ok
    ∙ reduced_parts c.args.fired (codes "normal") ∙ ap (end_text c.args.fired) (sym c.in-Normal.is)

pub returns-in_ok-format-in-Budget : goal.returns-in_ok-format-in-Budget
returns-in_ok-format-in-Budget c =
    ap (λ (v : Vec ℕ Global). v.items) c.into_bytes-in-Budget.ensures.value ∙ c.in_ok-format-in-Budget.ensures.ok
    ∙ reduced_parts c.args.fired (codes "budget") ∙ ap (end_text c.args.fired) (sym c.in-Budget.is)

pub returns-in_ok-format-in-Limit : goal.returns-in_ok-format-in-Limit
returns-in_ok-format-in-Limit c =
    ap (λ (v : Vec ℕ Global). v.items) c.into_bytes-in-Limit.ensures.value ∙ c.in_ok-format-in-Limit.ensures.ok
    ∙ reduced_parts c.args.fired (codes "limit") ∙ ap (end_text c.args.fired) (sym c.in-Limit.is)
