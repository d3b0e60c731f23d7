use Rattle.std.proofs.Common.{◌≡◌, ℕ, ◌++◌, codes, Vec, Global, ap, append_assoc, ◌∙◌}
use Rattle.std.specs.Fmt.{decimal}
use Rattle.ic_desk.specs.Replies.{wanting_text}
use Rattle.ic_desk.proofs.texts.wanting_text.Goals as goal

-- the parts of the text in another grouping
wanting_parts : (undone fired : ℕ)
    → codes "refused 25 memory after " ++ (decimal undone ++ (codes " undone " ++ (decimal fired ++ codes " fired\n"))) ≡ wanting_text undone fired
wanting_parts undone fired = simp append_assoc

pub returns : goal.returns
returns c =
    ap (λ (v : Vec ℕ Global). v.items) c.into_bytes.ensures.value ∙ c.in_ok-text.ensures.ok ∙ wanting_parts c.args.counts.undone c.args.counts.fired
