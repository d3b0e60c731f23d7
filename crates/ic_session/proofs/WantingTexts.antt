-- Texts that tell of want of memory.
use Rattle.std.proofs.Common.{ℕ, [], ◌++◌, refl}
use Rattle.std.specs.Prelude.{codes}
use Rattle.std.specs.Fmt.{decimal}
use Rattle.ic_answer.specs.declared.refused.Refused.TheVariants as refused
use Rattle.ic_answer.specs.Texts.{refusal_text, wanting_after}
use Rattle.ic_session.specs.Wants.{Wants}

-- the refusal of a command for want of memory
pub refusal_wants : Wants (refusal_text refused.Memory)
refusal_wants = ([], codes "\n", refl)

-- a run of firings that found no memory
pub run_wants : (n : ℕ) → Wants (wanting_after n)
run_wants n = ([], codes " after " ++ decimal n ++ codes "\n", refl)
