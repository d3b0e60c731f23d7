-- The line of a refusal has its number.
use Rattle.std.proofs.Common.{◌≡◌, ℕ, ◌+◌, ◌<◌, ◌≤◌, ◌/◌, ◌%◌, [], ◌∷◌, ◌++◌, arith, refl, ap, ◌∙◌}
use Rattle.std.specs.Prelude.{codes}
use Rattle.std.specs.Fmt.{decimal}
use Rattle.std.proofs.lemmas.Fmt.{decimal_digit, decimal_step}
use Rattle.ic_answer.specs.declared.refused.Refused.{Refused}
use Rattle.ic_answer.specs.declared.refused.Refused.TheVariants.{NotActive, Deep, Full, HistoryFull, Memory, MemoryBeforeReduce, MemoryBeforeBack, NoPort, NotStanding, Command, NoMark, TooManyMarks}
use Rattle.ic_answer.specs.Texts.{refusal_number, refusal_text, refusal_words}

-- a number of two digits
two_digits : (n : ℕ) → 10 ≤ n → n < 100 → decimal n ≡ (48 + n / 10) ∷ (48 + n % 10) ∷ []
two_digits n low high = decimal_step n low (omega arith) ∙ ap (λ ds. ds ++ (48 + n % 10) ∷ []) (decimal_digit (n / 10) (omega arith))

pub numbered : (r : Refused) → refusal_text r ≡ codes "refused " ++ decimal (refusal_number r) ++ codes " " ++ refusal_words r ++ codes "\n"
numbered NotActive = rw (two_digits 21 (omega arith) (omega arith)) refl
numbered Deep = rw (two_digits 22 (omega arith) (omega arith)) refl
numbered Full = rw (two_digits 23 (omega arith) (omega arith)) refl
numbered HistoryFull = rw (two_digits 24 (omega arith) (omega arith)) refl
numbered Memory = rw (two_digits 25 (omega arith) (omega arith)) refl
numbered MemoryBeforeReduce = rw (two_digits 25 (omega arith) (omega arith)) refl
numbered MemoryBeforeBack = rw (two_digits 25 (omega arith) (omega arith)) refl
numbered NoPort = rw (two_digits 26 (omega arith) (omega arith)) refl
numbered NotStanding = rw (two_digits 31 (omega arith) (omega arith)) refl
numbered Command = rw (two_digits 40 (omega arith) (omega arith)) refl
numbered NoMark = rw (two_digits 41 (omega arith) (omega arith)) refl
numbered TooManyMarks = rw (two_digits 42 (omega arith) (omega arith)) refl
