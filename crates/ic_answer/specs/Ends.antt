-- What is told of a reduction.
use Rattle.std.specs.Prelude.{ℕ, List, codes}
use Rattle.ic_journal.specs.declared.reducing.end.End.{End}
use Rattle.ic_journal.specs.declared.reducing.end.End.TheVariants.{Normal, Budget, Limit, Memory}
use Rattle.ic_answer.specs.Texts.{reduced_text, wanting_after}

-- what is told where so many were fired
abbrev pub end_text : ℕ → End → List ℕ
end_text n Normal = reduced_text n (codes "normal")
end_text n Budget = reduced_text n (codes "budget")
end_text n Limit = reduced_text n (codes "limit")
end_text n Memory = wanting_after n
