-- The request of a line, by the words of its body.
use Rattle.std.proofs.Common.{◌≡◌, ℕ, true, false, List, [], refl, sym, subst, ◌∙◌}
use Rattle.std.specs.Io.BufRead.{strip_last}
use Rattle.ic_command.specs.Commands.{AreWordsOf, is_well_formed, asked, no_words, said, unsaid}
use Rattle.ic_command.specs.Requests.{AreRequestWords, AsksMark, IsRequest, mark, back, for_mark, for_bench, of_mark, of_bench}
use Rattle.ic_command.specs.Words.{words}
use Rattle.ic_command.specs.declared.command.Command.TheVariants.{Nothing, Malformed}
use Rattle.ic_command.specs.declared.request.Request.{Request}
use Rattle.ic_command.specs.declared.request.Request.TheVariants.{Bench}
use Rattle.ic_command.proofs.Bodies.{apart}

-- what the words of a body that is well formed ask for, the line does
pub words_request : (line body : List ℕ) (r : Request) → body ≡ strip_last 13 line → is_well_formed (strip_last 13 line) ≡ true → AreRequestWords (words body) r → IsRequest line r
words_request line body r e formed (for_mark a) = of_mark formed (subst (λ bytes. AsksMark (words bytes) r) e a)
words_request line body r e formed (for_bench {c = c} none a) =
    of_bench (λ q whole m. none q (subst (λ bytes. AsksMark (words bytes) q) (sym e) m)) (said formed (subst (λ bytes. AreWordsOf (words bytes) c) e a))

-- no words ask for nothing
pub no_words_request : (ws : List (List ℕ)) → ws ≡ [] → AreRequestWords ws (Bench Nothing)
no_words_request ws none = subst (λ us. AreRequestWords us (Bench Nothing)) (sym none) (for_bench (λ q m. unmarked q m refl) (asked no_words))
  where
    unmarked : {us : List (List ℕ)} (q : Request) → AsksMark us q → us ≡ [] → ⊥
    unmarked q (mark named) e = cc
    unmarked q (back named) e = cc

-- a line that isn't well formed asks for nothing
pub unformed_request : (line : List ℕ) → is_well_formed (strip_last 13 line) ≡ false → IsRequest line (Bench Malformed)
unformed_request line broken = of_bench (λ q whole m. apart (sym whole ∙ broken)) (unsaid broken)
