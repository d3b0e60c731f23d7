-- What a session is read from.
use Rattle.std.proofs.Common.{◌≡◌, ℕ, ◌<◌, zero, suc, length, List, [], ◌∷◌, map, None, refl, subst, arith, ◌∙◌}
use Rattle.std.specs.Borrow.{Bor}
use Rattle.std.specs.Prelude.{Option, Contains, slice_index_or}
use Rattle.clap.specs.Words.{Text}
use Rattle.ic_program.specs.CommandLine.{Choose, files_in}
use Rattle.ic_program.specs.Runs.{Held, Runs, RunsFiles, RunsSession}
use Rattle.ic_program.specs.Runs.Runs.{session}
use Rattle.ic_program.specs.Runs.RunsSession.{ended, broken}
use Rattle.ic_program.specs.declared.options.Options.{Options}

-- a session over the files that the words name, or over the input
pub chose_files : (words files : List Text) (options : Options) (input : Option (List ℕ)) (output errors : Held) (n : ℕ) → Choose words options → files ≡ files_in words
    → (files ≡ [] → RunsSession options input output errors n) → RunsFiles options files output errors n → Runs words input output errors n
chose_files words files options input output errors n chosen same alone ran =
    session options chosen (λ none. alone (same ∙ none)) (subst (λ fs. RunsFiles options fs output errors n) same ran)

-- of an input that isn't known less is said
pub unknown : {options : Options} {input : Option (List ℕ)} {output errors : Held} {n : ℕ} → RunsSession options input output errors n → RunsSession options None output errors n
unknown (ended status wrote same) = ended status tt same
unknown (broken fault begun said) = broken fault tt said

-- a name at a place is one of the files
pub named_at : (bs : List (Bor (List ℕ))) (k : ℕ) (d : Bor (List ℕ)) → k < length bs → Contains (map (λ v. v.now) bs) (slice_index_or bs k d).now
named_at [] k d lt = absurd (omega arith)
named_at (x ∷ xs) zero d lt = (0, omega arith, refl)
named_at (x ∷ xs) (suc k) d lt = let r = named_at xs k d (omega arith) in let on = r.1 in (suc r.0, omega arith, r.2)
