-- The files that are given.
use Rattle.std.proofs.Common.{◌≡◌, ◌∙◌, ap, codes, ℕ, List, [], Option, Some, None, map, refl}
use Rattle.std.specs.Borrow.{Bor}
use Rattle.std.specs.Prelude.{option_map, unwrap_or}
use Rattle.clap.specs.Matches.{found_of, matched_of, raw_values}
use Rattle.clap.specs.Words.{App, HasMatchesOf, Text, all_of, app_of, is_simple, matches_of}
use Rattle.clap.specs.declared.builder.command.Command.{Command}
use Rattle.clap.specs.declared.parser.matches.ArgMatches.{ArgMatches}
use Rattle.clap.proofs.WalkLemmas.{raw_values-rows}
use Rattle.ic_program.specs.CommandLine.{files_in, icbench}

-- those of the matches, or none
some_or_none : (o : Option (Bor (List (Bor (List ℕ))))) (e : Bor (List (Bor (List ℕ)))) → e.now ≡ []
    → map (λ v. v.now) (unwrap_or o e).now ≡ unwrap_or (option_map (λ s. map (λ v. v.now) s.now) o) []
some_or_none None e none = ap (λ (vs : List (Bor (List ℕ))). map (λ v. v.now) vs) none
some_or_none (Some s) e none = refl

-- are those that the words name
pub files_chosen : (old : Command) (m : ArgMatches) (words : List Text) → app_of old ≡ icbench → HasMatchesOf (app_of old) words m
    → (o : Option (Bor (List (Bor (List ℕ))))) (e r : Bor (List (Bor (List ℕ)))) (items : List (Bor (List ℕ)))
    → option_map (λ s. map (λ v. v.now) s.now) o ≡ option_map raw_values (matched_of (found_of m) (codes "files")) → e.now ≡ [] → r ≡ unwrap_or o e → items ≡ r.now
    → map (λ v. v.now) items ≡ files_in words
files_chosen old m words shape matches o e r items given none is are =
    ap (λ (vs : List (Bor (List ℕ))). map (λ v. v.now) vs) (are ∙ ap (λ (b : Bor (List (Bor (List ℕ)))). b.now) is)
    ∙ some_or_none o e none
    ∙ ap (λ (t : Option (List Text)). unwrap_or t []) (given ∙ raw_values-rows (found_of m) (codes "files") ∙ ap (all_of (codes "files")) ((matches (ap is_simple shape)).0) ∙ ap (λ (a : App). all_of (codes "files") (matches_of a words)) shape)
