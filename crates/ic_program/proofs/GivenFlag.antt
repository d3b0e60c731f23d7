-- Whether the flag is given.
use Rattle.std.proofs.Common.{◌≡◌, codes, ℕ, Bool, true, false, List, Option, Some, None, subst}
use Rattle.clap.specs.Matches.{found_of, one_text}
use Rattle.clap.specs.Words.{HasMatchesOf, Text, app_of, matches_of, one_of}
use Rattle.clap.specs.declared.builder.command.Command.{Command}
use Rattle.clap.specs.declared.parser.matches.ArgMatches.{ArgMatches}
use Rattle.ic_program.specs.CommandLine.{IsFlag, icbench}
use Rattle.ic_program.proofs.GivenNumbers.{chosen_text}

-- the words choose whether the flag of this name is given
pub flag_chosen : (name : List ℕ) (old : Command) (m : ArgMatches) (words : List Text) → app_of old ≡ icbench → HasMatchesOf (app_of old) words m
    → (on : Bool) → (one_text (found_of m) name ≡ None → on ≡ false)
    → (one_text (found_of m) name ≡ Some (codes "true") → on ≡ true)
    → (one_text (found_of m) name ≡ Some (codes "false") → on ≡ false)
    → IsFlag (one_of name (matches_of icbench words)) on
flag_chosen name old m words shape matches on absent set unset =
    subst (λ (o : Option Text). IsFlag o on) (chosen_text old m words name shape matches)
    (record { absent = absent; set = set; unset = unset })
