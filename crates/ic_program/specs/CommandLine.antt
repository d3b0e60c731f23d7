-- The command line, and what it chooses.
use Rattle.std.specs.Prelude.{unwrap_or, ◌≡◌, ◌≤◌, ◌⊎◌, ℕ, Bool, true, false, List, [], Option, MatchOption, pos, None, Some, codes}
use Rattle.std.specs.Str.Parse.{digits_value, without_leading_plus}
use Rattle.clap.specs.Words.{App, IsAmong, Rule, Text, new_app, new_rule, with_rule, all_of, matches_of, one_of, fault_of}
use Rattle.clap.specs.declared.builder.action.ArgAction.TheVariants.{Append, Set, SetTrue}
use Rattle.clap.specs.declared.builder.value_parser.ValueParser.TheVariants.{Signed}
use Rattle.clap.specs.declared.error.kind.ErrorKind.{ErrorKind}
use Rattle.clap.specs.declared.error.kind.ErrorKind.TheVariants.{OutOfMemory}
use Rattle.ic_program.specs.declared.options.Options.{Options}
use Rattle.ic_claim.specs.declared.limits.TheConstants.{MAX_WORKERS, MAX_BUDGET}

-- an option that takes a number
abbrev pub number_rule : List ℕ → ℕ → ℕ → Rule
number_rule name least most = record (new_rule name) {
  long = Some name;
  action = Some Set;
  value_names = 1;
  parser = Some (Signed (pos least) (pos most));
}

-- `--workers N`
abbrev pub workers_rule : Rule
workers_rule = number_rule (codes "workers") 1 MAX_WORKERS

-- `--budget N`
abbrev pub budget_rule : Rule
budget_rule = number_rule (codes "budget") 0 MAX_BUDGET

-- an option without a value
abbrev pub flag_rule : List ℕ → Rule
flag_rule name = record (new_rule name) { long = Some name; action = Some SetTrue }

-- `--explain`
abbrev pub explain_rule : Rule
explain_rule = flag_rule (codes "explain")

-- `--stop`
abbrev pub stop_rule : Rule
stop_rule = flag_rule (codes "stop")

-- `--echo`
abbrev pub echo_rule : Rule
echo_rule = flag_rule (codes "echo")

-- `--interactive`, or `-i`
abbrev pub interactive_rule : Rule
interactive_rule = record (flag_rule (codes "interactive")) { short = Some 105 }

-- the files
abbrev pub files_rule : Rule
files_rule = record (new_rule (codes "files")) { action = Some Append; value_names = 1 }

-- a program that tells its version where it is asked to
abbrev pub versioned : App → App
versioned app = record app { top = record app.top { has_version = true } }

-- the program over the standard input, without the options for a script that stops or echoes and for a terminal
abbrev pub scripted : App
scripted = with_rule (with_rule (with_rule (versioned (new_app (codes "icbench"))) workers_rule) budget_rule) explain_rule

-- the program, as its command line is read
abbrev pub icbench : App
icbench = with_rule (with_rule (with_rule (with_rule scripted stop_rule) echo_rule) interactive_rule) files_rule

-- the files that the words name, in their order
abbrev pub files_in : List Text → List Text
files_in words = unwrap_or (all_of (codes "files") (matches_of icbench words)) []

-- the number that an option was given, or what stands where it was not given; it is within the option's limits
pub record IsChoice (otherwise low high : ℕ) (given : Option Text) (n : ℕ) : Type 0 where
  pub number : MatchOption given (n ≡ otherwise) (λ text. n ≡ digits_value 10 (without_leading_plus text))
  pub least : low ≤ n
  pub most : n ≤ high

-- whether a flag was given
pub record IsFlag (given : Option Text) (on : Bool) : Type 0 where
  pub absent : given ≡ None → on ≡ false
  pub set : given ≡ Some (codes "true") → on ≡ true
  pub unset : given ≡ Some (codes "false") → on ≡ false

-- the words of a command line have no fault, and choose these options
pub record Choose (words : List Text) (options : Options) : Type 0 where
  pub faultless : fault_of icbench words ≡ []
  pub workers : IsChoice 1 1 MAX_WORKERS (one_of (codes "workers") (matches_of icbench words)) options.workers
  pub budget : IsChoice MAX_BUDGET 0 MAX_BUDGET (one_of (codes "budget") (matches_of icbench words)) options.budget
  pub explains : IsFlag (one_of (codes "explain") (matches_of icbench words)) options.explains
  pub stops : IsFlag (one_of (codes "stop") (matches_of icbench words)) options.stops
  pub echoes : IsFlag (one_of (codes "echo") (matches_of icbench words)) options.echoes
  pub interactive : IsFlag (one_of (codes "interactive") (matches_of icbench words)) options.interactive

-- memory ran out, or it is a fault of these words
abbrev pub IsFaultOf : List Text → ErrorKind → Type 0
IsFaultOf words kind = (kind ≡ OutOfMemory) ⊎ IsAmong kind (fault_of icbench words)
