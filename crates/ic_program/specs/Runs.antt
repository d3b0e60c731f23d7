-- What a run of the program does.
use Rattle.std.specs.Prelude.{◌≡◌, ◌≢◌, ◌||◌, ℕ, false, List, [], Option, None, IfSome, Contains}
use Rattle.std.specs.Io.KnownBytes.{Appends}
use Rattle.clap.specs.Words.{Text}
use Rattle.clap.specs.declared.error.kind.ErrorKind.{ErrorKind}
use Rattle.clap.specs.declared.error.kind.ErrorKind.TheVariants.{DisplayHelp, DisplayVersion, OutOfMemory}
use Rattle.ic_command.specs.Faults.{AppendsFront}
use Rattle.ic_session.specs.Sessions.{IsBegun, Writes}
use Rattle.ic_session.specs.declared.fault.Fault.{Fault}
use Rattle.ic_session.specs.declared.mode.Mode.{Mode}
use Rattle.ic_session.specs.declared.fault.Fault.TheVariants.{Write, Memory}
use Rattle.ic_session.specs.declared.session.Status.{Status}
use Rattle.ic_program.specs.CommandLine.{Choose, IsFaultOf, files_in}
use Rattle.ic_program.specs.Statuses.{fault_line, fault_status, session_status, unread_line}
use Rattle.ic_program.specs.declared.options.Options.{Options}

-- what a writer holds before and after, where that is known
pub record Held : Type 0 where
  pub before : Option (List ℕ)
  pub after : Option (List ℕ)

-- the mode of a session that is run with these options: one at a terminal explains itself, too, and goes on after a net
-- that was refused
abbrev pub mode_of : Options → Mode
mode_of options = record { workers = options.workers; budget = options.budget; explains = options.explains || options.interactive; stops = options.stops; echoes = options.echoes; retries = options.interactive }

-- A session with these options over this input ends in a status: it wrote its text, or it broke off in a fault and said so. A writer that
-- fails holds a front of what it was given. One that explains itself says more.
pub data RunsSession (options : Options) (input : Option (List ℕ)) (output errors : Held) : ℕ → Type 0 where
  ended : (status : Status) → IfSome input (λ bytes. Writes (mode_of options) bytes status output.before output.after)
      → ((mode_of options).explains ≡ false → errors.after ≡ errors.before) → RunsSession options input output errors (session_status status)
  broken : (fault : Fault) → IfSome input (λ bytes. (text : List ℕ) × IsBegun (mode_of options) bytes text × Appends output.before output.after text)
      → ((mode_of options).explains ≡ false → AppendsFront errors.before errors.after (fault_line fault)) → RunsSession options input output errors (fault_status fault)

-- A session with these options over files, of which no more is known: it ends as one over any input does, or at a file that can't be
-- opened or read.
pub data RunsFiles (options : Options) (files : List Text) (output errors : Held) : ℕ → Type 0 where
  over : {n : ℕ} → RunsSession options None output errors n → RunsFiles options files output errors n
  unread : {name : Text} → Contains files name → ((mode_of options).explains ≡ false → AppendsFront errors.before errors.after (unread_line name))
      → RunsFiles options files output errors 1

-- the command line is wrong, and doesn't ask for a text
abbrev pub IsMistake : ErrorKind → Type 0
IsMistake kind = (kind ≢ DisplayHelp) × (kind ≢ DisplayVersion)

-- A command line that starts no session is explained: by the help that it asks for, or by what is wrong with it.
pub data Explains (kind : ErrorKind) (output errors : Held) : ℕ → Type 0 where
  helped : (text : List ℕ) → (IsMistake kind → ⊥) → Appends output.before output.after text → errors.after ≡ errors.before → Explains kind output errors 0
  unheard : (text : List ℕ) → (IsMistake kind → ⊥) → AppendsFront output.before output.after text → AppendsFront errors.before errors.after (fault_line Write)
      → Explains kind output errors (fault_status Write)
  wanting : output.after ≡ output.before → AppendsFront errors.before errors.after (fault_line Memory) → Explains kind output errors (fault_status Memory)
  refused : (text : List ℕ) → IsMistake kind → kind ≢ OutOfMemory → output.after ≡ output.before → AppendsFront errors.before errors.after text
      → Explains kind output errors 64

-- A run ends in a status: the words have no fault and choose a session, over the input or over files, or they have one that is
-- explained.
pub data Runs (words : List Text) (input : Option (List ℕ)) (output errors : Held) (status : ℕ) : Type 0 where
  session : (options : Options) → Choose words options → (files_in words ≡ [] → RunsSession options input output errors status)
      → RunsFiles options (files_in words) output errors status → Runs words input output errors status
  explained : (kind : ErrorKind) → IsFaultOf words kind → Explains kind output errors status → Runs words input output errors status
