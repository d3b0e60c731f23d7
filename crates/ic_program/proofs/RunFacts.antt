-- What an exit status says of a run.
use Rattle.std.proofs.Common.{◌≡◌, ◌||◌, ℕ, Bool, true, false, List, [], IfSome, arith}
use Rattle.std.specs.Prelude.{Option, None, Some}
use Rattle.std.specs.Io.KnownBytes.{Appends}
use Rattle.clap.specs.Words.{Text}
use Rattle.clap.specs.declared.error.kind.ErrorKind.{ErrorKind}
use Rattle.ic_session.specs.InputLines.{lines}
use Rattle.ic_session.specs.Sessions.{NamesFirst, Writes}
use Rattle.ic_session.proofs.NetsInTurn.{only_net}
use Rattle.ic_session.specs.declared.fault.Fault.TheVariants.{Read, Write, Memory, Settle}
use Rattle.ic_session.specs.declared.session.Status.TheVariants.{Ended, Stopped, NetRefused}
use Rattle.ic_program.specs.CommandLine.{Choose, files_in}
use Rattle.ic_program.specs.Runs.{Explains, Held, Runs, RunsFiles, RunsSession, mode_of}
use Rattle.ic_program.specs.Runs.Explains.{helped, unheard, wanting, refused}
use Rattle.ic_program.specs.Runs.Runs.{session, explained}
use Rattle.ic_program.specs.Runs.RunsFiles.{over, unread}
use Rattle.ic_program.specs.Runs.RunsSession.{ended, broken}
use Rattle.ic_program.specs.declared.options.Options.{Options}

-- the text of a session whose last net was refused was written
abbrev Refused : List Text → Option (List ℕ) → Held → Type 0
Refused words input output = IfSome input (λ bytes. (options : Options) × Choose words options × Writes (mode_of options) bytes NetRefused output.before output.after)

-- the first fault of the net was named, by a session that doesn't explain itself
abbrev Named : List Text → Option (List ℕ) → Held → Type 0
Named words input output = IfSome input (λ bytes. (options : Options) × Choose words options × ((mode_of options).explains ≡ false → (text : List ℕ) × NamesFirst (lines bytes) text × Appends output.before output.after text))

session_refused : (options : Options) (input : Option (List ℕ)) (output errors : Held) (n : ℕ) → RunsSession options input output errors n → n ≡ 2 → IfSome input (λ bytes. Writes (mode_of options) bytes NetRefused output.before output.after)
session_refused options input output errors n (ended Ended wrote same) is = absurd (omega arith)
session_refused options input output errors n (ended Stopped wrote same) is = absurd (omega arith)
session_refused options input output errors n (ended NetRefused wrote same) is = wrote
session_refused options input output errors n (broken Read begun said) is = absurd (omega arith)
session_refused options input output errors n (broken Write begun said) is = absurd (omega arith)
session_refused options input output errors n (broken Memory begun said) is = absurd (omega arith)
session_refused options input output errors n (broken Settle begun said) is = absurd (omega arith)

-- the words chose the options
chosen_refused : (words : List Text) (options : Options) (input : Option (List ℕ)) (output : Held) → Choose words options → IfSome input (λ bytes. Writes (mode_of options) bytes NetRefused output.before output.after)
    → Refused words input output
chosen_refused words options None output chosen wrote = tt
chosen_refused words options (Some xs) output chosen wrote = (options, chosen, wrote)

-- a session that doesn't explain itself isn't at a terminal
not_interactive : (a b : Bool) → (a || b) ≡ false → b ≡ false
not_interactive true b off = let no : true ≡ false = off in cc
not_interactive false b off = off

-- so it has one net
refused_named : (words : List Text) (input : Option (List ℕ)) (output : Held) → Refused words input output → Named words input output
refused_named words None output h = tt
refused_named words (Some xs) output (options, chosen, wrote) = (
  options,
  chosen,
  λ off.
      (let one = only_net off (not_interactive options.explains options.interactive off) wrote.1 in
      (wrote.0, one.names, wrote.2)),
)

explained_refused : (words : List Text) (kind : ErrorKind) (input : Option (List ℕ)) (output errors : Held) (n : ℕ) → Explains kind output errors n → n ≡ 2 → Refused words input output
explained_refused words kind input output errors n (helped text asked wrote same) is = absurd (omega arith)
explained_refused words kind input output errors n (unheard text asked front said) is = absurd (omega arith)
explained_refused words kind input output errors n (wanting kept said) is = absurd (omega arith)
explained_refused words kind input output errors n (refused text mistake memory kept said) is = absurd (omega arith)

-- with status 2, it was, unless the words name files
pub run_refused : (words : List Text) (input : Option (List ℕ)) (output errors : Held) (n : ℕ) → Runs words input output errors n → files_in words ≡ [] → n ≡ 2 → Refused words input output
run_refused words input output errors n (session options chosen alone files) none is = chosen_refused words options input output chosen (session_refused options input output errors n (alone none) is)
run_refused words input output errors n (explained kind fault told) none is = explained_refused words kind input output errors n told is

pub run_named : (words : List Text) (input : Option (List ℕ)) (output errors : Held) (n : ℕ) → Runs words input output errors n → files_in words ≡ [] → n ≡ 2 → Named words input output
run_named words input output errors n runs none is = refused_named words input output (run_refused words input output errors n runs none is)

session_unwritten : (options : Options) (input : Option (List ℕ)) (output errors : Held) (n : ℕ) → RunsSession options input output errors n → n ≡ 64 → output.after ≡ output.before
session_unwritten options input output errors n (ended Ended wrote same) is = absurd (omega arith)
session_unwritten options input output errors n (ended Stopped wrote same) is = absurd (omega arith)
session_unwritten options input output errors n (ended NetRefused wrote same) is = absurd (omega arith)
session_unwritten options input output errors n (broken Read begun said) is = absurd (omega arith)
session_unwritten options input output errors n (broken Write begun said) is = absurd (omega arith)
session_unwritten options input output errors n (broken Memory begun said) is = absurd (omega arith)
session_unwritten options input output errors n (broken Settle begun said) is = absurd (omega arith)

files_unwritten : (options : Options) (files : List Text) (output errors : Held) (n : ℕ) → RunsFiles options files output errors n → n ≡ 64 → output.after ≡ output.before
files_unwritten options files output errors n (over ran) is = session_unwritten options None output errors n ran is
files_unwritten options files output errors n (unread named said) is = absurd (omega arith)

explained_unwritten : (kind : ErrorKind) (output errors : Held) (n : ℕ) → Explains kind output errors n → n ≡ 64 → output.after ≡ output.before
explained_unwritten kind output errors n (helped text asked wrote same) is = absurd (omega arith)
explained_unwritten kind output errors n (unheard text asked front said) is = absurd (omega arith)
explained_unwritten kind output errors n (wanting kept said) is = kept
explained_unwritten kind output errors n (refused text mistake memory kept said) is = kept

-- with status 64, nothing was written
pub run_unwritten : (words : List Text) (input : Option (List ℕ)) (output errors : Held) (n : ℕ) → Runs words input output errors n → n ≡ 64 → output.after ≡ output.before
run_unwritten words input output errors n (session options chosen alone files) is = files_unwritten options (files_in words) output errors n files is
run_unwritten words input output errors n (explained kind fault told) is = explained_unwritten kind output errors n told is
