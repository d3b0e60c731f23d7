-- What a session reads from, and what it writes its answers to.
use Rattle.std.specs.Prelude.{ℕ, List, Option}
use Rattle.ic_command.specs.Left.{left}
use Rattle.ic_session.specs.declared.streams.Sink.{Sink}
use Rattle.ic_session.specs.declared.streams.Source.{Source}

-- what a source has left: what was read and not yet taken, and then what its reader has left, where that is known
abbrev pub left_in : {R : Type 0} → (R → Option (List ℕ)) → Source R → Option (List ℕ)
left_in remaining source = left source.input (remaining source.reader.now)

-- what the writer of a sink holds, where that is known
abbrev pub written_to : {W : Type 0} → (W → Option (List ℕ)) → Sink W → Option (List ℕ)
written_to contents sink = contents sink.writer.now
