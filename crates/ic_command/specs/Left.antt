-- What an input has left, over a reader.
use Rattle.std.specs.Prelude.{ℕ, ◌+◌, ◌*◌, List, Option, drop, length}
use Rattle.std.specs.Io.KnownBytes.{prepend_known}
use Rattle.ic_command.specs.declared.lines.input.Input.{Input}
use Rattle.ic_command.specs.declared.lines.input.TheConstants.{CHUNK}

-- the bytes that were read and not yet taken
abbrev pub unread : Input → List ℕ
unread i = drop i.start i.buffer.items

-- these, and then what the reader has left, where that is known
abbrev pub left : Input → Option (List ℕ) → Option (List ℕ)
left i known = prepend_known (unread i) known

-- how much an input can still be read: its unread bytes, and more for each call of the reader than one call can give
abbrev pub work : Input → ℕ
work i = i.reads * (CHUNK + 1) + length (unread i)
