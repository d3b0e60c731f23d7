-- Blocks of digits: those of a name behind an ancestor that stands for the digits before them.
use Rattle.std.specs.Prelude.{ℕ, ◌-◌, ◌*◌, ◌/◌, ◌%◌, List, length, take, drop}
use Rattle.ic_name.specs.Names.{Name, depth}
use Rattle.ic_names.specs.Keys.{front_of}

-- the depth of a name's anchor: the greatest multiple of 32 below the depth of the name, or 0
abbrev pub anchor_depth : Name → ℕ
anchor_depth n = (depth n - 1) / 32 * 32

-- the anchor of a name: its ancestor at that depth
abbrev pub anchor_of : Name → Name
anchor_of n = record { start = n.start; digits = take (anchor_depth n) n.digits }

-- digits as one number in base 4
abbrev pub number_of : List ℕ → ℕ
number_of ds = front_of (length ds) ds

-- the digits of a name behind its anchor, in one number
abbrev pub block_of : Name → ℕ
block_of n = number_of (drop (anchor_depth n) n.digits)

-- the last of the digits in such a number
abbrev pub last_of : ℕ → ℕ
last_of b = b % 4
