-- What a name table shows.
use Rattle.std.specs.Prelude.{ℕ, List, map}
use Rattle.ic_text.specs.declared.seen.Seen.{Seen}
use Rattle.ic_text.specs.Names.{Entry}

-- the entry that a name is
abbrev pub name_of : Seen → Entry
name_of n = record { text = n.text.now; first = n.first; times = n.times }

-- the entries
abbrev pub names_of : List Seen → List Entry
names_of ns = map name_of ns

-- where a name occurs first
abbrev pub first_of : Entry → ℕ
first_of n = n.first
