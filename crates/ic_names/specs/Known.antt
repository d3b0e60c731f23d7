-- How the names of a table are known: where each comes from.
use Rattle.std.specs.Prelude.{◌≡◌, ℕ, ◌<◌, List, [], ◌∷◌, ◌++◌, length, slice_index_or}
use Rattle.ic_name.specs.Names.{Name}
use Rattle.ic_names.specs.declared.entry.Origin.{Origin}
use Rattle.ic_names.specs.declared.entry.Origin.TheVariants.{Start}
use Rattle.ic_names.specs.Tables.{name_at}
use Rattle.ic_names.specs.Rows.{name_from, IsBefore}

-- names, and behind them one of each origin
abbrev pub names_by : List Name → List Origin → List Name
names_by ns [] = ns
names_by ns (o ∷ os) = names_by (ns ++ name_from ns o ∷ []) os

-- the names of these origins
abbrev pub names_told : List Origin → List Name
names_told os = names_by [] os

-- the origin at a place
abbrev pub origin_at : List Origin → ℕ → Origin
origin_at os k = slice_index_or os k (Start 0)

-- each origin is that of the name at its place, and speaks of places before it
pub record AreTold (os : List Origin) : Type 0 where
  pub named : (k : ℕ) → k < length os → name_at (names_told os) k ≡ name_from (names_told os) (origin_at os k)
  pub parents : (k : ℕ) → k < length os → IsBefore k (origin_at os k)
