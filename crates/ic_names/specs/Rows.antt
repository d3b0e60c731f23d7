-- How a table of names is kept: an entry for each name, from which is read where it comes from.
use Rattle.std.specs.Prelude.{◌≡◌, ℕ, zero, suc, ◌<◌, List, [], ◌∷◌, ◌++◌, length, Option, None, slice_index_or}
use Rattle.ic_name.specs.Names.{Name, start_name, child_name}
use Rattle.ic_names.specs.declared.entry.Origin.{Origin}
use Rattle.ic_names.specs.declared.entry.Origin.TheVariants.{Start, Child}
use Rattle.ic_names.specs.declared.entry.Entry.{Entry}
use Rattle.ic_names.specs.Keys.{key_of, depth_in, start_in}
use Rattle.ic_names.specs.Blocks.{anchor_of, block_of, last_of}
use Rattle.ic_names.specs.Tables.{name_at, StandsAt, IsPlaceOf, IsTable}

-- the names, for how many further ones there is room, and for how many start numbers
pub record RowsView : Type 0 where
  pub names : List Name
  pub room : ℕ
  pub starts : ℕ

-- the name of this origin, beside these names
abbrev pub name_from : List Name → Origin → Name
name_from ns (Start k) = start_name k
name_from ns (Child d p) = child_name (name_at ns p) d

-- the origin speaks of places before this one
abbrev pub IsBefore : ℕ → Origin → Type 0
IsBefore k (Start n) = Unit {0}
IsBefore k (Child d p) = (p < k) × (d < 4)

-- where a name comes from, by its depth: one of depth 0 is that of the start agent of this number, and any other that of the
-- child with this digit of the name at this place
abbrev pub origin_from : (deep start digit parent : ℕ) → Origin
origin_from zero start digit parent = Start start
origin_from (suc deep) start digit parent = Child digit parent

-- where the name of an entry comes from: its depth and its start number are in its key, and its last digit is that of its block
abbrev pub origin_of : Entry → Origin
origin_of e = origin_from (depth_in e.key.0) (start_in e.key.0) (last_of e.block.0) e.parent

-- names, and behind them those of the entries, each of its origin
abbrev pub names_with : List Name → List Entry → List Name
names_with ns [] = ns
names_with ns (e ∷ es) = names_with (ns ++ name_from ns (origin_of e) ∷ []) es

-- the names of the entries
abbrev pub names_of : List Entry → List Name
names_of es = names_with [] es

-- the entry at a place
abbrev pub entry_at : List Entry → ℕ → Entry
entry_at es k = slice_index_or es k (record { key = record { 0 = 0 }; block = record { 0 = 0 }; children = []; anchor = 0; parent = 0 })

-- where an entry says that a child stands
abbrev pub child_at : List Entry → ℕ → ℕ → Option ℕ
child_at es k d = slice_index_or (entry_at es k).children d None

-- where the name of a start agent is said to stand
abbrev pub start_at : List (Option ℕ) → ℕ → Option ℕ
start_at ss k = slice_index_or ss k None

-- the entries and the places of start agents say of the names what holds
pub record AreRows (ns : List Name) (es : List Entry) (ss : List (Option ℕ)) : Type 0 where
  pub table : IsTable ns
  pub named : (k : ℕ) → k < length es → name_at ns k ≡ name_from ns (origin_of (entry_at es k))
  pub parents : (k : ℕ) → k < length es → IsBefore k (origin_of (entry_at es k))
  pub keys : (k : ℕ) → k < length es → (entry_at es k).key.0 ≡ key_of (name_at ns k)
  pub anchors : (k : ℕ) → k < length es → StandsAt ns (anchor_of (name_at ns k)) (entry_at es k).anchor
  pub blocks : (k : ℕ) → k < length es → (entry_at es k).block.0 ≡ block_of (name_at ns k)
  pub four : (k : ℕ) → k < length es → length (entry_at es k).children ≡ 4
  pub children : (k d : ℕ) → k < length es → d < 4 → IsPlaceOf ns (child_name (name_at ns k) d) (child_at es k d)
  pub starts : (k : ℕ) → IsPlaceOf ns (start_name k) (start_at ss k)
