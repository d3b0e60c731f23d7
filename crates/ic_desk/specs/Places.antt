-- Where a mark has its place among the marks of a desk.
use Rattle.std.specs.Prelude.{◌≡◌, ◌≢◌, ◌<◌, ℕ, List, [], ◌∷◌, ◌++◌, length, Option, Some, None, slice_get, set}
use Rattle.ic_path.specs.Orders.{IsIn}
use Rattle.ic_desk.specs.Views.{NamedView}

-- the place of the mark of this name, if there is one
abbrev pub IsPlace : List NamedView → List ℕ → Option ℕ → Type 0
IsPlace marks name (Some place) = (x : NamedView) × (slice_get marks place ≡ Some x) × (x.name ≡ name)
IsPlace marks name None = (x : NamedView) → IsIn x marks → x.name ≢ name

-- a mark has the place, if it is one
abbrev pub IsPlaceIn : List NamedView → Option ℕ → Type 0
IsPlaceIn marks (Some place) = place < length marks
IsPlaceIn marks None = Unit {0}

-- a mark is put at the place, or behind all others
abbrev pub PutsAt : List NamedView → Option ℕ → NamedView → List NamedView → Type 0
PutsAt old (Some place) x new = new ≡ set old place x
PutsAt old None x new = new ≡ old ++ x ∷ []
