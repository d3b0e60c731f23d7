-- Which lines the events of a set are of.
use Rattle.std.specs.Prelude.{◌≡◌, ◌↔◌, ℕ, Bool, true, false, List, slice_index_or}
use Rattle.ic_path.specs.Orders.{IsIn}
use Rattle.ic_roster.specs.Rosters.{Stander}

-- a line is taken exactly where an event is of it
abbrev pub AreTaken : List Stander → List Bool → Type 0
AreTaken events taken = (line : ℕ) → (slice_index_or taken line false ≡ true) ↔ ((x : Stander) × IsIn x events × (x.id.line ≡ line))
