-- The ends of wires that words name.
use Rattle.std.specs.Prelude.{ℕ, List, [], ◌∷◌, Option, Some, None}
use Rattle.ic_name.specs.Names.{Name, IsName}
use Rattle.ic_name.specs.NameTexts.{name_text}
use Rattle.ic_command.specs.Commands.{IsNumberUpTo}
use Rattle.ic_command.specs.MarkNames.{IsMarkName}
use Rattle.ic_command.specs.declared.place.TheConstants.{MAX_PORT}
use Rattle.ic_command.specs.declared.place.Place.{Place}
use Rattle.ic_command.specs.declared.place.Place.TheVariants.{Port, Free}

-- words that name a place: an agent and the number of a port, or a name of the text
pub data NamesPlace : List (List ℕ) → Place → Type 0 where
  port : {a : Name} {w : List ℕ} {p : ℕ} → IsName a → IsNumberUpTo MAX_PORT w p → NamesPlace (name_text a ∷ w ∷ []) (Port a p)
  free : {name : List ℕ} → IsMarkName name → NamesPlace (name ∷ []) (Free name)

-- the place that words name, if they name one
abbrev pub IsPlaceIn : List (List ℕ) → Option Place → Type 0
IsPlaceIn ws (Some p) = NamesPlace ws p
IsPlaceIn ws None = (p : Place) → ¬ (NamesPlace ws p)
