-- What is kept of standing events. Children, causes and dependents are told by their slots.
use Rattle.std.specs.Prelude.{ℕ, List, []}
use Rattle.ic_roster.specs.declared.interaction.Interaction.{Interaction}

-- what is kept of an event, and how many dependents more there are places for
pub record KeptEvent : Type 0 where
  pub interaction : Interaction
  pub line : ℕ
  pub rank : ℕ
  pub born : List ℕ
  pub causes : List ℕ
  pub dependents : List ℕ
  pub spare : ℕ

-- the same without dependents
abbrev pub lone : KeptEvent → KeptEvent
lone r = record r { dependents = []; spare = 0 }
