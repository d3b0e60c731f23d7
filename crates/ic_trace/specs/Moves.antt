-- Moves, what they make of a list, and causal equivalence (Danos and Krivine 2004).
use Rattle.std.specs.Prelude.{◌≡◌, List, [], ◌∷◌, ◌++◌, length, map}
use Rattle.ic_name.specs.Events.{Event}
use Rattle.ic_theory.specs.Starts.{Start}
use Rattle.ic_theory.specs.Letters as theory
use Rattle.ic_trace.specs.declared.lists.Letter.{Letter}
use Rattle.ic_trace.specs.declared.moving.Move.{Move}
use Rattle.ic_trace.specs.declared.moving.Move.TheVariants.{Swap, Cancel}
use Rattle.ic_trace.specs.Letters.{named}

-- one lawful move: neighbours of events of which neither is a direct cause of the other change places, or a letter and its
-- inverse go
pub data Makes (s : Start) : Move → List theory.Letter → List theory.Letter → Type 0 where
  swaps : (before behind : List theory.Letter) (x y : theory.Letter) → theory.AreConcurrent s (theory.event_of x) (theory.event_of y) → Makes s (Swap (length before)) (before ++ x ∷ y ∷ behind) (before ++ y ∷ x ∷ behind)
  fire_undo : (before behind : List theory.Letter) (e : Event) → Makes s (Cancel (length before)) (before ++ theory.Fire e ∷ theory.Undo e ∷ behind) (before ++ behind)
  undo_fire : (before behind : List theory.Letter) (e : Event) → Makes s (Cancel (length before)) (before ++ theory.Undo e ∷ theory.Fire e ∷ behind) (before ++ behind)

-- moves one after the other, each lawful in its turn
pub data MakeInTurn (s : Start) : List theory.Letter → List Move → List theory.Letter → Type 0 where
  ends : {ls : List theory.Letter} → MakeInTurn s ls [] ls
  goes_on : {m : Move} {ms : List Move} {ls ks js : List theory.Letter} → Makes s m ls ks → MakeInTurn s ks ms js → MakeInTurn s ls (m ∷ ms) js

-- the moves lead from a legal list to another one
abbrev pub Lead : Start → List Letter → List Move → List Letter → Type 0
Lead s xs ms ys = (ls ks : List theory.Letter) × theory.IsLegal s ls × MakeInTurn s ls ms ks × (map named ls ≡ xs) × (map named ks ≡ ys)

-- moves and their inverses lead from one list to the other, through legal lists
pub data AreEquivalent (s : Start) : List Letter → List Letter → Type 0 where
  same : {xs : List Letter} → AreEquivalent s xs xs
  forth : {m : Move} {xs ys zs : List Letter} → Lead s xs (m ∷ []) ys → AreEquivalent s ys zs → AreEquivalent s xs zs
  back : {m : Move} {xs ys zs : List Letter} → Lead s ys (m ∷ []) xs → AreEquivalent s ys zs → AreEquivalent s xs zs
