-- Lists whose order doesn't matter.
use Rattle.std.specs.Prelude.{List, [], ◌∷◌}

-- `rest` is the list without one occurrence of `x`.
pub data Pick {X : Type 0} : X → List X → List X → Type 0 where
  here : {x : X} {xs : List X} → Pick x (x ∷ xs) xs
  there : {x y : X} {xs rest : List X} → Pick x xs rest → Pick x (y ∷ xs) (y ∷ rest)

-- The same elements, each as often, in some order.
pub data Alike {X : Type 0} : List X → List X → Type 0 where
  none : Alike [] []
  more : {x : X} {xs ys rest : List X} → Pick x ys rest → Alike xs rest → Alike (x ∷ xs) ys

-- `x` is in the list.
abbrev pub IsIn : {X : Type 0} → X → List X → Type 0
IsIn {X} x xs = (rest : List X) × Pick x xs rest

-- Nothing is in the list twice.
abbrev pub IsOnce : {X : Type 0} → List X → Type 0
IsOnce {X} xs = (x : X) (rest : List X) → Pick x xs rest → IsIn x rest → ⊥
