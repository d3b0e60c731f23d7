-- What holds of each element of a list, element by element.
use Rattle.std.proofs.Common.{suc, List, [], ◌∷◌, ◌++◌, map, flat_map, arith}
use Rattle.std.specs.Prelude.{All}
use Rattle.std.specs.List.{AllByRecursion}
use Rattle.ic_theory.specs.Orders.{IsIn}
use Rattle.ic_theory.proofs.Picks.{in_first, in_more}

-- an index of the whole list
from_index : {X : Type 0} (P : X → Type 0) (x : X) (xs : List X) → All P (x ∷ xs) → All P xs
from_index P x xs h k d lt = h (suc k) d (omega (arith, lt))

-- by index, so one by one
pub each : {X : Type 0} (P : X → Type 0) (xs : List X) → All P xs → AllByRecursion P xs
each P [] h = tt
each P (x ∷ xs) h = (h 0 x (omega arith), each P xs (from_index P x xs h))

-- what follows from two facts
pub each_both : {X : Type 0} (P Q R : X → Type 0) (xs : List X) → ((x : X) → P x → Q x → R x) → AllByRecursion P xs → AllByRecursion Q xs → AllByRecursion R xs
each_both P Q R [] f h k = tt
each_both P Q R (x ∷ xs) f h k = (f x h.0 k.0, each_both P Q R xs f h.1 k.1)

-- what follows from one
pub each_so : {X : Type 0} (P R : X → Type 0) (xs : List X) → ((x : X) → P x → R x) → AllByRecursion P xs → AllByRecursion R xs
each_so P R [] f h = tt
each_so P R (x ∷ xs) f h = (f x h.0, each_so P R xs f h.1)

-- what holds of whatever is in the list
pub each_in : {X : Type 0} (P : X → Type 0) (xs : List X) → ((x : X) → IsIn x xs → P x) → AllByRecursion P xs
each_in P [] f = tt
each_in P (x ∷ xs) f = (f x (in_first x xs), each_in P xs (λ y i. f y (in_more x i)))

-- of two lists in a row
pub each_append : {X : Type 0} (P : X → Type 0) (xs ys : List X) → AllByRecursion P xs → AllByRecursion P ys → AllByRecursion P (xs ++ ys)
each_append P [] ys h k = k
each_append P (x ∷ xs) ys h k = (h.0, each_append P xs ys h.1 k)

-- of what a function gives
pub each_map : {X Y : Type 0} (P : Y → Type 0) (f : X → Y) (xs : List X) → AllByRecursion P (map f xs) → AllByRecursion (λ x. P (f x)) xs
each_map P f [] h = tt
each_map P f (x ∷ xs) h = (h.0, each_map P f xs h.1)

pub each_of_map : {X Y : Type 0} (P : Y → Type 0) (f : X → Y) (xs : List X) → AllByRecursion (λ x. P (f x)) xs → AllByRecursion P (map f xs)
each_of_map P f [] h = tt
each_of_map P f (x ∷ xs) h = (h.0, each_of_map P f xs h.1)

-- of lists in a row
pub each_flat : {X Y : Type 0} (P : Y → Type 0) (f : X → List Y) (xs : List X) → AllByRecursion (λ x. AllByRecursion P (f x)) xs → AllByRecursion P (flat_map f xs)
each_flat P f [] h = tt
each_flat P f (x ∷ xs) h = each_append P (f x) (flat_map f xs) h.0 (each_flat P f xs h.1)
