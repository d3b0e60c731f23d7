-- Lists in strict order by their images, lists that have each of the same things once, and reversed lists.
use Rattle.std.proofs.Common.{◌≡◌, List, [], ◌∷◌, map, reverse, sym, ap, ◌∙◌}
use Rattle.std.proofs.lemmas.List.{reverse-reverse}
use Rattle.std.specs.List.{AllByRecursion}
use Rattle.std.specs.List.Sorted.{IsStrictlySortedBy}
use Rattle.std.specs.Ordering.{on}
use Rattle.std.specs.declared.cmp.Ordering.{Ordering}
use Rattle.std.specs.declared.cmp.Ordering.TheVariants.{Less}
use Rattle.ic_path.specs.Orders.{Alike}
use Rattle.ic_path.specs.Rings.{HasEachOnce}
use Rattle.ic_path.proofs.Alikes.{alike_back, alike_then}
use Rattle.ic_path.proofs.EachOnce.{once_alike}
use Rattle.ic_desk.proofs.Backs.{alike_reverse}

-- a list whose images are in strict order is so by its images
pub sorted_by : {X K : Type 0} (f : X → K) (cmp : K → K → Ordering) (xs : List X) → IsStrictlySortedBy cmp (map f xs) → IsStrictlySortedBy (on f cmp) xs
unfolding IsStrictlySortedBy
sorted_by f cmp [] h = h
sorted_by {X} f cmp (x ∷ xs) h = (images xs h.0, sorted_by f cmp xs h.1)
  where
    images : (ys : List X) → AllByRecursion (λ z. cmp (f x) z ≡ Less) (map f ys) → AllByRecursion (λ z. cmp (f x) (f z) ≡ Less) ys
    images [] all = tt
    images (y ∷ ys) all = (all.0, images ys all.1)

-- lists that have each of the same things once are alike
pub each_same : {X : Type 0} {P Q : X → Type 0} (xs ys : List X) → ((x : X) → P x → Q x) → ((x : X) → Q x → P x) → HasEachOnce P xs → HasEachOnce Q ys → Alike xs ys
each_same xs ys to from h k = once_alike xs ys h.once k.once (λ x i. k.each x (to x (h.only x i))) (λ y i. h.each y (from y (k.only y i)))

-- lists that are alike are so when they are reversed
pub alike-reversed : {X : Type 0} (xs ys : List X) → Alike xs ys → Alike (reverse xs) (reverse ys)
alike-reversed xs ys a = alike_then (alike_back (alike_reverse xs)) (alike_then a (alike_reverse ys))

-- lists that are one when they are reversed are one
pub reversed_same : {X : Type 0} (xs ys : List X) → reverse xs ≡ reverse ys → xs ≡ ys
reversed_same xs ys e = sym (reverse-reverse xs) ∙ ap reverse e ∙ reverse-reverse ys
