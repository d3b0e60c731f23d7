-- The images of the elements of a list.
use Rattle.std.proofs.Common.{◌≡◌, List, [], ◌∷◌, map, refl, sym, ap, subst}
use Rattle.ic_path.specs.Orders.{Pick, here, there, IsIn}

-- what is picked from the images of a map is the image of what can be picked
pub picked_image : {X Y : Type 0} (f : X → Y) (xs : List X) {y : Y} {rest : List Y} → Pick y (map f xs) rest → (x : X) × (left : List X) × Pick x xs left × (y ≡ f x) × (rest ≡ map f left)
picked_image f [] k = elim k [ ]
picked_image f (x ∷ xs) here = (x, xs, here, refl, refl)
picked_image f (x ∷ xs) (there k) = let p = picked_image f xs k in (p.0, x ∷ p.1, there p.2, p.3, ap (λ s. f x ∷ s) p.4)

-- what holds of the image of each element holds of each image
pub each_image : {X Y : Type 0} (f : X → Y) (xs : List X) (P : Y → Type 0) → ((x : X) → IsIn x xs → P (f x)) → (y : Y) → IsIn y (map f xs) → P y
each_image f xs P each y i = let p = picked_image f xs i.1 in subst P (sym p.3) (each p.0 (p.1, p.2))

-- what holds of the images of each two elements holds of each two images
pub two_images : {X Y : Type 0} (f : X → Y) (xs : List X) (P : Y → Y → Type 0) → ((x z : X) (rest : List X) → Pick x xs rest → IsIn z rest → P (f x) (f z))
    → (y w : Y) (rest : List Y) → Pick y (map f xs) rest → IsIn w rest → P y w
two_images f xs P each y w rest k i =
    let p = picked_image f xs k in
    let j : IsIn w (map f p.1) = subst (λ s. IsIn w s) p.4 i in
    let q = picked_image f p.1 j.1 in
    subst (λ v. P v w) (sym p.3) (subst (λ v. P (f p.0) v) (sym q.3) (each p.0 q.0 p.1 p.2 (q.1, q.2)))
