-- Lists that have each element once, mapped.
use Rattle.std.proofs.Common.{◌≡◌, List, map, subst, ◌∙◌}
use Rattle.ic_path.specs.Orders.{Pick, IsIn}
use Rattle.ic_path.specs.Rings.{HasEachOnce}
use Rattle.ic_path.proofs.Picks.{in_picked}
use Rattle.ic_path.proofs.InLists.{in-map, map_cases}
use Rattle.ic_roster.proofs.Images.{picked_image}

-- the images of a list are all different where equal images come from one element
once_image : {X Y : Type 0} (f : X → Y) (P : X → Type 0) (xs : List X) → HasEachOnce P xs → ((x y : X) → P x → P y → f x ≡ f y → x ≡ y) → (c : Y) (rest : List Y) → Pick c (map f xs) rest → IsIn c rest → ⊥
once_image {X} f P xs h one c rest k j =
    let p = picked_image f xs k in
    let m = map_cases f p.1 (subst (λ ys. IsIn c ys) p.4 j) in
    let same = one m.0 p.0 (h.only m.0 (in_picked p.2 m.1)) (h.only p.0 (p.1, p.2)) (m.2 ∙ p.3) in
    h.once p.0 p.1 p.2 (subst (λ (x : X). IsIn x p.1) same m.1)

-- and then they are what the elements are images of, each once
pub each_image : {X Y : Type 0} (f : X → Y) (P : X → Type 0) (Q : Y → Type 0) (xs : List X) → HasEachOnce P xs → ((c : Y) → Q c → (x : X) × P x × (f x ≡ c)) → ((x : X) → P x → Q (f x))
    → ((x y : X) → P x → P y → f x ≡ f y → x ≡ y) → HasEachOnce Q (map f xs)
each_image f P Q xs h from to one = record {
  each = λ c q. subst (λ y. IsIn y (map f xs)) (from c q).2 (in-map f (h.each (from c q).0 (from c q).1));
  only = λ c i. subst Q (map_cases f xs i).2 (to (map_cases f xs i).0 (h.only (map_cases f xs i).0 (map_cases f xs i).1));
  once = once_image f P xs h one;
}
