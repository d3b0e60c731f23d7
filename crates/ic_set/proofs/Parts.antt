-- Parts that are taken out of lists.
use Rattle.std.proofs.Common.{◌≡◌, List, [], ◌∷◌, ◌++◌, ◌⊎◌, inl, inr, subst}
use Rattle.ic_path.specs.Orders.{here, Alike, IsIn, IsOnce}
use Rattle.ic_path.proofs.Picks.{in_first, in_more, in_others}
use Rattle.ic_path.proofs.Alikes.{alike_self, alike_then, alike-cons, picked_alike}
use Rattle.ic_path.proofs.EachOnce.{once_rest}

-- members of a list, each once, are taken out of it
pub taken_all : {X : Type 0} (cs xs : List X) → IsOnce cs → ((c : X) → IsIn c cs → IsIn c xs) → (left : List X) × Alike xs (cs ++ left)
taken_all [] xs once within = (xs, alike_self xs)
taken_all {X} (c ∷ cs) xs once within =
    let i = within c (in_first c cs) in
    let r = taken_all cs i.0 (once_rest once here) (λ z j. other z j (in_others i.1 (within z (in_more c j)))) in
    (r.0, alike_then (picked_alike i.1) (alike-cons c r.1))
  where
    other : {rest : List X} (z : X) → IsIn z cs → (z ≡ c) ⊎ IsIn z rest → IsIn z rest
    other {rest} z j (inl e) = absurd (once c cs here (subst (λ w. IsIn w cs) e j))
    other z j (inr k) = k
