-- Which paths are joined by links that are put in one after the other.
use Rattle.std.proofs.Common.{◌≡◌, ◌≢◌, ◌≤◌, ◌⊎◌, inl, inr, Bool, true, false, List, [], ◌∷◌, ◌++◌, refl, sym, arith, subst, ◌∙◌}
use Rattle.std.proofs.lemmas.List.{append-nil, append_assoc}
use Rattle.ic_name.specs.declared.ids.Link.{Link}
use Rattle.ic_name.specs.declared.ids.Spot.{Spot}
use Rattle.ic_name.specs.Spots.{same_spot}
use Rattle.ic_name.proofs.SpotFacts.{same_spot_true, same_spot_self}
use Rattle.ic_path.specs.FarEnds.{far, splice}
use Rattle.ic_path.specs.Links.{degree, IsSlim}
use Rattle.ic_path.specs.Orders.{IsIn, Alike}
use Rattle.ic_path.proofs.Alikes.{alike_past}
use Rattle.ic_path.proofs.Orders.{far-alike, far-far, far_bare, slim-alike}
use Rattle.ic_path.proofs.Picks.{in_first, in_more, pick_before}
use Rattle.ic_path.proofs.InLists.{in_behind}
use Rattle.ic_link.specs.Links.{shape}
use Rattle.ic_link.proofs.FarSpots.{few_at_a, few_at_b}
use Rattle.ic_theory.proofs.Counts.{degree-append}

-- one of the links joined the paths that ended at these two spots, as it was put in
pub record Meets (old made : List Link) (p q : Spot) : Type 0 where
  pub front : List Link
  pub back : List Link
  pub link : Link
  pub split : made ≡ front ++ link ∷ back
  pub sides : ((far shape (front ++ old) link.a ≡ p) × (far shape (front ++ old) link.b ≡ q)) ⊎ ((far shape (front ++ old) link.a ≡ q) × (far shape (front ++ old) link.b ≡ p))

-- a spot has no fewer link ends once more links are there
more_ends : (front more old : List Link) (p : Spot) → degree shape (front ++ old) p ≤ degree shape ((front ++ more) ++ old) p
more_ends front more old p =
    let a = degree-append shape front old p in
    let b = degree-append shape (front ++ more) old p in
    let c = degree-append shape front more p in
    omega arith

-- so the first links are slim where all are
slim_front : (front more old : List Link) → IsSlim shape ((front ++ more) ++ old) → IsSlim shape (front ++ old)
slim_front front more old slim p = let up = more_ends front more old p in let low = slim p in omega arith

-- and without them those of before are
pub slim_old : (made old : List Link) → IsSlim shape (made ++ old) → IsSlim shape old
slim_old made old slim p = let sum = degree-append shape made old p in let low = slim p in omega arith

-- the next link may stand first
next_first : (front old : List Link) (l : Link) → Alike ((front ++ l ∷ []) ++ old) (l ∷ (front ++ old))
next_first front old l = subst (λ xs. Alike xs (l ∷ (front ++ old))) (sym (append_assoc front (l ∷ []) old)) (alike_past front (l ∷ []) old)

-- the next link finds room
pub room_next : (front : List Link) (l : Link) (back old : List Link) → IsSlim shape ((front ++ l ∷ back) ++ old) → IsSlim shape (l ∷ (front ++ old))
room_next front l back old slim =
    slim-alike shape (next_first front old l) (slim_front (front ++ l ∷ []) back old (subst (λ xs. IsSlim shape (xs ++ old)) (sym (append_assoc front (l ∷ []) back)) slim))

-- what is in the first part is in the whole
in_part : {x : Link} (xs ys : List Link) → IsIn x xs → IsIn x (xs ++ ys)
in_part xs ys i = (i.0 ++ ys, pick_before ys i.1)

-- where a path joins two spots at last, it joined them when the first links were in, or one of the others met there
pub joined_since : (old front back : List Link) → IsSlim shape ((front ++ back) ++ old) → (p q : Spot) → degree shape ((front ++ back) ++ old) p ≤ 1 → far shape ((front ++ back) ++ old) p ≡ q
    → (far shape (front ++ old) p ≡ q) ⊎ Meets old (front ++ back) p q
joined_since old front [] slim p q few h = inl (subst (λ xs. far shape (xs ++ old) p ≡ q) (append-nil front) h)
joined_since old front (l ∷ bs) slim p q few h = elim (joined_since old next bs slim' p q few' h') [
  | inl e ↦ by (same_spot p (before l.a)) (same_spot p (before l.b)) refl refl (sym first ∙ e)
  | inr m ↦ inr (subst (λ xs. Meets old xs p q) whole m)
]
  where
    next : List Link
    next = front ++ l ∷ []

    before : Spot → Spot
    before = far shape (front ++ old)

    whole : next ++ bs ≡ front ++ l ∷ bs
    whole = append_assoc front (l ∷ []) bs

    slim' : IsSlim shape ((next ++ bs) ++ old)
    slim' = subst (λ xs. IsSlim shape (xs ++ old)) (sym whole) slim

    few' : degree shape ((next ++ bs) ++ old) p ≤ 1
    few' = subst (λ xs. degree shape (xs ++ old) p ≤ 1) (sym whole) few

    h' : far shape ((next ++ bs) ++ old) p ≡ q
    h' = subst (λ xs. far shape (xs ++ old) p ≡ q) (sym whole) h

    first : far shape (next ++ old) p ≡ splice shape before l.a l.b p
    first = far-alike shape (next_first front old l) (slim_front next bs old slim') p (let up = more_ends next bs old p in omega (arith, up, few'))

    by : (t u : Bool) → same_spot p (before l.a) ≡ t → same_spot p (before l.b) ≡ u → splice shape before l.a l.b p ≡ q → (before p ≡ q) ⊎ Meets old (front ++ l ∷ bs) p q
    by true u i j e = inr (record { front = front; back = bs; link = l; split = refl; sides = inl (sym (same_spot_true p _ i), rw i at e) })
    by false true i j e = inr (record { front = front; back = bs; link = l; split = refl; sides = inr (rw (i, j) at e, sym (same_spot_true p _ j)) })
    by false false i j e = inl (rw (i, j) at e)

-- a path that ends at a spot at which none of the new links ends is there once they are in
kept_far : (old front : List Link) → IsSlim shape (front ++ old) → (p q : Spot) → ((l : Link) → IsIn l front → (l.a ≢ q) × (l.b ≢ q)) → far shape old p ≡ q → far shape (front ++ old) p ≡ q
kept_far old [] slim p q off h = h
kept_far old (l ∷ ls) slim p q off h = by (kept_far old ls slim' p q (λ m i. off m (in_more l i)) h) (same_spot p (before l.a)) (same_spot p (before l.b)) refl refl
  where
    before : Spot → Spot
    before = far shape (ls ++ old)

    slim' : IsSlim shape (ls ++ old)
    slim' = slim_old (l ∷ []) (ls ++ old) slim

    -- the far end of a spot's far end is the spot
    back_at : before p ≡ q → (x : Spot) → degree shape (ls ++ old) x ≤ 1 → same_spot p (before x) ≡ true → x ≡ q
    back_at still x few e = sym (far-far shape (ls ++ old) slim' x few) ∙ subst (λ y. far shape (ls ++ old) y ≡ q) (same_spot_true p _ e) still

    by : before p ≡ q → (t u : Bool) → same_spot p (before l.a) ≡ t → same_spot p (before l.b) ≡ u → splice shape before l.a l.b p ≡ q
    by still true u i j = absurd ((off l (in_first l ls)).0 (back_at still l.a (few_at_a (ls ++ old) l slim) i))
    by still false true i j = absurd ((off l (in_first l ls)).1 (back_at still l.b (few_at_b (ls ++ old) l slim) j))
    by still false false i j = rw (i, j) still

-- so no link met there that a path joined before
pub not_met : (old made : List Link) → IsSlim shape (made ++ old) → (p q : Spot) → ((l : Link) → IsIn l made → (l.a ≢ q) × (l.b ≢ q)) → Meets old made p q → far shape old p ≡ q → ⊥
not_met old made slim p q off m h = elim m.sides [
  | inl s ↦ (its m.link (in_behind m.front (in_first m.link m.back))).0 (sym (far-far shape (m.front ++ old) thin m.link.a (few_at_a (m.front ++ old) m.link room)) ∙ subst (λ y. far shape (m.front ++ old) y ≡ q) (sym s.0) still)
  | inr s ↦ (its m.link (in_behind m.front (in_first m.link m.back))).1 (sym (far-far shape (m.front ++ old) thin m.link.b (few_at_b (m.front ++ old) m.link room)) ∙ subst (λ y. far shape (m.front ++ old) y ≡ q) (sym s.1) still)
]
  where
    its : (l : Link) → IsIn l (m.front ++ m.link ∷ m.back) → (l.a ≢ q) × (l.b ≢ q)
    its = subst (λ xs. (l : Link) → IsIn l xs → (l.a ≢ q) × (l.b ≢ q)) m.split off

    all : IsSlim shape ((m.front ++ m.link ∷ m.back) ++ old)
    all = subst (λ xs. IsSlim shape (xs ++ old)) m.split slim

    thin : IsSlim shape (m.front ++ old)
    thin = slim_front m.front (m.link ∷ m.back) old all

    room : IsSlim shape (m.link ∷ (m.front ++ old))
    room = room_next m.front m.link m.back old all

    still : far shape (m.front ++ old) p ≡ q
    still = kept_far old m.front thin p q (λ l i. its l (in_part m.front (m.link ∷ m.back) i)) h

-- a link that begins at a spot where no other one ends found the spot bare
pub bare_first : (old made : List Link) → IsSlim shape (made ++ old) → (front back : List Link) (l : Link) → made ≡ front ++ l ∷ back → degree shape (made ++ old) l.a ≤ 1 → far shape (front ++ old) l.a ≡ l.a
bare_first old made slim front back l split few =
    let all = subst (λ xs. IsSlim shape (xs ++ old)) split slim in
    let few' = subst (λ xs. degree shape (xs ++ old) l.a ≤ 1) split few in
    let thin = slim_front front (l ∷ back) old all in
    let parts = degree-append shape (front ++ l ∷ back) old l.a in
    let inner = degree-append shape front (l ∷ back) l.a in
    let behind = degree-append shape front old l.a in
    let inner' = rw (same_spot_self l.a) at inner in
    far_bare shape (front ++ old) thin l.a (omega (arith, parts, inner', behind, few'))
