-- The offsets of tokens ascend, and stay within the text.
use Rattle.std.proofs.Common.{◌≡◌, ℕ, ◌+◌, ◌≤◌, ◌<◌, List, [], ◌∷◌, ◌++◌, length, Option, Some, None, refl, sym, ap, subst, arith}
use Rattle.ic_text.specs.Tokens.{Mode, between, token_at, mode_after, Item, with_item, items, Token}

-- each token stands from an offset on, and behind those before it
abbrev pub IsAbove : ℕ → List Item → Type 0
IsAbove k [] = Unit {0}
IsAbove k (i ∷ is) = (k ≤ i.at) × IsAbove (i.at + 1) is

-- from a lower offset on too
pub lower : (j k : ℕ) (is : List Item) → j ≤ k → IsAbove k is → IsAbove j is
lower j k [] le h = tt
lower j k (i ∷ is) le h = (omega (arith, h.0), h.1)

-- the tokens of bytes stand from their first on
pub items_above : (m : Mode) (o : ℕ) (bs : List ℕ) → IsAbove o (items m o bs)
unfolding items
items_above m o [] = tt
items_above m o (b ∷ bs) = one (token_at m b bs) (items_above (mode_after m b) (o + 1) bs)
  where
    one : (t : Option Token) → IsAbove (o + 1) (items (mode_after m b) (o + 1) bs) → IsAbove o (with_item o t (items (mode_after m b) (o + 1) bs))
    one None h = lower o (o + 1) (items (mode_after m b) (o + 1) bs) (omega arith) h
    one (Some t) h = (omega arith, h)

-- so does a token of them
above_split : (k : ℕ) (b : List Item) (i : Item) (r : List Item) → IsAbove k (b ++ i ∷ r) → k ≤ i.at
above_split k [] i r h = h.0
above_split k (j ∷ b) i r h = omega (arith, above_split (j.at + 1) b i r h.1, h.0)

-- the first of equal lists
head_of : (x y : Item) (xs ys : List Item) → x ∷ xs ≡ y ∷ ys → x ≡ y
head_of x y xs ys e = cc

-- what is behind it
tail_of : (x y : Item) (xs ys : List Item) → x ∷ xs ≡ y ∷ ys → xs ≡ ys
tail_of x y xs ys e = cc

-- an item with a lesser offset stands in front
pub earlier : (k : ℕ) (b : List Item) (i : Item) (r : List Item) (c : List Item) (j : Item) (q : List Item) → IsAbove k (b ++ i ∷ r) → b ++ i ∷ r ≡ c ++ j ∷ q → i.at < j.at → (d : List Item) × (c ≡ b ++ i ∷ d)
earlier k [] i r [] j q h e lt = let f = ap (λ (x : Item). x.at) (head_of i j r q e) in absurd (omega (arith, f, lt))
earlier k [] i r (x ∷ c) j q h e lt = (c, ap (λ (y : Item). y ∷ c) (sym (head_of i x r (c ++ j ∷ q) e)))
earlier k (x ∷ b) i r [] j q h e lt =
    let f = ap (λ (y : Item). y.at) (head_of x j (b ++ i ∷ r) q e) in
    let g = above_split (x.at + 1) b i r h.1 in
    absurd (omega (arith, f, g, lt))
earlier k (x ∷ b) i r (y ∷ c) j q h e lt =
    let d = earlier (x.at + 1) b i r c j q h.1 (tail_of x y (b ++ i ∷ r) (c ++ j ∷ q) e) lt in
    let hd : y ≡ x = sym (head_of x y (b ++ i ∷ r) (c ++ j ∷ q) e) in
    (d.0, λ z. hd z ∷ d.1 z)

-- items with one offset stand in one place
pub same_place : (k : ℕ) (b : List Item) (i : Item) (r : List Item) (c : List Item) (j : Item) (q : List Item) → IsAbove k (b ++ i ∷ r) → b ++ i ∷ r ≡ c ++ j ∷ q → i.at ≡ j.at → (b ≡ c) × (i ≡ j)
same_place k [] i r [] j q h e at = (refl, head_of i j r q e)
same_place k [] i r (x ∷ c) j q h e at =
    let above : IsAbove (i.at + 1) (c ++ j ∷ q) = subst (λ (w : List Item). IsAbove (i.at + 1) w) (tail_of i x r (c ++ j ∷ q) e) h.1 in
    let g = above_split (i.at + 1) c j q above in absurd (omega (arith, g, at))
same_place k (x ∷ b) i r [] j q h e at =
    let g = above_split (x.at + 1) b i r h.1 in
    let f = ap (λ (y : Item). y.at) (head_of x j (b ++ i ∷ r) q e) in absurd (omega (arith, g, f, at))
same_place k (x ∷ b) i r (y ∷ c) j q h e at =
    let d = same_place (x.at + 1) b i r c j q h.1 (tail_of x y (b ++ i ∷ r) (c ++ j ∷ q) e) at in
    let hd = head_of x y (b ++ i ∷ r) (c ++ j ∷ q) e in
    ((λ z. hd z ∷ d.0 z), d.1)

-- each token stands in front of an offset
abbrev IsUnder : ℕ → List Item → Type 0
IsUnder k [] = Unit {0}
IsUnder k (i ∷ is) = (i.at < k) × IsUnder k is

-- the tokens of bytes stand before their end
items_under : (k : ℕ) (m : Mode) (o : ℕ) (bs : List ℕ) → o + length bs ≤ k → IsUnder k (items m o bs)
unfolding items
items_under k m o [] le = tt
items_under k m o (b ∷ bs) le = one (token_at m b bs) (items_under k (mode_after m b) (o + 1) bs (omega (arith, le)))
  where
    one : (t : Option Token) → IsUnder k (items (mode_after m b) (o + 1) bs) → IsUnder k (with_item o t (items (mode_after m b) (o + 1) bs))
    one None h = h
    one (Some t) h = (omega (arith, le), h)

-- so does a token of them
under_split : (k : ℕ) (b : List Item) (i : Item) (r : List Item) → IsUnder k (b ++ i ∷ r) → i.at < k
under_split k [] i r h = h.0
under_split k (j ∷ b) i r h = under_split k b i r h.1

-- a token stands within the text
pub token_within : (text : List ℕ) (b : List Item) (i : Item) (r : List Item) → items between 0 text ≡ b ++ i ∷ r → i.at < length text
token_within text b i r e =
    under_split (length text) b i r (subst (λ (is : List Item). IsUnder (length text) is) e (items_under (length text) between 0 text (omega arith)))
