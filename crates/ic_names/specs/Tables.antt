-- A table of names: a list in which each stands once, and the places in it.
use Rattle.std.specs.Prelude.{◌≡◌, ◌≢◌, ℕ, ◌<◌, ◌^◌, List, [], ◌∷◌, ◌++◌, length, Option, Some, None, slice_index_or, All}
use Rattle.ic_name.specs.Names.{Name, IsName, start_name, child_name}

-- the name at a place of the list
abbrev pub name_at : List Name → ℕ → Name
name_at ns k = slice_index_or ns k (start_name 0)

-- the name stands at the place
pub record StandsAt (ns : List Name) (n : Name) (k : ℕ) : Type 0 where
  pub within : k < length ns
  pub named : name_at ns k ≡ n

-- the name stands at no place
abbrev pub IsAbsent : List Name → Name → Type 0
IsAbsent ns n = (k : ℕ) → k < length ns → name_at ns k ≢ n

-- where the name stands, or none where it stands nowhere
abbrev pub IsPlaceOf : List Name → Name → Option ℕ → Type 0
IsPlaceOf ns n None = IsAbsent ns n
IsPlaceOf ns n (Some k) = StandsAt ns n k

-- names at two places differ
abbrev pub EachOnce : List Name → Type 0
EachOnce ns = (i j : ℕ) → i < length ns → j < length ns → name_at ns i ≡ name_at ns j → i ≡ j

-- before each child stands its parent
abbrev pub HaveParents : List Name → Type 0
HaveParents ns = (n : Name) (d k : ℕ) → StandsAt ns (child_name n d) k → (p : ℕ) × (p < k) × StandsAt ns n p

-- each name stands once and is one, its ancestors stand before it, and places fit in four bytes beside none
pub record IsTable (ns : List Name) : Type 0 where
  pub once : EachOnce ns
  pub proper : All IsName ns
  pub parents : HaveParents ns
  pub few : length ns < 2 ^ 32

-- the name stands in the new list, which is the old one, or the old one with just that name behind it where it wasn't there
pub data Enters (old : List Name) (n : Name) (new : List Name) : Type 0 where
  was : (k : ℕ) → StandsAt old n k → new ≡ old → Enters old n new
  is_new : IsAbsent old n → new ≡ old ++ n ∷ [] → Enters old n new

-- the first is the second name or an ancestor of it
pub record IsUpTo (m n : Name) : Type 0 where
  pub start : m.start ≡ n.start
  pub behind : List ℕ
  pub digits : n.digits ≡ m.digits ++ behind

-- the new list is the old one with names behind it, each the name or an ancestor of it
pub record GrowsUpTo (old : List Name) (n : Name) (new : List Name) : Type 0 where
  pub more : List Name
  pub behind : new ≡ old ++ more
  pub each : All (λ m. IsUpTo m n) more
