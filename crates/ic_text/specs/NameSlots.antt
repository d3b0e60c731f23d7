-- Where the names of a text are found: each by its slot, or among the others.
use Rattle.std.specs.Prelude.{◌≡◌, ℕ, ◌+◌, ◌*◌, ◌%◌, ◌^◌, ◌<◌, List, [], length, map, get_or, Option, Some, None, if◌then◌else◌}
use Rattle.std.specs.List.{fold}
use Rattle.std.specs.Str.{bytes_eq}
use Rattle.std.specs.BTreeMap.{BTreeMap, get_by}
use Rattle.std.specs.Ordering.{nat_cmp}
use Rattle.std.specs.Cmp.Lexicographic.{slice_cmp}
use denote.Ref.{Bor}
use Rattle.ic_slots.specs.Slots.{slot_of, Gives}
use Rattle.ic_text.specs.Names.{Entry, place}

-- a number for a name, by its bytes
abbrev pub hash_of : List ℕ → ℕ
hash_of x = fold (λ h b. (h * 131 % 2 ^ 32 + b) % 2 ^ 32) 0 x

-- the slot that a name comes to, among so many
unfoldable pub slot_for : List ℕ → ℕ → ℕ
slot_for x slots = hash_of x % slots

-- the texts of names
abbrev pub texts : List Entry → List (List ℕ)
texts ns = map (λ n. n.text) ns

-- the text of the name of this number
abbrev pub text_at : List Entry → ℕ → List ℕ
text_at ns i = get_or (texts ns) i []

-- the number that a name is found to have, by what its slot holds and what is known of the others
abbrev pub found : List ℕ → List Entry → Option ℕ → Option ℕ → Option ℕ
found x ns None other = None
found x ns (Some i) other = if bytes_eq x (text_at ns i) then Some i else other

-- the number of a name among the others
abbrev pub other_of : BTreeMap (Bor (List ℕ)) ℕ → List ℕ → Option ℕ
other_of m x = get_by (λ k. slice_cmp nat_cmp x k.now) m

-- The number n of a new name x was put into its slot k, where that held none, and else among the others.
abbrev pub IsKept : Option ℕ → ℕ → List ℕ → ℕ → List (Option ℕ) → List (Option ℕ) → (List ℕ → Option ℕ) → (List ℕ → Option ℕ) → Type 0
IsKept None k x n slots slots' other other' = Gives k (Some n) slots slots' × (length slots' ≡ length slots) × ((y : List ℕ) → other' y ≡ other y)
IsKept (Some _) k x n slots slots' other other' = (slots' ≡ slots) × ((y : List ℕ) → other' y ≡ (if bytes_eq x y then Some n else other y))

-- What slots and others keep: a slot that is held has the number of a name; the others came to slots that are held; and
-- so each name is found.
pub record Finds (ns : List Entry) (slots : List (Option ℕ)) (other : List ℕ → Option ℕ) : Type 0 where
  pub some : 0 < length slots
  pub held : (k i : ℕ) → slot_of slots k ≡ Some i → i < length ns
  pub others : (x : List ℕ) → slot_of slots (slot_for x (length slots)) ≡ None → other x ≡ None
  pub all : (x : List ℕ) → found x ns (slot_of slots (slot_for x (length slots))) (other x) ≡ place x ns
