-- Going through the entries of slots.
use Rattle.std.proofs.Common.{◌≡◌, ℕ, List, [], ◌∷◌, ◌++◌, Option, Some, Contains, ap, ◌∙◌, append_assoc}
use Rattle.slab.specs.Slab.{entries_from}
use Rattle.slab.proofs.SlabLemmas.{Contains-cons, Contains-entries}
use Rattle.ic_path.proofs.Picks.{contains-head}
use Rattle.ic_roster.specs.Slots.{slot_at}

-- each entry is in its slot
abbrev pub AreHeld : {T : Type 0} → List (Option T) → List (ℕ × T) → Type 0
AreHeld {T} xs es = (e : ℕ × T) → Contains es e → slot_at xs e.0 ≡ Some e.1

-- all entries are
pub all_held : {T : Type 0} (xs : List (Option T)) → AreHeld xs (entries_from 0 xs)
all_held xs e i = (Contains-entries (record { slots = xs; vacant_key = 0; capacity = 0 }) e.0 e.1).0 i

-- the first entry is
pub first_held : {T : Type 0} (xs : List (Option T)) (e : ℕ × T) (es : List (ℕ × T)) → AreHeld xs (e ∷ es) → slot_at xs e.0 ≡ Some e.1
first_held xs e es held = held e (contains-head e es)

-- and so are the others
pub others_held : {T : Type 0} (xs : List (Option T)) (e : ℕ × T) (es : List (ℕ × T)) → AreHeld xs (e ∷ es) → AreHeld xs es
others_held xs e es held d i = held d (Contains-cons e d es i)

-- one element more is listed, and is no longer left
pub listed_more : {X : Type 0} (done : List X) (x y : X) (rest all : List X) → done ++ y ∷ rest ≡ all → x ≡ y → (done ++ x ∷ []) ++ rest ≡ all
listed_more done x y rest all h e = append_assoc done (x ∷ []) rest ∙ ap (λ z. done ++ z ∷ rest) e ∙ h
