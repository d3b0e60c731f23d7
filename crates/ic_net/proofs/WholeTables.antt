-- Tables whose agents have the ports of their kinds are whole.
use Rattle.std.proofs.Common.{◌≡◌, ℕ, ◌+◌, ◌<◌, ◌≤◌, Bool, true, false, List, [], ◌∷◌, map, length, refl, sym, ap, arith, ◌∙◌, leb, Some, None, inl, inr}
use Rattle.std.specs.Prelude.{if◌then◌else◌, slice_get, is_some, option_map, All, ◌⊎◌}
use Rattle.std.proofs.lemmas.Bool.{cases_lt, le-leb, lt-leb}
use Rattle.std.proofs.lemmas.Option.{slice_get-get_or, slice_get_past}
use Rattle.std.proofs.lemmas.List.Elements.{All-cons, All-nil}
use Rattle.std.proofs.lemmas.Map.Keys.{sorted_head, sorted_tail}
use Rattle.std.specs.List.{AllByRecursion}
use Rattle.std.specs.List.Sorted.{IsStrictlySortedBy}
use Rattle.std.specs.declared.cmp.Ordering.TheVariants.{Less}
use Rattle.ic_name.specs.Names.{Name, name_cmp}
use Rattle.ic_name.specs.Kinds.{arity}
use Rattle.ic_name.specs.Same.{same_name}
use Rattle.ic_name.proofs.NameOrder.{name_less_apart}
use Rattle.ic_name.proofs.SameFacts.{same_name_true, same_name_self}
use Rattle.ic_name.specs.declared.ports.Port.{Port}
use Rattle.ic_theory.specs.Nets.{has_port}
use Rattle.ic_theory.specs.Listed.{NetAgent as Listed, agent_among, partner_at}

pub apart : (a b : Name) → (a ≡ b → ⊥) → same_name a b ≡ false
apart a b n = go (same_name a b) refl
  where
    go : (x : Bool) → same_name a b ≡ x → same_name a b ≡ false
    go true e = absurd (n (same_name_true a b e))
    go false e = e

-- a name below all is not among them
pub not_above : (n : Name) (as' : List Listed) → AllByRecursion (λ m. name_cmp n m ≡ Less) (map (λ (a : Listed). a.name) as') → agent_among n as' ≡ None
not_above n [] h = refl
not_above n (a ∷ as') h = rw (apart n a.name (name_less_apart n a.name h.0)) (not_above n as' h.1)

-- there is an element at each place within a list
some_at : (xs : List Port) (i : ℕ) → i < length xs → is_some (slice_get xs i) ≡ true
some_at [] i h = absurd (omega arith)
some_at (x ∷ xs) i h = ap is_some (slice_get-get_or (x ∷ xs) i x h)

-- a list with an element at each place up to a number has one more than this number
length_by : (xs : List Port) (n : ℕ) → ((i : ℕ) → is_some (slice_get xs i) ≡ leb i n) → length xs ≡ n + 1
length_by xs n h = go (cases_lt n (length xs)) (cases_lt (n + 1) (length xs))
  where
    go : (n < length xs) ⊎ (length xs ≤ n) → (n + 1 < length xs) ⊎ (length xs ≤ n + 1) → length xs ≡ n + 1
    go (inr s) k =
        let none : is_some (slice_get xs n) ≡ false = ap is_some (slice_get_past xs n s) in
        let t : false ≡ true = sym none ∙ h n ∙ le-leb n n (omega arith) in
        cc
    go (inl l) (inl m) =
        let some : is_some (slice_get xs (n + 1)) ≡ true = some_at xs (n + 1) m in
        let t : true ≡ false = sym some ∙ h (n + 1) ∙ lt-leb (n + 1) n (omega arith) in
        cc
    go (inl l) (inr m) = omega arith

-- and the other way round
pub slots_by : (xs : List Port) (n : ℕ) → length xs ≡ n + 1 → (i : ℕ) → is_some (slice_get xs i) ≡ leb i n
slots_by xs n e i = go (cases_lt i (length xs))
  where
    go : (i < length xs) ⊎ (length xs ≤ i) → is_some (slice_get xs i) ≡ leb i n
    go (inl l) = some_at xs i l ∙ sym (le-leb i n (omega arith))
    go (inr s) = ap is_some (slice_get_past xs i s) ∙ sym (lt-leb i n (omega arith))

-- so a table in order is whole
pub whole_by : (as' : List Listed) → IsStrictlySortedBy name_cmp (map (λ (a : Listed). a.name) as')
    → ((x : Name) (i : ℕ) → is_some (partner_at i (agent_among x as')) ≡ has_port (option_map (λ (a : Listed). a.kind) (agent_among x as')) i)
    → All (λ (a : Listed). length a.partners ≡ arity a.kind + 1) as'
whole_by [] s h = All-nil (λ (a : Listed). length a.partners ≡ arity a.kind + 1)
whole_by (a ∷ as') s h =
    All-cons (λ (a : Listed). length a.partners ≡ arity a.kind + 1) a as'
    (length_by a.partners (arity a.kind) (λ i. let e = same_name_self a.name in rw e at (h a.name i)))
    (whole_by as' (sorted_tail name_cmp a.name (map (λ (b : Listed). b.name) as') s) (λ x i. behind (sorted_head name_cmp a.name (map (λ (b : Listed). b.name) as') s) x i (same_name x a.name) refl (h x i)))
  where
    behind : AllByRecursion (λ m. name_cmp a.name m ≡ Less) (map (λ (b : Listed). b.name) as') → (x : Name) (i : ℕ) (b : Bool) → same_name x a.name ≡ b
        → is_some (partner_at i (if same_name x a.name then Some a else agent_among x as')) ≡ has_port (option_map (λ (c : Listed). c.kind) (if same_name x a.name then Some a else agent_among x as')) i
        → is_some (partner_at i (agent_among x as')) ≡ has_port (option_map (λ (c : Listed). c.kind) (agent_among x as')) i
    behind below x i true e k = let none : agent_among x as' ≡ None = ap (λ n. agent_among n as') (same_name_true x a.name e) ∙ not_above a.name as' below in rw none refl
    behind below x i false e k = rw e at k
