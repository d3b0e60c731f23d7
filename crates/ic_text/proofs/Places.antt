-- The places of agents that are in order of names.
use Rattle.std.proofs.Common.{◌≡◌, ℕ, zero, suc, ◌+◌, ◌<◌, Bool, true, false, List, [], ◌∷◌, map, get_or, refl, sym, ap, subst, ◌∙◌, arith, Some}
use Rattle.std.specs.Prelude.{if◌then◌else◌, slice_get}
use Rattle.std.specs.declared.cmp.Ordering.TheVariants.{Less}
use Rattle.std.specs.Option.{option_map}
use Rattle.std.specs.List.Sorted.{IsStrictlySortedBy}
use Rattle.std.proofs.lemmas.Bool.{false_from_ne_true}
use Rattle.std.proofs.lemmas.Map.Keys.{sorted_tail, Less-from_sorted}
use Rattle.std.proofs.lemmas.Option.{get_or_from_slice_get, slice_get_within, slice_get-map}
use Rattle.ic_name.specs.Names.{Name, name_cmp}
use Rattle.ic_name.specs.Same.{same_name}
use Rattle.ic_name.proofs.NameOrder.{name_less_apart}
use Rattle.ic_name.proofs.SameFacts.{same_name_true, same_name_self}
use Rattle.ic_theory.specs.Listed.{NetAgent, agent_among}

-- the names
abbrev pub names_of : List NetAgent → List Name
names_of as' = map (λ a. a.name) as'

-- an agent at an earlier place has a lesser name
pub less_at : (as' : List NetAgent) (k l : ℕ) (a b : NetAgent) → IsStrictlySortedBy name_cmp (names_of as') → slice_get as' k ≡ Some a → slice_get as' l ≡ Some b → k < l → name_cmp a.name b.name ≡ Less
less_at as' k l a b s at_k at_l lt =
    let name = λ (c : NetAgent). c.name in
    let there_k : slice_get (names_of as') k ≡ Some a.name = slice_get-map name as' k ∙ ap (option_map name) at_k in
    let there_l : slice_get (names_of as') l ≡ Some b.name = slice_get-map name as' l ∙ ap (option_map name) at_l in
    let first : get_or (names_of as') k a.name ≡ a.name = get_or_from_slice_get (names_of as') k a.name a.name there_k in
    let second : get_or (names_of as') l a.name ≡ b.name = get_or_from_slice_get (names_of as') l b.name a.name there_l in
    let less = Less-from_sorted name_cmp (names_of as') k l a.name s lt (slice_get_within (names_of as') l b.name there_l) in
    subst (λ n. name_cmp a.name n ≡ Less) second (subst (λ n. name_cmp n (get_or (names_of as') l a.name) ≡ Less) first less)

-- agents with one name are at one place
pub one_place : (as' : List NetAgent) (k l : ℕ) (a b : NetAgent) → IsStrictlySortedBy name_cmp (names_of as') → slice_get as' k ≡ Some a → slice_get as' l ≡ Some b → a.name ≡ b.name → k ≡ l
one_place as' k l a b s at_k at_l same =
    let before : k < l → ⊥ = λ lt. name_less_apart a.name b.name (less_at as' k l a b s at_k at_l lt) same in
    let behind : l < k → ⊥ = λ lt. name_less_apart b.name a.name (less_at as' l k b a s at_l at_k lt) (sym same) in
    grind (arith, before, behind)

-- the agent at a place is found under its name
pub found_at : (as' : List NetAgent) (k : ℕ) (a : NetAgent) → IsStrictlySortedBy name_cmp (names_of as') → slice_get as' k ≡ Some a → agent_among a.name as' ≡ Some a
found_at [] k a s h = cc
found_at (b ∷ bs) zero a s h =
    let e : b ≡ a = cc in
    let same : same_name a.name b.name ≡ true = ap (λ (c : NetAgent). same_name a.name c.name) e ∙ same_name_self a.name in
    rw same (ap Some e)
found_at (b ∷ bs) (suc k) a s h =
    let less : name_cmp b.name a.name ≡ Less = less_at (b ∷ bs) 0 (suc k) b a s refl h (omega arith) in
    let other : same_name a.name b.name ≡ false = false_from_ne_true _ (λ t. name_less_apart b.name a.name less (sym (same_name_true a.name b.name t))) in
    rw other (found_at bs k a (sorted_tail name_cmp b.name (names_of bs) s) h)

-- the place of an agent that is found under a name
pub place_found : (n : Name) (as' : List NetAgent) (a : NetAgent) → agent_among n as' ≡ Some a → (k : ℕ) × (slice_get as' k ≡ Some a) × (a.name ≡ n)
place_found n [] a h = cc
place_found n (b ∷ bs) a h = go (same_name n b.name) refl h (place_found n bs a)
  where
    go : (t : Bool) → same_name n b.name ≡ t → (if t then Some b else agent_among n bs) ≡ Some a → (agent_among n bs ≡ Some a → (k : ℕ) × (slice_get bs k ≡ Some a) × (a.name ≡ n)) → (k : ℕ) × (slice_get (b ∷ bs) k ≡ Some a) × (a.name ≡ n)
    go true e h ih = let s : b ≡ a = cc in (0, h, ap (λ (c : NetAgent). c.name) (sym s) ∙ sym (same_name_true n b.name e))
    go false e h ih = let r = ih h in (r.0 + 1, subst (λ m. slice_get (b ∷ bs) m ≡ Some a) {x = suc r.0} (omega arith) r.1, r.2)
