-- A net is listed in one way.
use Rattle.std.proofs.Common.{◌≡◌, ℕ, suc, Bool, true, false, List, [], ◌∷◌, map, refl, sym, ap, ◌∙◌, Option, Some, None}
use Rattle.std.proofs.lemmas.Cmp.{nat_cmp_total}
use Rattle.std.proofs.lemmas.Map.Lookups.{exact_unsigned}
use Rattle.std.specs.BTreeMap.{is_at}
use Rattle.std.specs.Map.{keys_of, lookup}
use Rattle.std.specs.Ordering.{nat_cmp, is_eq}
use Rattle.std.specs.Prelude.{if◌then◌else◌, option_map, slice_get}
use Rattle.ic_name.specs.Names.{Name, name_cmp}
use Rattle.ic_name.specs.Same.{same_name}
use Rattle.ic_name.proofs.SameFacts.{same_name_true}
use Rattle.ic_name.proofs.NameOrder.{name_cmp_total, name_tied}
use Rattle.ic_name.specs.declared.ports.Port.TheVariants as ports
use Rattle.ic_theory.specs.Nets.{IsSameNet}
use Rattle.ic_theory.specs.Listed.{NetAgent as Listed, ListedNet, IsListing, agent_among, partner_at, shown}
use Rattle.ic_net.proofs.SortedTables.{same_tables}
use Rattle.ic_net.proofs.Lookups.{same_by_cmp, found_free}

-- each agent by its name
abbrev by_name : List Listed → List (Name × Listed)
by_name as' = map (λ (a : Listed). (a.name, a)) as'

named_keys : (as' : List Listed) → keys_of (by_name as') ≡ map (λ (a : Listed). a.name) as'
named_keys [] = refl
named_keys (a ∷ as') = ap (λ ns. a.name ∷ ns) (named_keys as')

named_values : (as' : List Listed) → map (λ (x : Name × Listed). x.1) (by_name as') ≡ as'
named_values [] = refl
named_values (a ∷ as') = ap (λ xs. a ∷ xs) (named_values as')

-- an agent is found by its name
found_agent : (n : Name) (as' : List Listed) → lookup (is_at (name_cmp n)) (by_name as') ≡ agent_among n as'
found_agent n [] = refl
found_agent n (a ∷ as') = go (same_name n a.name) (same_by_cmp n a.name) (found_agent n as')
  where
    go : (b : Bool) → is_eq (name_cmp n a.name) ≡ b → lookup (is_at (name_cmp n)) (by_name as') ≡ agent_among n as' → lookup (is_at (name_cmp n)) (by_name (a ∷ as')) ≡ (if b then Some a else agent_among n as')
    go true h ih = rw h refl
    go false h ih = rw h ih

-- and has this name
found_name : (n : Name) (as' : List Listed) (a : Listed) → agent_among n as' ≡ Some a → n ≡ a.name
found_name n [] a h = cc
found_name n (x ∷ as') a h = go (same_name n x.name) refl h (found_name n as' a)
  where
    go : (b : Bool) → same_name n x.name ≡ b → (if b then Some x else agent_among n as') ≡ Some a → (agent_among n as' ≡ Some a → n ≡ a.name) → n ≡ a.name
    go true e h ih = let s = same_name_true n x.name e in let t : x ≡ a = cc in s ∙ ap (λ (y : Listed). y.name) t
    go false e h ih = ih h

-- lists with the same element at each place are one
same_places : {X : Type 0} (xs ys : List X) → ((i : ℕ) → slice_get xs i ≡ slice_get ys i) → xs ≡ ys
same_places [] [] h = refl
same_places [] (y ∷ ys) h = let e = h 0 in cc
same_places (x ∷ xs) [] h = let e = h 0 in cc
same_places (x ∷ xs) (y ∷ ys) h =
    let e : Some x ≡ Some y = h 0 in
    let first : x ≡ y = cc in
    let rest = same_places xs ys (λ i. h (suc i)) in
    λ i. first i ∷ rest i

-- what is found has its kind and its partners, so these tell it
same_found : (n : Name) (x y : Option Listed) → ((a : Listed) → x ≡ Some a → n ≡ a.name) → ((a : Listed) → y ≡ Some a → n ≡ a.name)
    → option_map (λ (a : Listed). a.kind) x ≡ option_map (λ (a : Listed). a.kind) y → ((i : ℕ) → partner_at i x ≡ partner_at i y) → x ≡ y
same_found n None None f g k p = refl
same_found n None (Some b) f g k p = cc
same_found n (Some a) None f g k p = cc
same_found n (Some a) (Some b) f g k p =
    let name : a.name ≡ b.name = sym (f a refl) ∙ g b refl in
    let kind : a.kind ≡ b.kind = cc in
    let partners : a.partners ≡ b.partners = same_places a.partners b.partners p in
    λ i. Some (record { name = name i; kind = kind i; partners = partners i })

-- two listings of the same net are one
pub one_listing : (l m : ListedNet) → IsListing l → IsListing m → IsSameNet (shown l) (shown m) → l ≡ m
one_listing l m h g e =
    let found : (n : Name) → lookup (is_at (name_cmp n)) (by_name l.agents) ≡ lookup (is_at (name_cmp n)) (by_name m.agents) =
    λ n. found_agent n l.agents
    ∙ same_found n (agent_among n l.agents) (agent_among n m.agents) (found_name n l.agents) (found_name n m.agents) (e.kinds n) (λ i. e.partners (ports.Of n i))
    ∙ sym (found_agent n m.agents) in
    let entries = same_tables name_cmp_total name_tied (by_name l.agents) (by_name m.agents) (rw (named_keys l.agents) h.in_order) (rw (named_keys m.agents) g.in_order) found in
    let agents : l.agents ≡ m.agents = sym (named_values l.agents) ∙ ap (map (λ (x : Name × Listed). x.1)) entries ∙ named_values m.agents in
    let free : (j : ℕ) → lookup (is_at (nat_cmp j)) l.frees ≡ lookup (is_at (nat_cmp j)) m.frees = λ j. sym (found_free j l.frees) ∙ e.partners (ports.Name j) ∙ found_free j m.frees in
    let frees : l.frees ≡ m.frees = same_tables nat_cmp_total exact_unsigned l.frees m.frees h.numbered g.numbered free in
    λ i. record { agents = agents i; frees = frees i; rings = e.rings i; profile = e.profile i }

-- and one listing shows one net
pub same_shown : (l m : ListedNet) → l ≡ m → IsSameNet (shown l) (shown m)
same_shown l m e = record {
  kinds = λ n. ap (λ x. (shown x).kind n) e;
  partners = λ p. ap (λ x. (shown x).partner p) e;
  rings = ap (λ x. x.rings) e;
  profile = ap (λ x. x.profile) e;
}
