-- Agents that were sorted by the names at their places are in order of their names.
use Rattle.std.proofs.Common.{◌≡◌, ◌≢◌, ◌<◌, length, Bool, false, List, [], ◌∷◌, map, refl, sym, ap, ◌∙◌}
use Rattle.std.specs.Cmp.{IsStrictWeakOrder}
use Rattle.std.specs.List.Sorted.{IsPermutation, IsSortedBy}
use Rattle.std.specs.Ordering.{is_lt, ordering_reverse}
use Rattle.std.specs.declared.cmp.Ordering.{Ordering}
use Rattle.std.specs.declared.cmp.Ordering.TheVariants.{Less, Equal, Greater}
use Rattle.std.proofs.lemmas.List.Sorted.{ranks_by, Contains-permutation, length_permutation}
use Rattle.ic_path.specs.Orders.{Pick, here, there, Alike, IsIn}
use Rattle.ic_path.proofs.Picks.{in_more, in-contains, contains-in, pick-map}
use Rattle.ic_path.proofs.Alikes.{alike_back, alike_pick, alike-in, alike-map}
use Rattle.ic_path.proofs.Sorts.{Ascends}
use Rattle.ic_name.specs.Names.{Name, name_cmp}
use Rattle.ic_name.specs.declared.ids.AgentId.{AgentId}
use Rattle.ic_name.proofs.NameOrder.{name_cmp_total, name_tied}
use Rattle.ic_names.specs.Tables.{name_at}
use Rattle.ic_roster.specs.declared.agent_records.PlacedAgent.{PlacedAgent}
use Rattle.ic_roster.specs.Rosters.{Member, RosterView, HaveOwnNames, AreRising, AreByName}
use Rattle.ic_roster.specs.Placed.{member_in, IsAgentOf}
use Rattle.ic_roster.proofs.Images.{each_image}
use Rattle.ic_path.proofs.InLists.{in-map}
use Rattle.ic_path.proofs.StrictOrders.{sorted_ascends}
use Rattle.ic_path.proofs.OnceLists.{alike_by_length}

-- what agents are sorted by
abbrev pub is_before : List Name → PlacedAgent → PlacedAgent → Bool
is_before ns x y = is_lt (name_cmp (name_at ns x.name.place) (name_at ns y.name.place))

-- it is an order
pub before_orders : (ns : List Name) → IsStrictWeakOrder (is_before ns)
before_orders ns = ranks_by name_cmp_total (λ (x : PlacedAgent). name_at ns x.name.place)

-- each agent has a name of its own
abbrev AreApart : List Name → List PlacedAgent → Type 0
AreApart ns xs = (x y : PlacedAgent) (rest : List PlacedAgent) → Pick x xs rest → IsIn y rest → name_at ns y.name.place ≢ name_at ns x.name.place

-- as agents have that have names of their own
apart : (ns : List Name) (xs : List PlacedAgent) → HaveOwnNames (map (member_in ns) xs) → AreApart ns xs
apart ns xs own x y rest k i = own.names (member_in ns x) (member_in ns y) (map (member_in ns) rest) (pick-map (member_in ns) k) (in-map (member_in ns) i)

-- where the second of two agents is not before the first, and has another name, it comes after it
comes_after : (ns : List Name) (x y : PlacedAgent) → is_before ns y x ≡ false → name_at ns y.name.place ≢ name_at ns x.name.place
    → name_cmp (name_at ns x.name.place) (name_at ns y.name.place) ≡ Less
comes_after ns x y later other = by (name_cmp n m) refl
  where
    m : Name
    m = name_at ns x.name.place

    n : Name
    n = name_at ns y.name.place

    by : (o : Ordering) → name_cmp n m ≡ o → name_cmp m n ≡ Less
    by Less e = let c = ap is_lt e in absurd cc
    by Equal e = absurd (other (name_tied n m e))
    by Greater e = name_cmp_total.antisymm m n ∙ ap ordering_reverse e

-- agents that ascend are in order of their names
rising : (ns : List Name) (xs : List PlacedAgent) → AreApart ns xs → Ascends (is_before ns) xs → AreRising (map (member_in ns) xs)
rising ns [] apart up = tt
rising ns (x ∷ xs) apart up = (
  each_image (member_in ns) xs (λ k. name_cmp (name_at ns x.name.place) k.name ≡ Less) (λ y i. comes_after ns x y (up.0 y i) (apart x y xs here i)),
  rising ns xs (λ y z rest k i. apart y z (x ∷ rest) (there k) (in_more x i)) up.1,
)

-- the ids of the agents with their names
member_ids : (ns : List Name) (xs : List PlacedAgent) → map (λ (m : Member). m.id) (map (member_in ns) xs) ≡ map (λ (x : PlacedAgent). x.id) xs
member_ids ns [] = refl
member_ids ns (x ∷ xs) = ap (λ (ds : List AgentId). x.id ∷ ds) (member_ids ns xs)

-- agents that were sorted are the same agents
pub same_agents : (ns : List Name) (xs ys : List PlacedAgent) → HaveOwnNames (map (member_in ns) xs) → IsPermutation xs ys → Alike xs ys
same_agents ns xs ys own moved = alike_by_length xs ys (λ x rest k i. apart ns xs own x x rest k i refl) (λ x i. contains-in x ys (Contains-permutation xs ys x moved (in-contains i))) (sym (length_permutation xs ys moved))

-- and in order of their names
pub by_name : (ns : List Name) (xs ys : List PlacedAgent) → HaveOwnNames (map (member_in ns) xs) → IsPermutation xs ys → IsSortedBy (is_before ns) ys
    → AreByName (map (member_in ns) xs) (map (λ (x : PlacedAgent). x.id) ys)
by_name ns xs ys own moved up = record {
  order = map (member_in ns) ys;
  alike = alike-map (member_in ns) same;
  rising = rising ns ys (λ x y rest k i. (let p = alike_pick (alike_back same) k in apart ns xs own x y p.0 p.1 (alike-in p.2 i))) (sorted_ascends (is_before ns) (before_orders ns) ys up);
  named = member_ids ns ys;
}
  where
    same : Alike xs ys
    same = same_agents ns xs ys own moved

-- and each of them is one of the roster
pub sorted_told : (r : RosterView) (ns : List Name) (xs ys : List PlacedAgent) → HaveOwnNames (map (member_in ns) xs) → IsPermutation xs ys → r.names ≡ ns → r.agents ≡ map (member_in ns) xs
    → ((x : PlacedAgent) → IsIn x xs → x.name.place < length ns) → (a : PlacedAgent) → IsIn a ys → IsAgentOf r a
sorted_told r ns xs ys own moved names agents inside a i =
    let there : IsIn a xs = alike-in (alike_back (same_agents ns xs ys own moved)) i in
    rw (names, agents) (in-map (member_in ns) there, inside a there)
