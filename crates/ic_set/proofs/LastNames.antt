-- Agents that come in the order of their names: each comes behind all others.
use Rattle.std.proofs.Common.{◌≡◌, ℕ, ◌<◌, List, [], ◌∷◌, ◌++◌, length, map, take, drop, get_or, drop-cons, suc, sym, ap, subst, ◌∙◌, inl, inr}
use Rattle.std.proofs.lemmas.List.{map-append, take-append-drop}
use Rattle.std.specs.declared.cmp.Ordering.TheVariants.{Less}
use Rattle.ic_name.specs.Names.{Name, name_cmp}
use Rattle.ic_name.specs.declared.ids.AgentId.{AgentId}
use Rattle.ic_name.specs.declared.kinds.Kind.{Kind}
use Rattle.ic_path.specs.Orders.{IsIn}
use Rattle.ic_path.proofs.Alikes.{alike-in, alike_back}
use Rattle.ic_path.proofs.Picks.{none_in, in_first, in_more, in-cons_cases}
use Rattle.ic_path.proofs.InLists.{map_cases, in_behind}
use Rattle.ic_net.specs.Makings.{IsLastName}
use Rattle.ic_theory.specs.Listed.{NetAgent as Listed}
use Rattle.ic_roster.specs.declared.agent_records.PlacedAgent.{PlacedAgent}
use Rattle.ic_roster.specs.Rosters.{Member, AreRising, AreByName}
use Rattle.ic_set.specs.Reading.{IsLiving}
use Rattle.ic_set.specs.Sets.{IsStandingSet}
use Rattle.ic_set.specs.Views.{SetView}
use Rattle.ic_set.proofs.Namings.{same_member}

-- an id stands before another one among those of rising agents
pub record Before (ms : List Member) (a b : AgentId) : Type 0 where
  pub lesser : Member
  pub greater : Member
  pub lesser_in : IsIn lesser ms
  pub greater_in : IsIn greater ms
  pub lesser_id : lesser.id ≡ a
  pub greater_id : greater.id ≡ b
  pub less : name_cmp lesser.name greater.name ≡ Less

-- so it is with each in front of a place
rising_at : (ms : List Member) → AreRising ms → (ids : List AgentId) (id : AgentId) (rest : List AgentId) → map (λ (m : Member). m.id) ms ≡ ids ++ id ∷ rest → (a : AgentId) → IsIn a ids → Before ms a id
rising_at ms r [] id rest e a i = absurd (none_in i)
rising_at [] r (j ∷ ids) id rest e a i = absurd cc
rising_at (m ∷ ms) r (j ∷ ids) id rest e a i =
    let first : m.id ≡ j = cc in
    let others : map (λ (x : Member). x.id) ms ≡ ids ++ id ∷ rest = cc in
    elim (in-cons_cases i) [ inl s ↦ here (first ∙ sym s) others | inr k ↦ behind (rising_at ms r.1 ids id rest others a k) ]
  where
    here : m.id ≡ a → map (λ (x : Member). x.id) ms ≡ ids ++ id ∷ rest → Before (m ∷ ms) a id
    here first others =
        let g = map_cases (λ (x : Member). x.id) ms (subst (IsIn id) (sym others) (in_behind ids (in_first id rest))) in
        record { lesser = m; greater = g.0; lesser_in = in_first m ms; greater_in = in_more m g.1; lesser_id = first; greater_id = g.2; less = r.0 g.0 g.1 }

    behind : Before ms a id → Before (m ∷ ms) a id
    behind b = record { lesser = b.lesser; greater = b.greater; lesser_in = in_more m b.lesser_in; greater_in = in_more m b.greater_in; lesser_id = b.lesser_id; greater_id = b.greater_id; less = b.less }

-- a name is the last where each of the others is less
each_less : (n : Name) (as' : List Listed) → ((a : Listed) → IsIn a as' → name_cmp a.name n ≡ Less) → IsLastName n as'
each_less n [] h = tt
each_less n (a ∷ as') h = (h a (in_first a as'), each_less n as' (λ b i. h b (in_more a i)))

-- the agents that came are members with ids of these
abbrev pub ComeFrom : SetView → List AgentId → List Listed → Type 0
ComeFrom v ids as' = (a : Listed) → IsIn a as' → (m : Member) × IsIn m v.agents × IsIn m.id ids × (m.name ≡ a.name)

-- so the next one has the last name
pub last_name : (v : SetView) → IsStandingSet v → (ids : List AgentId) (id : AgentId) (rest : List AgentId) (as' : List Listed) → AreByName v.agents (ids ++ id ∷ rest) → ComeFrom v ids as'
    → (n : Name) (k : Kind) → IsLiving v id n k → IsLastName n as'
last_name v set ids id rest as' all come n k living = each_less n as' (λ a i. less a (come a i))
  where
    less : (a : Listed) → ((m : Member) × IsIn m v.agents × IsIn m.id ids × (m.name ≡ a.name)) → name_cmp a.name n ≡ Less
    less a (m, there, among, named) =
        let b = rising_at all.order all.rising ids id rest all.named m.id among in
        let back = alike_back all.alike in
        let x : b.lesser ≡ m = same_member v.agents b.lesser m set.own_names (alike-in back b.lesser_in) there (inl b.lesser_id) in
        let y : b.greater ≡ record { id = id; name = n; kind = k } = same_member v.agents b.greater (record { id = id; name = n; kind = k }) set.own_names (alike-in back b.greater_in) living.0 (inl b.greater_id) in
        sym (ap (λ (z : Member). name_cmp z.name n) x ∙ ap (λ z. name_cmp z n) named) ∙ sym (ap (λ (z : Member). name_cmp b.lesser.name z.name) y) ∙ b.less

-- the ids of agents
abbrev pub ids_of : List PlacedAgent → List AgentId
ids_of xs = map (λ x. x.id) xs

-- and so has the one at a place, behind those in front of it
pub last_at : (v : SetView) → IsStandingSet v → (xs all : List PlacedAgent) (i : ℕ) (d : PlacedAgent) (as' : List Listed) → xs ≡ all → AreByName v.agents (ids_of all) → i < length xs → ComeFrom v (ids_of (take i xs)) as'
    → (n : Name) (k : Kind) → IsLiving v (get_or xs i d).id n k → IsLastName n as'
last_at v set xs all i d as' same ordered within come =
    let cut : xs ≡ take i xs ++ get_or xs i d ∷ drop (suc i) xs = sym (take-append-drop i xs) ∙ ap (λ rest. take i xs ++ rest) (drop-cons xs i d within) in
    let split = ap ids_of cut ∙ map-append (λ (x : PlacedAgent). x.id) (take i xs) (get_or xs i d ∷ drop (suc i) xs) in
    last_name v set (ids_of (take i xs)) (get_or xs i d).id (ids_of (drop (suc i) xs)) as' (subst (AreByName v.agents) (ap ids_of (sym same) ∙ split) ordered) come
