-- The agents of a listed net, found by their names and by their ports.
use Rattle.std.proofs.Common.{◌≡◌, ℕ, zero, suc, ◌+◌, ◌≤◌, Bool, true, false, List, [], ◌∷◌, length, map, ◌⊎◌, inl, inr, refl, sym, ap, subst, ◌∙◌, arith, Option, Some, None}
use Rattle.std.specs.Prelude.{All, if◌then◌else◌}
use Rattle.std.specs.declared.cmp.Ordering.TheVariants.{Less}
use Rattle.std.specs.List.Sorted.{IsStrictlySortedBy}
use Rattle.std.proofs.lemmas.Bool.{false_from_ne_true}
use Rattle.std.proofs.lemmas.Map.Keys.{sorted_tail}
use Rattle.std.proofs.lemmas.Map.Views.{All-after_first}
use Rattle.std.proofs.lemmas.Option.{get_or_from_slice_get, slice_get_within, slice_get-get_or}
use Rattle.ic_name.specs.Names.{Name, name_cmp}
use Rattle.ic_name.specs.Kinds.{arity}
use Rattle.ic_name.specs.Same.{same_name}
use Rattle.ic_name.specs.declared.kinds.Kind.{Kind}
use Rattle.ic_name.specs.declared.kinds.Kind.TheVariants.{Gamma, Delta, Eps}
use Rattle.ic_name.specs.declared.ports.Port.{Port}
use Rattle.ic_name.specs.declared.ports.Port.TheVariants.{Of}
use Rattle.ic_name.proofs.NameOrder.{name_less_apart}
use Rattle.ic_name.proofs.SameFacts.{same_name_true, same_name_self}
use Rattle.ic_theory.specs.Orders.{Pick, here, there, IsIn}
use Rattle.ic_theory.proofs.Picks.{pick-map, in_first, in_more, in-cons_cases, none_in}
use Rattle.ic_theory.specs.Listed.{NetAgent, ListedNet, IsListing, agent_among, partner_at, shown}
use Rattle.ic_text.specs.NetText.{shown_ports, partner_of}
use Rattle.ic_text.proofs.Elements.{all-in}

-- an agent that is found under a name has the name, and is in the list
pub found_name : (n : Name) (as' : List NetAgent) {a : NetAgent} → agent_among n as' ≡ Some a → (a.name ≡ n) × IsIn a as'
found_name n [] h = cc
found_name n (b ∷ bs) {a} h = go (same_name n b.name) refl h (λ k. found_name n bs k)
  where
    go : (t : Bool) → same_name n b.name ≡ t → (if t then Some b else agent_among n bs) ≡ Some a → (agent_among n bs ≡ Some a → (a.name ≡ n) × IsIn a bs) → (a.name ≡ n) × IsIn a (b ∷ bs)
    go true e k ih = let s : b ≡ a = cc in (ap (λ (z : NetAgent). z.name) (sym s) ∙ sym (same_name_true n b.name e), subst (λ z. IsIn z (b ∷ bs)) s (in_first b bs))
    go false e k ih = let r = ih k in (r.0, in_more b r.1)

-- the agents behind one have greater names
pub later_less : (b a : NetAgent) (bs : List NetAgent) → IsStrictlySortedBy name_cmp (map (λ a. a.name) (b ∷ bs)) → IsIn a bs → name_cmp b.name a.name ≡ Less
later_less b a bs s i =
    let others : List Name = map (λ (c : NetAgent). c.name) bs in
    let below : All (λ q. name_cmp b.name q ≡ Less) others = All-after_first name_cmp b.name others s in
    all-in (λ q. name_cmp b.name q ≡ Less) below (_, pick-map (λ (c : NetAgent). c.name) i.1)

-- so they have others
pub later_name : (b a : NetAgent) (bs : List NetAgent) → IsStrictlySortedBy name_cmp (map (λ a. a.name) (b ∷ bs)) → IsIn a bs → same_name a.name b.name ≡ false
later_name b a bs s i = false_from_ne_true _ (λ t. name_less_apart b.name a.name (later_less b a bs s i) (sym (same_name_true a.name b.name t)))

-- those are in order, too
pub later_sorted : (b : NetAgent) (bs : List NetAgent) → IsStrictlySortedBy name_cmp (map (λ a. a.name) (b ∷ bs)) → IsStrictlySortedBy name_cmp (map (λ a. a.name) bs)
later_sorted b bs s = sorted_tail name_cmp b.name (map (λ (c : NetAgent). c.name) bs) s

-- each agent of the list is found under its name
pub found_agent : (a : NetAgent) {as' rest : List NetAgent} → IsStrictlySortedBy name_cmp (map (λ a. a.name) as') → Pick a as' rest → agent_among a.name as' ≡ Some a
found_agent a s here = rw (same_name_self a.name) refl
found_agent a s (there {y = y} {xs = xs} k) = rw (later_name y a xs s (_, k)) (found_agent a (later_sorted y xs s) k)

-- the agent that has a port, as the list has it
pub record Owner (l : ListedNet) (n : Name) (i : ℕ) (q : Port) : Type 0 where
  pub agent : NetAgent
  pub found : agent_among n l.agents ≡ Some agent
  pub listed : IsIn agent l.agents
  pub name : agent.name ≡ n
  pub within : i ≤ arity agent.kind
  pub partner : partner_of agent i ≡ q

-- a port of an agent with a partner has its agent in the list
pub owner_of : (l : ListedNet) → IsListing l → (n : Name) (i : ℕ) (q : Port) → (shown l).partner (Of n i) ≡ Some q → Owner l n i q
owner_of l h n i q e = go (agent_among n l.agents) refl e
  where
    go : (o : Option NetAgent) → agent_among n l.agents ≡ o → partner_at i o ≡ Some q → Owner l n i q
    go None f k = cc
    go (Some a) f k =
        let r = found_name n l.agents f in
        let long : length a.partners ≡ arity a.kind + 1 = all-in (λ (b : NetAgent). length b.partners ≡ arity b.kind + 1) h.whole r.1 in
        let short = slice_get_within a.partners i q k in
        record { agent = a; found = f; listed = r.1; name = r.0; within = omega (arith, long, short); partner = get_or_from_slice_get a.partners i q (Of a.name i) k }

-- the line of a gamma or delta shows three ports
three_ports : (i : ℕ) → i ≤ 2 → IsIn i (1 ∷ 2 ∷ 0 ∷ [])
three_ports zero h = (_, there (there here))
three_ports (suc zero) h = (_, here)
three_ports (suc (suc zero)) h = (_, there here)
three_ports (suc (suc (suc i))) h = absurd (omega (arith, h))

-- and no more
three_within : (i : ℕ) → IsIn i (1 ∷ 2 ∷ 0 ∷ []) → i ≤ 2
three_within i h = first (in-cons_cases h)
  where
    third : (i ≡ 0) ⊎ IsIn i [] → i ≤ 2
    third (inl e) = omega arith
    third (inr j) = absurd (none_in j)

    second : (i ≡ 2) ⊎ IsIn i (0 ∷ []) → i ≤ 2
    second (inl e) = omega arith
    second (inr j) = third (in-cons_cases j)

    first : (i ≡ 1) ⊎ IsIn i (2 ∷ 0 ∷ []) → i ≤ 2
    first (inl e) = omega arith
    first (inr j) = second (in-cons_cases j)

-- an agent's line shows each of its ports
pub shown_port : (k : Kind) (i : ℕ) → i ≤ arity k → IsIn i (shown_ports k)
shown_port Gamma i h = three_ports i h
shown_port Delta i h = three_ports i h
shown_port Eps zero h = (_, here)
shown_port Eps (suc i) h = absurd (omega (arith, h))

-- and no more
pub shown_within : (k : Kind) (i : ℕ) → IsIn i (shown_ports k) → i ≤ arity k
shown_within Gamma i h = three_within i h
shown_within Delta i h = three_within i h
shown_within Eps i h = go (in-cons_cases h)
  where
    go : (i ≡ 0) ⊎ IsIn i [] → i ≤ 0
    go (inl e) = omega arith
    go (inr j) = absurd (none_in j)

-- each port of an agent of the list has a partner
pub listed_port : (l : ListedNet) → IsListing l → (a : NetAgent) (i : ℕ) → IsIn a l.agents → i ≤ arity a.kind → (shown l).partner (Of a.name i) ≡ Some (partner_of a i)
listed_port l h a i k le =
    let long : length a.partners ≡ arity a.kind + 1 = all-in (λ (b : NetAgent). length b.partners ≡ arity b.kind + 1) h.whole k in
    ap (partner_at i) (found_agent a h.in_order k.1) ∙ slice_get-get_or a.partners i (Of a.name i) (omega (arith, long, le))
