-- The agents whose names are in a queue, among whom are the leads of the active pairs.
use Rattle.std.proofs.Common.{◌≡◌, List, [], ◌∷◌, ◌++◌, inl, inr, sym, ap, subst, ◌∙◌}
use Rattle.ic_name.specs.Names.{Name}
use Rattle.ic_name.specs.declared.ids.AgentId.{AgentId}
use Rattle.ic_path.proofs.ListEnds.{in_end, in_before, in-end_cases}
use Rattle.ic_path.specs.Orders.{IsIn}
use Rattle.ic_names.specs.Tables.{name_at}
use Rattle.ic_names.specs.declared.queue.Lead.{Lead}
use Rattle.ic_names.specs.Queues.{place_of}
use Rattle.ic_roster.specs.Rosters.{Member, HaveOwnNames, IsNewName}
use Rattle.ic_path.proofs.InLists.{map_cases}
use Rattle.ic_set.specs.declared.pairs.ActivePair.{ActivePair}
use Rattle.ic_set.specs.Pairs.{IsActivePair}
use Rattle.ic_set.specs.Queues.{HasLeads}
use Rattle.ic_set.specs.Views.{NamedView}
use Rattle.ic_set.proofs.Namings.{same_member}

-- each agent whose name one of the leads has is in the list
abbrev pub HasNamed : List Name → List Member → List Lead → List AgentId → Type 0
HasNamed ns ms leads ids = (m : Member) (l : Lead) → IsIn m ms → IsIn l leads → m.name ≡ name_at ns (place_of l) → IsIn m.id ids

-- so it is with one lead more that has no agent's name
pub named_passes : (ns : List Name) (ms : List Member) (leads : List Lead) (ids : List AgentId) (l : Lead) → IsNewName ms (name_at ns (place_of l)) → HasNamed ns ms leads ids → HasNamed ns ms (leads ++ l ∷ []) ids
named_passes ns ms leads ids l none has m k there i named = elim (in-end_cases i) [
  | inl same ↦ absurd (none m there (named ∙ ap (λ x. name_at ns (place_of x)) same))
  | inr j ↦ has m k there j named
]

-- and with one that has, where the agent comes into the list
pub named_more : (ns : List Name) (ms : List Member) (leads : List Lead) (ids : List AgentId) (l : Lead) (n : Member) → HaveOwnNames ms → IsIn n ms → n.name ≡ name_at ns (place_of l) → HasNamed ns ms leads ids → HasNamed ns ms (leads ++ l ∷ []) (ids ++ n.id ∷ [])
named_more ns ms leads ids l n own present own_name has m k there i named = elim (in-end_cases i) [
  | inl same ↦ (
      let one = same_member ms n m own present there (inr (own_name ∙ sym (named ∙ ap (λ x. name_at ns (place_of x)) same))) in
      subst (λ (x : Member). IsIn x.id (ids ++ n.id ∷ [])) one (in_end n.id ids))
  | inr j ↦ in_before n.id (has m k there j named)
]

-- among the agents of a queue's names are the leads of the pairs
pub leads_named : (v : NamedView) (leads : List Lead) (ids : List AgentId) → HasLeads v leads → HasNamed v.names v.set.agents leads ids → (p : ActivePair) → IsActivePair v.set p → IsIn p.lead ids
leads_named v leads ids all has p active =
    let queued = all active.0 p active.1 in
    let l = map_cases place_of leads queued.2 in
    has _ l.0 active.1.lead l.1 (sym queued.1.named ∙ ap (name_at v.names) (sym l.2))
