-- The leads in a queue, and what its front tells.
use Rattle.std.proofs.Common.{◌≡◌, ℕ, ◌<◌, List, [], ◌∷◌, length, ◌⊎◌, inl, inr, Option, Some, None, IfSome, IfNone, sym, ap, subst, ◌∙◌}
use Rattle.ic_name.specs.Names.{Name}
use Rattle.ic_name.specs.Events.{Event}
use Rattle.ic_name.specs.declared.ids.AgentId.{AgentId}
use Rattle.ic_name.specs.declared.kinds.Kind.{Kind}
use Rattle.ic_names.specs.Tables.{name_at, IsTable}
use Rattle.ic_names.specs.declared.table.NameId.{NameId}
use Rattle.ic_path.specs.Orders.{IsIn, Alike}
use Rattle.ic_path.proofs.Alikes.{alike-in}
use Rattle.ic_path.proofs.Picks.{none_in, in-cons_cases}
use Rattle.ic_theory.specs.Active.{IsActive}
use Rattle.ic_names.specs.declared.queue.Lead.{Lead}
use Rattle.ic_names.specs.Queues.{places, AreNamed, IsLeast}
use Rattle.ic_names.proofs.Heaps.{one_least}
use Rattle.ic_roster.specs.Rosters.{Member}
use Rattle.ic_set.specs.declared.pairs.ActivePair.{ActivePair}
use Rattle.ic_set.specs.Pairs.{IsPairOf}
use Rattle.ic_set.specs.Queues.{Leads, IsQueued, HasLeads}
use Rattle.ic_set.specs.Sets.{IsStandingSet}
use Rattle.ic_set.specs.Views.{NamedView, standing}
use Rattle.ic_set.proofs.ActivePairs.{one_id, one_pair, pair_of}
use Rattle.ic_set.proofs.LedPairs.{second_leads_none}

-- an agent of a pair
abbrev pub IsOf : ActivePair → AgentId → Type 0
IsOf p a = (p.lead ≡ a) ⊎ (p.other ≡ a)

module _ (v : NamedView) (set : IsStandingSet v.set) where
  -- where an agent of a pair leads one, it leads that pair
  led_pair : (e f : Event) (p q : ActivePair) → IsPairOf v.set e p → IsPairOf v.set f q → IsOf p q.lead → (e ≡ f) × (p ≡ q)
  led_pair e f p q h k (inl same) = one_pair v.set set e f p q h k same
  led_pair e f p q h k (inr same) = absurd (second_leads_none v.set set e f p q h k same)

  -- an agent that leads a pair is the lead of each pair that it is of
  pub leads_own : (e f : Event) (p q : ActivePair) → IsPairOf v.set e p → IsPairOf v.set f q → (id : AgentId) → IsOf p id → q.lead ≡ id → p.lead ≡ id
  leads_own e f p q h k id of_pair own = ap (λ (r : ActivePair). r.lead) (led_pair e f p q h k (subst (IsOf p) (sym own) of_pair)).1 ∙ own

  -- with its place in a queue the lead is in it
  pub lead_queued : (leads : List Lead) (id : AgentId) (n : ℕ) (kind : Kind) → IsIn (record { id = id; name = name_at v.names n; kind = kind }) v.set.agents → n < length v.names → IsIn n (places leads)
      → (e : Event) (p : ActivePair) → IsPairOf v.set e p → p.lead ≡ id → IsQueued v.names leads e.lead
  lead_queued leads id n kind there inside queued e p h same = (n, record { within = inside; named = sym (ap (λ (m : Member). m.name) (one_id v.set set _ _ h.lead there same)) }, queued)

  -- without leads no pair is active
  pub none_led : (leads : List Lead) → leads ≡ [] → HasLeads v leads → (e : Event) → IsActive v.set.start (standing v.set) e → ⊥
  none_led leads empty all e a =
      let q = pair_of v.set set e a in
      let queued = all e q.0 q.1 in
      none_in (subst (λ ls. IsIn queued.0 (places ls)) empty queued.2)

-- with more places in a queue, what was in it is
pub still_queued : (ns : List Name) (leads leads' : List Lead) → ((n : ℕ) → IsIn n (places leads) → IsIn n (places leads')) → (name : Name) → IsQueued ns leads name → IsQueued ns leads' name
still_queued ns leads leads' stay name q = (q.0, q.1, stay q.0 q.2)

-- a place that goes and leads no pair is no lead's
pub others_lead : (v : NamedView) (leads leads' : List Lead) (n : ℕ) → HasLeads v leads → (Leads v n → ⊥) → Alike (places leads) (n ∷ places leads') → HasLeads v leads'
others_lead v leads leads' n all stale taken e p h =
    let q = all e p h in
    elim (in-cons_cases (alike-in taken q.2)) [
      | inl same ↦ absurd (stale (e, p, h, sym q.1.named ∙ ap (name_at v.names) same))
      | inr there ↦ (q.0, q.1, there)
    ]

-- a queue that isn't empty hands out the place at its front
pub takes_front : (ns : List Name) (leads leads' : List Lead) (n : ℕ) (o : Option NameId) → IsTable ns → AreNamed ns leads → IsLeast ns leads n
    → IfSome o (λ m. IsLeast ns leads m.place) → IfSome o (λ m. Alike (places leads) (m.place ∷ places leads')) → IfNone o (leads ≡ []) → Alike (places leads) (n ∷ places leads')
takes_front ns leads leads' n None table named front least others none = absurd (none_in (subst (λ ls. IsIn n (places ls)) none front.present))
takes_front ns leads leads' n (Some m) table named front least others none = subst (λ k. Alike (places leads) (k ∷ places leads')) (one_least ns leads m.place n table named least front) others
