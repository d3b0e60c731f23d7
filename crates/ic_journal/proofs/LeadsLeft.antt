-- The leads of a queue but those that lead a standing event.
use Rattle.std.proofs.Common.{◌≡◌, ◌≢◌, ℕ, ◌+◌, ◌<◌, List, length, take, ◌⊎◌, inl, inr, sym, ap, subst, ◌∙◌}
use Rattle.ic_name.specs.Events.{Event}
use Rattle.ic_names.specs.Tables.{name_at}
use Rattle.ic_path.specs.Orders.{IsIn}
use Rattle.ic_names.specs.declared.queue.Lead.{Lead}
use Rattle.ic_names.specs.Queues.{place_of, places, lead_at}
use Rattle.ic_roster.specs.Rosters.{Stander}
use Rattle.ic_path.proofs.InLists.{in-map, map_cases}
use Rattle.ic_set.specs.declared.pairs.ActivePair.{ActivePair}
use Rattle.ic_set.specs.Pairs.{IsPairOf}
use Rattle.ic_set.specs.Queues.{IsQueued}
use Rattle.ic_set.specs.Views.{NamedView, standing}
use Rattle.ic_set.proofs.Unled.{unconsumed_unled}
use Rattle.ic_journal.proofs.TakenElements.{in_taken}

-- a name among one lead more was among those before, or is that of the lead
pub one_more_queued : (v : NamedView) (leads : List Lead) (i : ℕ) → i < length leads → (e : Event) → IsQueued v.names (take (i + 1) leads) e.lead
    → IsQueued v.names (take i leads) e.lead ⊎ ((q : IsQueued v.names (take (i + 1) leads) e.lead) × (q.0 ≡ place_of (lead_at leads i)))
one_more_queued v leads i below e q =
    let l = map_cases place_of (take (i + 1) leads) q.2 in
    elim (in_taken leads i _ below l.1) [
      | inl k ↦ inl (q.0, q.1, subst (λ n. IsIn n (places (take i leads))) l.2 (in-map place_of k))
      | inr same ↦ inr (q, sym l.2 ∙ ap place_of same)
    ]

-- the lead of an active pair leads no standing event
pub pair_unled : (v : NamedView) (e : Event) (p : ActivePair) → IsPairOf v.set e p → (n : ℕ) → e.lead ≡ name_at v.names n → (x : Stander) → IsIn x v.set.events → x.event.lead ≢ name_at v.names n
pair_unled v e p h n named x there same =
    unconsumed_unled e.lead (standing v.set) h.active.wire.from_loose.3 x.event (in-map (λ (y : Stander). y.event) there) (same ∙ sym named)
