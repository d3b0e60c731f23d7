-- The queue of leads that a set keeps, and the active pair at its front.
use Rattle.std.specs.Prelude.{◌≢◌, ℕ, ◌≤◌, List, length, Option, IfSome, IfNone}
use Rattle.ic_name.specs.Events.{Event}
use Rattle.ic_names.specs.Tables.{name_at}
use Rattle.ic_path.specs.Orders.{IsIn}
use Rattle.ic_theory.specs.Active.{IsActive}
use Rattle.ic_names.specs.declared.queue.Lead.{Lead}
use Rattle.ic_names.specs.Queues.{QueueView, places, leads_of, IsQueue}
use Rattle.ic_roster.specs.Rosters.{Stander}
use Rattle.ic_set.specs.declared.pairs.ActivePair.{ActivePair}
use Rattle.ic_set.specs.Pairs.{IsLeastPair}
use Rattle.ic_set.specs.Queues.{HasLeads}
use Rattle.ic_set.specs.Views.{SetView, NamedView, standing}

-- the pair is the active one with the least lead; there is none where no pair is active
abbrev pub IsFront : SetView → Option ActivePair → Type 0
IsFront v pair = IfSome pair (λ p. IsLeastPair v p) × IfNone pair ((e : Event) → IsActive v.start (standing v) e → ⊥)

-- no standing event is led by an agent whose name is in the queue
abbrev pub LeadNone : NamedView → List Lead → Type 0
LeadNone v leads = (n : ℕ) → IsIn n (places leads) → (x : Stander) → IsIn x v.set.events → x.event.lead ≢ name_at v.names n

-- the leads are in the queue, the pair is the one at its front, and there is room for each name that is known
pub record KeepsQueue (v : NamedView) (q : QueueView) (pair : Option ActivePair) : Type 0 where
  pub queue : IsQueue v.names q
  pub each : HasLeads v (leads_of q)
  pub front : IsFront v.set pair
  pub room : length v.names ≤ q.room
