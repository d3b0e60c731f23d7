-- Leads of active pairs in a queue.
use Rattle.std.specs.Prelude.{◌≡◌, ℕ, List}
use Rattle.ic_name.specs.Names.{Name}
use Rattle.ic_name.specs.Events.{Event}
use Rattle.ic_path.specs.Orders.{IsIn}
use Rattle.ic_names.specs.Tables.{name_at, StandsAt}
use Rattle.ic_names.specs.declared.queue.Lead.{Lead}
use Rattle.ic_names.specs.Queues.{places}
use Rattle.ic_set.specs.declared.pairs.ActivePair.{ActivePair}
use Rattle.ic_set.specs.Pairs.{IsPairOf}
use Rattle.ic_set.specs.Views.{NamedView}

-- the agent whose name is at this place leads an active pair
abbrev pub Leads : NamedView → ℕ → Type 0
Leads v n = (e : Event) × (p : ActivePair) × IsPairOf v.set e p × (e.lead ≡ name_at v.names n)

-- the name is in the queue
abbrev pub IsQueued : List Name → List Lead → Name → Type 0
IsQueued ns leads name = (n : ℕ) × StandsAt ns name n × IsIn n (places leads)

-- the lead of each active pair is in the queue
abbrev pub HasLeads : NamedView → List Lead → Type 0
HasLeads v leads = (e : Event) (p : ActivePair) → IsPairOf v.set e p → IsQueued v.names leads e.lead
