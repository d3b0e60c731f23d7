-- Proposals from ids.
use Rattle.std.specs.Prelude.{◌≡◌, ◌≢◌, ◌⊎◌, Result, Ok, Err}
use Rattle.ic_name.specs.Events.{Event, event_of}
use Rattle.ic_name.specs.declared.ids.AgentId.{AgentId}
use Rattle.ic_path.specs.Orders.{IsIn}
use Rattle.ic_roster.specs.Rosters.{Member}
use Rattle.ic_journal.specs.Views.{BenchView}
use Rattle.ic_journal.specs.declared.faults.ProposeFault.{ProposeFault}
use Rattle.ic_journal.specs.declared.faults.ProposeFault.TheVariants.{NotActive, Memory}

-- no agent has the id
abbrev pub HoldsNone : BenchView → AgentId → Type 0
HoldsNone v a = (m : Member) → IsIn m v.agents → m.id ≢ a

-- the event is that of the two agents under these ids
pub record IsEventOf (v : BenchView) (a b : AgentId) (e : Event) : Type 0 where
  pub left : Member
  pub right : Member
  pub left_there : IsIn left v.agents
  pub right_there : IsIn right v.agents
  pub left_id : left.id ≡ a
  pub right_id : right.id ≡ b
  pub apart : a ≢ b
  pub event : e ≡ event_of left.name left.kind right.name right.kind

-- what proposing the event of two ids gives
abbrev pub Proposes : BenchView → AgentId → AgentId → Result Event ProposeFault → Type 0
Proposes v a b (Ok e) = IsEventOf v a b e
Proposes v a b (Err NotActive) = HoldsNone v a ⊎ (HoldsNone v b ⊎ (a ≡ b))
Proposes v a b (Err Memory) = (a ≢ b) × ¬ (HoldsNone v a) × ¬ (HoldsNone v b)
