-- Which events can go, and which agents.
use Rattle.std.specs.Prelude.{◌≡◌, ◌≢◌, ℕ, Bool, List, ◌++◌, map}
use Rattle.std.specs.Ordering.{is_lt}
use Rattle.std.specs.declared.cmp.Ordering.TheVariants.{Greater}
use Rattle.ic_name.specs.Events.{Event}
use Rattle.ic_name.specs.declared.ids.AgentId.{AgentId}
use Rattle.ic_name.specs.declared.ids.EventId.{EventId}
use Rattle.ic_path.specs.Orders.{Alike, IsIn}
use Rattle.ic_theory.specs.Causes.{IsDependent, canonical_cmp}
use Rattle.ic_theory.specs.Machine.{IsLeastDependent}
use Rattle.ic_roster.specs.Rosters.{Member, Stander}
use Rattle.ic_set.specs.Views.{SetView, standing}

-- an event stands under the id
abbrev pub Stands : SetView → EventId → Type 0
Stands v d = (x : Stander) × IsIn x v.events × (x.id ≡ d)

-- no event depends directly on the one under the id
abbrev pub IsFree : SetView → EventId → Type 0
IsFree v d = (x : Stander) → IsIn x v.events → x.id ≡ d → (f : Event) → ¬ (IsDependent v.start (standing v) x.event f)

-- the second id is that of the least direct dependent of the event under the first
pub record IsLeast (v : SetView) (d e : EventId) : Type 0 where
  pub held : Stander
  pub holder : Stander
  pub held_there : IsIn held v.events
  pub holder_there : IsIn holder v.events
  pub held_id : held.id ≡ d
  pub holder_id : holder.id ≡ e
  pub least : IsLeastDependent v.start (standing v) held.event holder.event

-- each event has its noted rank
abbrev pub AreNoted : List Stander → (Event → ℕ) → Type 0
AreNoted ss rank = (x : Stander) → IsIn x ss → x.rank ≡ rank x.event

-- the answer is whether the event under the first id comes before the one under the second
abbrev pub TellsOrder : List Stander → EventId → EventId → Bool → Type 0
TellsOrder ss d e before = (x y : Stander) (rank : Event → ℕ) → IsIn x ss → IsIn y ss → x.id ≡ d → y.id ≡ e → AreNoted ss rank → before ≡ is_lt (canonical_cmp rank x.event y.event)

-- of the events under these ids none comes before the one under this id, which is one of them
pub record IsLeastOf (ss : List Stander) (ids : List EventId) (least : EventId) : Type 0 where
  pub among : IsIn least ids
  pub none_before : (x y : Stander) (rank : Event → ℕ) → IsIn x ss → IsIn y ss → x.id ≡ least → IsIn y.id ids → AreNoted ss rank → canonical_cmp rank x.event y.event ≢ Greater

-- the agents under the ids go, and the others are left
abbrev pub LosesEach : List AgentId → List Member → List Member → Type 0
LosesEach ids old new = (gone left : List Member) → map (λ m. m.id) gone ≡ ids → Alike old (gone ++ left) → Alike left new
