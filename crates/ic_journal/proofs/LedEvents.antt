-- Standing events by their leads.
use Rattle.std.proofs.Common.{◌≡◌, refl, ap}
use Rattle.ic_name.specs.Names.{Name}
use Rattle.ic_name.specs.declared.ids.AgentId.{AgentId}
use Rattle.ic_name.specs.declared.kinds.Kind.{Kind}
use Rattle.ic_path.specs.Orders.{IsIn}
use Rattle.ic_path.proofs.InLists.{in-map}
use Rattle.ic_roster.specs.Rosters.{Member, Stander, IsNewName}
use Rattle.ic_set.specs.Sets.{IsStandingSet}
use Rattle.ic_set.specs.Views.{SetView}
use Rattle.ic_set.proofs.ActivePairs.{member_of, one_id}
use Rattle.ic_set.proofs.EventPairs.{member}

module _ (v : SetView) (set : IsStandingSet v) where
  -- the lead of a standing event is an agent
  pub lead_there : (x : Stander) → IsIn x v.events → IsNewName v.agents x.event.lead → ⊥
  lead_there x i new =
      let m = member_of v set x.event.lead x.event.lead_kind (set.sound.present x.event (in-map (λ (y : Stander). y.event) i)).lead in
      new m.0 m.1 m.2

  -- an agent has one name
  pub one_named : (a : AgentId) (m n : Name) (k l : Kind) → IsIn (member a m k) v.agents → IsIn (member a n l) v.agents → m ≡ n
  one_named a m n k l i j = ap (λ (x : Member). x.name) (one_id v set (member a m k) (member a n l) i j refl)
