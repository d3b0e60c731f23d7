use Rattle.std.proofs.Common.{◌≡◌, ◌≢◌, ◌∷◌, map}
use Rattle.std.specs.Prelude.{IsSomeAnd}
use Rattle.ic_names.specs.Tables.{StandsAt}
use Rattle.ic_path.specs.Orders.{Alike, IsIn}
use Rattle.ic_path.proofs.Alikes.{alike-map}
use Rattle.ic_roster.specs.Rosters.{Stander, Loses}
use Rattle.ic_roster.specs.Placed.{PlacedEvent, member_in, stander_in, roster_in}
use Rattle.ic_roster.proofs.GoneAgents.{lost_named}
use Rattle.ic_roster.proofs.Images.{each_image}
use Rattle.ic_roster.proofs.Named.{lead_named}
use Rattle.ic_roster.proofs.roster.Roster.remove_event.Goals as goal
use Rattle.ic_path.proofs.InLists.{in-map}

pub remove-requires : goal.remove-requires
remove-requires c =
    let free : (x : Stander) → IsIn x (map (stander_in c.self.inside.names) c.self.inside.events) → IsIn c.args.id x.causes → ⊥ = rw (← c.self.view_is) at c.requires in
    λ x i. free (stander_in c.self.inside.names x) (in-map (stander_in c.self.inside.names) i)

pub invariant_of-self : goal.invariant_of-self
invariant_of-self c = record { agents = λ x i. c.self.invariant.agents x (c.remove.ensures.left_agents x i); events = λ x i. c.self.invariant.events x (c.remove.ensures.left x i) }

pub returns-clause-gone : goal.returns-clause-gone
returns-clause-gone c =
    let names = stander_in c.self.inside.names in
    rw (← c.self.view_is) (each_image names c.self.inside.events (λ x. x.id ≡ c.args.id → Alike (map names c.self.inside.events) (x ∷ map names c.remove.new.self)) (λ x i e. alike-map names (c.remove.ensures.gone x i e)))

pub returns-clause-children : goal.returns-clause-children
returns-clause-children c =
    let names = c.self.inside.names in
    rw (← c.self.view_is) (each_image (stander_in names) c.self.inside.events (λ x. x.id ≡ c.args.id → Loses x.born (map (member_in names) c.self.inside.agents) (map (member_in names) c.remove.new.agents))
    (λ x i e. lost_named names c.self.inside.agents c.remove.new.agents x.born (c.remove.ensures.children x i e)))

pub returns-clause-lead : goal.returns-clause-lead
returns-clause-lead c =
    let names = c.self.inside.names in
    rw (← c.self.view_is) (each_image (stander_in names) c.self.inside.events (λ x. x.id ≡ c.args.id → IsSomeAnd c.remove.result (λ lead. StandsAt names x.event.lead lead.place))
    (λ x i e. lead_named names x c.remove.result (c.self.invariant.events x i) (c.remove.ensures.lead x i e)))

pub returns-clause-absent : goal.returns-clause-absent
returns-clause-absent c =
    let names = stander_in c.self.inside.names in
    rw (← c.self.view_is) (λ none. c.remove.ensures.absent (λ x i. none (names x) (in-map names i)))

pub returns-clause-unchanged : goal.returns-clause-unchanged
returns-clause-unchanged c = rw (← c.self.view_is) (λ none.
    (let still : (x : PlacedEvent) → IsIn x c.self.inside.events → x.id ≢ c.args.id = λ x i. none (stander_in c.self.inside.names x) (in-map (stander_in c.self.inside.names) i) in
    let events = c.remove.ensures.unchanged still in
    let agents = c.remove.ensures.spared still in
    λ u. roster_in c.self.inside.names (agents u) (events u)))
