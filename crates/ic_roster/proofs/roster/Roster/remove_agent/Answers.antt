use Rattle.std.proofs.Common.{◌≡◌, ◌∷◌, map, ap}
use Rattle.ic_path.specs.Orders.{Alike}
use Rattle.ic_path.proofs.Alikes.{alike-map}
use Rattle.ic_roster.specs.Placed.{member_in, roster_in}
use Rattle.ic_roster.proofs.Images.{each_image}
use Rattle.ic_roster.proofs.roster.Roster.remove_agent.Goals as goal
use Rattle.ic_path.proofs.InLists.{in-map}

pub invariant_of-self : goal.invariant_of-self
invariant_of-self c = record { agents = λ x i. c.self.invariant.agents x (c.remove.ensures.left x i); events = c.self.invariant.events }

pub returns-clause-gone : goal.returns-clause-gone
returns-clause-gone c =
    let names = member_in c.self.inside.names in
    rw (← c.self.view_is) (each_image names c.self.inside.agents (λ x. x.id ≡ c.args.id → Alike (map names c.self.inside.agents) (x ∷ map names c.remove.new.self)) (λ x i e. alike-map names (c.remove.ensures.gone x i e)))

pub returns-clause-unchanged : goal.returns-clause-unchanged
returns-clause-unchanged c = rw (← c.self.view_is) (λ none.
    (let same = c.remove.ensures.unchanged (λ x i. none (member_in c.self.inside.names x) (in-map (member_in c.self.inside.names) i)) in
    ap (λ xs. roster_in c.self.inside.names xs c.self.inside.events) same))
