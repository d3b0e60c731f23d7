use Rattle.std.proofs.Common.{◌≡◌}
use Rattle.ic_roster.specs.Placed.{stander_in}
use Rattle.ic_roster.proofs.Images.{each_image}
use Rattle.ic_roster.proofs.roster.Roster.event_causes.Goals as goal
use Rattle.ic_path.proofs.InLists.{in-map}

pub returns-clause-causes : goal.returns-clause-causes
returns-clause-causes c = rw (← c.self.view_is) (each_image (stander_in c.self.inside.names) c.self.inside.events (λ x. x.id ≡ c.args.id → c.causes.result ≡ x.causes) c.causes.ensures.causes)

pub returns-clause-absent : goal.returns-clause-absent
returns-clause-absent c = rw (← c.self.view_is) (λ none. c.causes.ensures.absent (λ x i. none (stander_in c.self.inside.names x) (in-map (stander_in c.self.inside.names) i)))
