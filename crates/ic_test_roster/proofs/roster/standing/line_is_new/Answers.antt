use Rattle.std.proofs.Common.{◌≢◌, ℕ, List, map, All, subst}
use Rattle.std.proofs.lemmas.List.Elements.{All-contains}
use Rattle.ic_path.specs.Orders.{Alike, IsIn}
use Rattle.ic_path.proofs.Picks.{in-contains}
use Rattle.ic_path.proofs.Alikes.{alike-in}
use Rattle.ic_name.specs.declared.ids.EventId.{EventId as AnEventId}
use Rattle.ic_roster.specs.Rosters.{Stander}
use Rattle.ic_test_roster.proofs.roster.standing.line_is_new.Goals as goal
use Rattle.ic_path.proofs.InLists.{in-map}

-- events whose ids are all of other lines are of other lines
all_elsewhere : (ss : List Stander) (ids : List AnEventId) (line : ℕ) → Alike (map (λ x. x.id) ss) ids → All (λ (id : AnEventId). id.line ≢ line) ids → (x : Stander) → IsIn x ss → x.id.line ≢ line
all_elsewhere ss ids line listed others x i = All-contains (λ (id : AnEventId). id.line ≢ line) ids x.id others (in-contains (alike-in listed (in-map (λ (y : Stander). y.id) i)))

pub returns-in-Ok : goal.returns-in-Ok
returns-in-Ok c = λ new. all_elsewhere c.args.roster.now.events c.in-Ok.ids.items c.args.line c.in-Ok.ensures (subst (All (λ (id : AnEventId). id.line ≢ c.args.line)) c.deref.ensures.value (c.are_elsewhere.ensures new))
