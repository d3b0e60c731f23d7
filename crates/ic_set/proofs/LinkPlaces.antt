-- The places of the links that events made: no rule makes more than eight.
use Rattle.std.proofs.Common.{◌≡◌, ℕ, ◌+◌, ◌<◌, List, [], ◌∷◌, length, Option, Some, ap, arith}
use Rattle.std.proofs.lemmas.List.{length-map}
use Rattle.ic_name.specs.Events.{Event}
use Rattle.ic_name.specs.declared.ids.EventId.{EventId}
use Rattle.ic_name.specs.declared.ids.Link.{Link}
use Rattle.ic_name.specs.declared.ids.MakerId.TheVariants as maker
use Rattle.ic_name.specs.declared.ports.Port.{Port}
use Rattle.ic_name.specs.declared.rules.Profile.{Profile}
use Rattle.ic_name.specs.declared.rules.RuleEnd.{RuleEnd}
use Rattle.ic_path.specs.Orders.{Pick, here, there, IsIn}
use Rattle.ic_path.proofs.Alikes.{alike-in}
use Rattle.ic_path.proofs.InLists.{in-map}
use Rattle.ic_theory.specs.Born.{Link as NetLink, placed, port_of, born_joins, born_links}
use Rattle.ic_theory.specs.Rules.{born_ends}
use Rattle.ic_theory.proofs.LinkOrder.{made_by_maker}
use Rattle.ic_cause.specs.Naming.{maker_of, link_of}
use Rattle.ic_set.specs.Sets.{IsKept}
use Rattle.ic_set.specs.Views.{SetView, standing}
use Rattle.ic_set.proofs.RuleDigits.{rule_few}

-- places are counted up to the number of links
placed_below : (m : Option Event) (k : ℕ) (ps : List (Port × Port)) {l : NetLink} {rest : List NetLink} → Pick l (placed m k ps) rest → l.place < k + length ps
placed_below m k [] i = elim i [ ]
placed_below m k (p ∷ ps) here = omega arith
placed_below m k (p ∷ ps) (there i) = let ih = placed_below m (k + 1) ps i in omega arith

-- so those of an event's links are below eight
born_below : (v : Profile) (e : Event) (l : NetLink) → IsIn l (born_links v e) → l.place < 8
born_below v e l i =
    let low = placed_below (Some e) 0 (born_joins v e) i.1 in
    let long = length-map {B = Port × Port} (born_ends v e.lead_kind e.other_kind) (λ (x : RuleEnd × RuleEnd). (port_of e x.0, port_of e x.1)) in
    let few = rule_few v e.lead_kind e.other_kind in
    omega (arith, low, long, few)

-- also by ids
pub place_below : (v : SetView) (ls : List Link) → IsKept v ls → (d : EventId) (l : Link) → IsIn l ls → l.id.maker ≡ maker.Event d → l.id.place < 8
place_below v ls k d l i made =
    born_below v.start.profile (k.naming.event d) (link_of k.naming l)
    (made_by_maker v.start (standing v) (alike-in k.shows.alike (in-map (link_of k.naming) i)) (ap (maker_of k.naming) made))
