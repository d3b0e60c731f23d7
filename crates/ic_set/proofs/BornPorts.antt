-- At most one link ends at a port of a child of an event that was just fired.
use Rattle.std.proofs.Common.{◌≡◌, ◌≤◌, ℕ, ◌∷◌, List, Some, refl, arith}
use Rattle.ic_name.specs.Names.{Name}
use Rattle.ic_name.specs.Events.{Event}
use Rattle.ic_name.specs.declared.kinds.Kind.{Kind}
use Rattle.ic_name.specs.declared.ports.Port.TheVariants.{Of}
use Rattle.ic_path.specs.Links.{degree}
use Rattle.ic_path.specs.Orders.{IsIn, Alike}
use Rattle.ic_path.proofs.Alikes.{alike_then, alike-cons}
use Rattle.ic_path.proofs.Orders.{degree-alike}
use Rattle.ic_theory.specs.Active.{IsActive}
use Rattle.ic_theory.specs.Born.{placed, born_agents, born_links}
use Rattle.ic_theory.specs.Firings.{IsFired}
use Rattle.ic_theory.specs.Sets.{agents, links, named_times}
use Rattle.ic_theory.specs.Sound.{IsSound}
use Rattle.ic_theory.specs.Starts.{Start, IsProper, net_shape, start_links}
use Rattle.ic_theory.proofs.Cases.{end_degree}
use Rattle.ic_theory.proofs.Counts.{degree-append}
use Rattle.ic_theory.proofs.Future.{made_alike, named_in}
use Rattle.ic_theory.proofs.Normal.{active-alike}
use Rattle.ic_theory.proofs.PairPorts.{joins, named_once, once}
use Rattle.ic_theory.proofs.Ranks.{sound_order}
use Rattle.ic_set.proofs.StillActive.{no_ends}

-- where the events before it were fired in this order
fired_once : (s : Start) (ok : IsProper s) (e : Event) (es : List Event) (f : IsFired s es) (a : IsActive s es e) (n : Name) (k : Kind) → IsIn (n, k) (born_agents e) → (i : ℕ) → degree net_shape (links s (e ∷ es)) (Of n i) ≤ 1
fired_once s ok e es f a n k h i =
    let both = named_once s ok e es f a n in
    let its = named_in n refl h.1 in
    let absent : named_times n (agents s es) ≡ 0 = omega arith in
    let none = no_ends s ok e es f a n i absent in
    let sum = degree-append net_shape (placed (Some e) 0 (joins s ok e es f a)) (links s es) (Of n i) in
    let ends = end_degree (Of n i) (Some e) 0 (joins s ok e es f a) in
    let few = once s ok e es f a (Of n i) in
    omega arith

-- and so in any order
pub born_once : (s : Start) → IsProper s → (e : Event) (all es : List Event) → IsSound s es → IsActive s es e → Alike all (e ∷ es) → (n : Name) (k : Kind) → IsIn (n, k) (born_agents e) → (i : ℕ) → degree net_shape (links s all) (Of n i) ≤ 1
born_once s ok e all es sound a added n k h i =
    let o = sound_order s ok es sound in
    let few = fired_once s ok e o.0 o.2 (active-alike s o.1 a) n k h i in
    let same = degree-alike net_shape (made_alike (born_links s.profile) (start_links s) (alike_then added (alike-cons e o.1))) (Of n i) in
    omega arith
