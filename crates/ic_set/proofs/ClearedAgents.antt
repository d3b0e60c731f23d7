-- The agents that are left where all events go with their children are those of the start.
use Rattle.std.proofs.Common.{◌≡◌, List, [], ◌∷◌, map, ◌⊎◌, inl, inr, ◌↔◌, refl, sym, ap, subst, arith}
use Rattle.ic_name.specs.Names.{Name}
use Rattle.ic_name.specs.Events.{Event}
use Rattle.ic_name.specs.declared.kinds.Kind.{Kind}
use Rattle.ic_path.specs.Orders.{Alike, IsIn, IsOnce}
use Rattle.ic_path.proofs.Alikes.{alike_back, alike-in, picked_alike}
use Rattle.ic_path.proofs.EachOnce.{once_alike}
use Rattle.ic_path.proofs.Picks.{in_first, in_more}
use Rattle.ic_theory.specs.Born.{born_agents}
use Rattle.ic_theory.specs.Sets.{agents, with_made}
use Rattle.ic_theory.specs.Sound.{IsSound}
use Rattle.ic_theory.specs.Starts.{Start, start_agents}
use Rattle.ic_theory.proofs.AnyOrder.{named-alike}
use Rattle.ic_theory.proofs.Counts.{names_once, named_times-append}
use Rattle.ic_theory.proofs.Future.{made_alike, named_in}
use Rattle.ic_path.proofs.InLists.{in-map, map_cases, in_behind, in-append_cases}
use Rattle.ic_roster.specs.Born.{IsBorn}
use Rattle.ic_roster.specs.Rosters.{Member, Stander, HaveOwnNames}
use Rattle.ic_roster.proofs.Images.{two_images}
use Rattle.ic_set.specs.Sets.{IsStandingSet}
use Rattle.ic_set.specs.Views.{SetView, standing, agent_of}
use Rattle.ic_set.proofs.EmptySets.{can_enter_start}
use Rattle.ic_set.proofs.Namings.{same_member}

-- the agents that are left are the old ones but the children of the events
abbrev pub AreLeft : List Member → List Stander → List Member → Type 0
AreLeft old ss ms = (m : Member) → IsIn m ms ↔ (IsIn m old × ¬ (IsBorn ss m.id))

-- what was there first is there with what events made
first_in : {X : Type 0} (made : Event → List X) (first : List X) (es : List Event) {x : X} → IsIn x first → IsIn x (with_made made first es)
first_in made first [] i = i
first_in made first (e ∷ es) i = in_behind (made e) (first_in made first es i)

-- and what is there was there first, or an event made it
pub made_cases : {X : Type 0} (made : Event → List X) (first : List X) (es : List Event) {x : X} → IsIn x (with_made made first es) → IsIn x first ⊎ ((e : Event) × IsIn e es × IsIn x (made e))
made_cases made first [] i = inl i
made_cases made first (e ∷ es) i = elim (in-append_cases (made e) i) [
  | inl j ↦ inr (e, in_first e es, j)
  | inr j ↦ elim (made_cases made first es j) [ inl k ↦ inl k | inr c ↦ inr (c.0, in_more e c.1, c.2) ]
]

-- no child of an event has the name of an agent of the start
start_unborn : (s : Start) (es : List Event) (e : Event) {x y : Name × Kind} → IsSound s es → IsIn e es → IsIn x (start_agents s) → IsIn y (born_agents e) → x.0 ≡ y.0 → ⊥
start_unborn s es e {x} {y} sound i j k same =
    let few = names_once s es sound.apart x.0 in
    let split = named-alike x.0 (made_alike born_agents (start_agents s) (picked_alike i.1)) in
    let sum = named_times-append x.0 (born_agents e) (agents s i.0) in
    let child = named_in x.0 {x = y} same k.1 in
    let root = named_in x.0 {x = x} refl (first_in born_agents (start_agents s) i.0 j).1 in
    omega arith

module _ (v : SetView) (is : IsStandingSet v) where
  -- an agent with the name of a child of an event is that child
  named_born : (m : Member) (e : Event) → IsIn m v.agents → IsIn e (standing v) → IsIn (agent_of m) (born_agents e) → IsBorn v.events m.id
  named_born m e i j k =
      let x = map_cases (λ (z : Stander). z.event) v.events j in
      let h = is.children x.0 x.1 in
      let born : IsIn (agent_of m) (born_agents x.0.event) = rw x.2 k in
      let child = map_cases agent_of h.children (subst (λ xs. IsIn (agent_of m) xs) (sym h.are.named) born) in
      let same : child.0 ≡ m = same_member v.agents child.0 m is.own_names (h.there child.0 child.1) i (inr (ap (λ (a : Name × Kind). a.0) child.2)) in
      let id : IsIn child.0.id x.0.born = subst (λ ids. IsIn child.0.id ids) h.are.under (in-map (λ (n : Member). n.id) child.1) in
      (x.0, x.1, subst (λ (n : Member). IsIn n.id x.0.born) same id)

  -- an agent of the start is no child
  start_stays : (m : Member) → IsIn m v.agents → IsIn (agent_of m) (start_agents v.start) → IsBorn v.events m.id → ⊥
  start_stays m i j b =
      let h = is.children b.0 b.1 in
      let child = map_cases (λ (n : Member). n.id) h.children (subst (λ ids. IsIn m.id ids) (sym h.are.under) b.2) in
      let same : child.0 ≡ m = same_member v.agents child.0 m is.own_names (h.there child.0 child.1) i (inl child.2) in
      let born : IsIn (agent_of child.0) (born_agents b.0.event) = subst (λ xs. IsIn (agent_of child.0) xs) h.are.named (in-map agent_of child.1) in
      start_unborn v.start (standing v) b.0.event is.sound (in-map (λ (z : Stander). z.event) b.1) j born (ap (λ (n : Member). n.name) (sym same))

  module _ (ms : List Member) (own : HaveOwnNames ms) (left : AreLeft v.agents v.events ms) where
    -- an agent that is left is one of the start
    of_start : (x : Name × Kind) → IsIn x (map agent_of ms) → IsIn x (start_agents v.start)
    of_start x i =
        let m = map_cases agent_of ms i in
        let old = (left m.0).0 m.1 in
        let from = made_cases born_agents (start_agents v.start) (standing v) (alike-in is.agents (in-map agent_of old.0)) in
        subst (λ y. IsIn y (start_agents v.start)) m.2 (elim from [ inl j ↦ j | inr c ↦ absurd (old.1 (named_born m.0 c.0 old.0 c.1 c.2)) ])

    -- and each of those is left
    start_left : (x : Name × Kind) → IsIn x (start_agents v.start) → IsIn x (map agent_of ms)
    start_left x i =
        let m = map_cases agent_of v.agents (alike-in (alike_back is.agents) (first_in born_agents (start_agents v.start) (standing v) i)) in
        let its : IsIn (agent_of m.0) (start_agents v.start) = rw m.2 i in
        subst (λ y. IsIn y (map agent_of ms)) m.2 (in-map agent_of ((left m.0).1 (m.1, start_stays m.0 m.1 its)))

    -- no agent is left twice
    left_once : IsOnce (map agent_of ms)
    left_once x rest k i = two_images agent_of ms (λ y z. y ≡ z → ⊥) (λ m n others j l e. own.names m n others j l (ap (λ (a : Name × Kind). a.0) (sym e))) x x rest k i refl

    -- so they are the agents of the start
    pub cleared_agents : Alike (map agent_of ms) (agents v.start [])
    cleared_agents = once_alike _ _ left_once (λ x rest k i. (can_enter_start v.start).apart x x rest k i refl) of_start start_left
