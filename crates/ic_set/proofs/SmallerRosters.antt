-- The rosters without an event and its children.
use Rattle.std.proofs.Common.{List, ◌∷◌, ◌++◌, map, ◌⊎◌, inl, inr, refl, subst}
use Rattle.std.proofs.lemmas.List.{map-append}
use Rattle.ic_name.specs.Events.{Event}
use Rattle.ic_name.specs.Names.{Name}
use Rattle.ic_name.specs.declared.ids.AgentId.{AgentId}
use Rattle.ic_name.specs.declared.kinds.Kind.{Kind}
use Rattle.ic_path.specs.Orders.{Pick, there, Alike, IsIn, IsOnce}
use Rattle.ic_path.proofs.Alikes.{alike_back, alike_then, alike-map, alike-in, picked_alike, cancel_front}
use Rattle.ic_path.proofs.Picks.{in_more, pick-map, pick_behind, pick_before}
use Rattle.ic_path.proofs.InLists.{in-map}
use Rattle.ic_theory.specs.Born.{born_agents}
use Rattle.ic_theory.specs.Starts.{Start, IsProper, start_agents}
use Rattle.ic_theory.specs.Sets.{agents}
use Rattle.ic_theory.specs.Causes.{IsCause}
use Rattle.ic_theory.specs.Sound.{IsSound}
use Rattle.ic_theory.proofs.Future.{made_alike, pick_part}
use Rattle.ic_roster.specs.Rosters.{Member, Stander, HaveOwnNames, HaveOwnLines}
use Rattle.ic_set.specs.Views.{agent_of, events_of, AreChildren}
use Rattle.ic_set.specs.Sets.{HasChildren}
use Rattle.ic_set.proofs.Namings.{own_names_from, own_lines_from, own_names_alike, own_lines_alike}
use Rattle.ic_set.proofs.SmallerSets.{children_apart, children_new}

-- what stands behind others is in the whole list
pub in_back : {X : Type 0} {x : X} (zs : List X) {xs : List X} → IsIn x xs → IsIn x (zs ++ xs)
in_back zs i = (_, pick_behind zs i.1)

-- fewer agents have names of their own
pub fewer_names : (children left : List Member) {ms : List Member} → Alike ms (children ++ left) → HaveOwnNames ms → HaveOwnNames left
fewer_names children left a own = own_names_from (λ x y rest k i. (children ++ rest, pick_behind children k, in_back children i)) (own_names_alike a own)

-- fewer events have lines of their own
pub fewer_lines : (entry : Stander) (left : List Stander) {ss : List Stander} → Alike ss (entry ∷ left) → HaveOwnLines ss → HaveOwnLines left
fewer_lines entry left a own = own_lines_from (λ x y rest k i. (entry ∷ rest, there k, in_more entry i)) (own_lines_alike a own)

-- each agent that an event makes is among those of its set
born_in : (s : Start) (es : List Event) (e : Event) {x : Name × Kind} → IsIn e es → IsIn x (born_agents e) → IsIn x (agents s es)
born_in s es e i j = alike-in (alike_back (made_alike born_agents (start_agents s) (picked_alike i.1))) (_, pick_before (agents s i.0) j.1)

-- the events are those of the entries
pub events_alike : {ss left : List Stander} {entry : Stander} → Alike ss (entry ∷ left) → Alike (events_of ss) (entry.event ∷ events_of left)
events_alike a = alike-map (λ (x : Stander). x.event) a

module _ (s : Start) (ok : IsProper s) (entry : Stander) (left : List Stander) (ss : List Stander) (sound : IsSound s (events_of ss)) (a : Alike ss (entry ∷ left))
    (free : (f : Event) → IsIn f (events_of ss) → IsCause s (events_of ss) f entry.event → ⊥) where
  module _ (ids : List AgentId) (children : List Member) (are : AreChildren entry.event ids children) where
    -- a child is made by the event
    child_born : {m : Member} → IsIn m children → IsIn (agent_of m) (born_agents entry.event)
    child_born {m} i = subst (λ xs. IsIn (agent_of m) xs) are.named (in-map agent_of i)

    -- no child is there twice
    pub children_once : IsOnce children
    children_once m rest k i =
        let j : Pick (agent_of m) (born_agents entry.event) (map agent_of rest) = subst (λ xs. Pick (agent_of m) xs (map agent_of rest)) are.named (pick-map agent_of k) in
        children_apart s ok (events_of ss) entry.event (events_of left) sound (events_alike a) free j (in-map agent_of i) refl

    module _ (ms others : List Member) (split : Alike ms (children ++ others)) where
      -- the other agents are those of the other events
      pub agents_left : Alike (map agent_of ms) (agents s (events_of ss)) → Alike (map agent_of others) (agents s (events_of left))
      agents_left all = cancel_front (born_agents entry.event) (alike_then both (alike_then all (made_alike born_agents (start_agents s) (events_alike a))))
        where
          both : Alike (born_agents entry.event ++ map agent_of others) (map agent_of ms)
          both = subst (λ xs. Alike (xs ++ map agent_of others) (map agent_of ms)) are.named
              (subst (λ xs. Alike xs (map agent_of ms)) (map-append agent_of children others) (alike_back (alike-map agent_of split)))

      -- the children of another event are among them
      pub children_left : (x : Stander) → IsIn x left → HasChildren ms x → HasChildren others x
      children_left x i h = record { children = h.children; are = h.are; there = λ m j. by m j (pick_part children others (alike-in split (h.there m j)).1) }
        where
          theirs : {m : Member} → IsIn m h.children → IsIn (agent_of m) (agents s (events_of left))
          theirs {m} j = born_in s (events_of left) x.event (in-map (λ (y : Stander). y.event) i) (subst (λ xs. IsIn (agent_of m) xs) h.are.named (in-map agent_of j))

          by : (m : Member) → IsIn m h.children → IsIn m children ⊎ IsIn m others → IsIn m others
          by m j (inl k) = absurd (children_new s ok (events_of ss) entry.event (events_of left) sound (events_alike a) free (child_born k) (theirs j) refl)
          by m j (inr k) = k
