-- The ids of all standing events, of the direct causes of one, and of its direct dependents.
use Rattle.std.proofs.Common.{◌≡◌, ◌↔◌, List, map, inl, refl, sym, ap, subst, ◌∙◌}
use Rattle.ic_name.specs.declared.ids.EventId.{EventId}
use Rattle.ic_path.specs.Orders.{Alike, IsIn, IsOnce}
use Rattle.ic_path.proofs.Alikes.{alike-in, alike_back}
use Rattle.ic_path.proofs.InLists.{in-map, map_cases}
use Rattle.ic_theory.specs.Causes.{IsCause}
use Rattle.ic_path.proofs.OnceLists.{once-alike}
use Rattle.ic_roster.specs.Rosters.{Stander, HaveOwnLines, AreDependents, DependsOn as ByIds}
use Rattle.ic_roster.proofs.Images.{picked_image}
use Rattle.ic_set.specs.declared.orders.Placed.{Placed}
use Rattle.ic_set.specs.Causes.{HaveCauses}
use Rattle.ic_set.specs.Orders.{AreInOrder, IsAny, IsCauseOf, DependsOn}
use Rattle.ic_set.specs.Placed.{ArePlaced}
use Rattle.ic_set.specs.Removal.{Stands}
use Rattle.ic_set.specs.Views.{SetView, NamedView, standing}
use Rattle.ic_set.proofs.CauseIds.{depends_to, depends_from}
use Rattle.ic_set.proofs.Namings.{same_stander}

-- the id of an event
abbrev event_id : Stander → EventId
event_id x = x.id

-- the ids of events that are shown in order are in order
pub ids_in_order : (v : NamedView) (P : Stander → Type 0) (placed : List Placed) (ids : List EventId) → ArePlaced v P placed → ids ≡ map (λ p. p.id) placed → AreInOrder v.set P ids
ids_in_order v P placed ids h e = record { order = h.order; each = h.each; canonical = h.canonical; named = h.ids ∙ sym e }

-- another property that the same standing events have
pub placed_so : (v : NamedView) {P Q : Stander → Type 0} (placed : List Placed) → ((x : Stander) → IsIn x v.set.events → P x ↔ Q x) → ArePlaced v P placed → ArePlaced v Q placed
placed_so v placed same h = record {
  order = h.order;
  each = record {
    each = λ x i. h.each.each x (i.0, (same x i.0).1 i.1);
    only = λ x i. (let p = h.each.only x i in (p.0, (same x p.0).0 p.1));
    once = h.each.once;
  };
  canonical = h.canonical;
  ids = h.ids;
  standing = h.standing;
}

-- the ids of events that have lines of their own are there once
pub ids_once : (ss : List Stander) (ids : List EventId) → HaveOwnLines ss → Alike (map event_id ss) ids → IsOnce ids
ids_once ss ids own a = once-alike a once
  where
    once : IsOnce (map event_id ss)
    once d rest k i =
        let p = picked_image event_id ss k in
        let q = map_cases event_id p.1 (subst (λ ds. IsIn d ds) p.4 i) in
        own.slots p.0 q.0 p.1 p.2 q.1 (ap (λ (c : EventId). c.slot) (q.2 ∙ p.3))

-- an event stands under each of them
pub ids_stand : (v : SetView) (ids : List EventId) → Alike (map event_id v.events) ids → (d : EventId) → IsIn d ids → Stands v d
ids_stand v ids a d i = map_cases event_id v.events (alike-in (alike_back a) i)

-- all events are under the ids of all
pub any_of_all : (ss : List Stander) (ids : List EventId) → Alike (map event_id ss) ids → (x : Stander) → IsIn x ss → IsIn x.id ids ↔ IsAny x
any_of_all ss ids a x i = (λ j. tt, λ u. alike-in a (in-map event_id i))

module _ (v : SetView) (own : HaveOwnLines v.events) (causes : HaveCauses v.start v.events) where
  -- the direct causes that are noted with an event are there once
  pub causes_once : (x : Stander) → IsIn x v.events → IsOnce x.causes
  causes_once x i = (causes x i).once

  -- and an event stands under each
  pub causes_stand : (x : Stander) → IsIn x v.events → (f : EventId) → IsIn f x.causes → Stands v f
  causes_stand x i f j = let c = (causes x i).only f j in (c.0, c.1, c.2)

  -- they are the ids of its direct causes, and of no other events
  pub causes_of : (x : Stander) → IsIn x v.events → (y : Stander) → IsIn y v.events → IsIn y.id x.causes ↔ IsCauseOf v x.id y
  causes_of x i y j = (
    λ k. (let c = (causes x i).only y.id k in (x, i, refl, subst (λ (z : Stander). IsCause v.start (standing v) x.event z.event) (same_stander v.events c.0 y own c.1 j (inl c.2)) c.3)),
    λ c. (causes x i).each y.id (y, j, refl, subst (λ (z : Stander). IsCause v.start (standing v) z.event y.event) (same_stander v.events c.0 x own c.1 i (inl c.2)) c.3),
  )

  -- the ids of what depends on an event by ids are those of its direct dependents
  pub dependents_of : (d : EventId) (fs : List EventId) → Stands v d → AreDependents v.events d fs → (y : Stander) → IsIn y v.events → IsIn y.id fs ↔ DependsOn v d y
  dependents_of d fs (x, i, same) h y j = (
    λ k. (
        let c = depends_to v.start v.events own causes x y.id i (subst (λ e. ByIds v.events e y.id) (sym same) (h.only y.id k)) in
        (x, i, same, subst (λ (z : Stander). IsCause v.start (standing v) z.event x.event) (same_stander v.events c.0 y own c.1 j (inl c.2)) c.3)),
    λ c. h.each y.id (subst (λ e. ByIds v.events e y.id) c.2 (depends_from v.start v.events causes y c.0 j c.1 c.3)),
  )
