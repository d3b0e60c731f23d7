-- The direct dependents of a standing event, and the least of them.
use Rattle.std.proofs.Common.{◌≡◌, ◌≢◌, ℕ, false, List, Option, Some, None, IfNone, refl, sym, subst}
use Rattle.std.specs.declared.cmp.Ordering.{Ordering}
use Rattle.std.specs.declared.cmp.Ordering.TheVariants.{Less, Equal, Greater}
use Rattle.std.specs.Ordering.{is_gt}
use Rattle.ic_name.specs.Events.{Event}
use Rattle.ic_name.specs.declared.ids.EventId.{EventId}
use Rattle.ic_name.specs.declared.ids.Link.{Link}
use Rattle.ic_path.specs.Orders.{IsIn}
use Rattle.ic_theory.specs.Causes.{IsCause, IsRank, IsDependent, canonical_cmp}
use Rattle.ic_path.proofs.InLists.{in-map, map_cases}
use Rattle.ic_roster.specs.Rosters.{Stander, DependsOn, AreDependents}
use Rattle.ic_set.specs.Removal.{Stands, IsFree, IsLeast, IsLeastOf}
use Rattle.ic_set.specs.Sets.{IsKept}
use Rattle.ic_set.specs.Views.{SetView, standing}
use Rattle.ic_set.proofs.CauseIds.{depends_to, depends_from}

-- what isn't greater fails the test
not_greater : (o : Ordering) → o ≢ Greater → is_gt o ≡ false
not_greater Less h = refl
not_greater Equal h = refl
not_greater Greater h = absurd (h refl)

module _ (v : SetView) (ls : List Link) (is : IsKept v ls) (d : EventId) (stands : Stands v d) (ids : List EventId) (are : AreDependents v.events d ids) where
  -- each of them stands, and has the event among its direct causes
  dependent : (e : EventId) → IsIn e ids → (x : Stander) × IsIn x v.events × (x.id ≡ e) × IsCause v.start (standing v) x.event stands.0.event
  dependent e i =
      depends_to v.start v.events is.set.own_lines is.set.causes stands.0 e stands.1 (subst (λ c. DependsOn v.events c e) (sym stands.2) (are.only e i))

  -- the entry of each
  pub dependents_stand : (e : EventId) → IsIn e ids → (x : Stander) × IsIn x v.events × (x.id ≡ e)
  dependents_stand e i = let x = dependent e i in (x.0, x.1, x.2)

  -- an event that has it among its direct causes is one of them
  all_dependents : (x : Stander) → IsIn x v.events → x.id ≡ d → (f : Event) → IsDependent v.start (standing v) x.event f → (z : Stander) × IsIn z v.events × (z.event ≡ f) × IsIn z.id ids
  all_dependents x i e f h =
      let z = map_cases (λ (y : Stander). y.event) v.events h.0 in
      let c : IsCause v.start (standing v) z.0.event x.event = subst (λ g. IsCause v.start (standing v) g x.event) (sym z.2) h.1 in
      (z.0, z.1, z.2, are.each z.0.id (subst (λ b. DependsOn v.events b z.0.id) e (depends_from v.start v.events is.set.causes z.0 x z.1 i c)))

  -- where there are none the event is free
  none_depends : ((e : EventId) → IsIn e ids → ⊥) → IsFree v d
  none_depends none = λ x i e f h. (let z = all_dependents x i e f h in none z.0.id z.3)

  -- so it is where no least one is found
  pub none_found : (found : Option EventId) → IfNone found ((e : EventId) → IsIn e ids → ⊥) → IfNone found (IsFree v d)
  none_found None h = none_depends h
  none_found (Some e) h = h

  -- the least by ids is the least
  pub least_depends : (e : EventId) → IsLeastOf v.events ids e → IsLeast v d e
  least_depends e h =
      let x = dependent e h.among in
      record {
        held = stands.0;
        holder = x.0;
        held_there = stands.1;
        holder_there = x.1;
        held_id = stands.2;
        holder_id = x.2;
        least = record {
          dependent = (in-map (λ (y : Stander). y.event) x.1, x.3);
          least = λ rank r g dep. least x.0 x.1 x.2 rank r g dep;
        };
      }
    where
      least : (x : Stander) → IsIn x v.events → x.id ≡ e → (rank : Event → ℕ) → IsRank v.start (standing v) rank → (g : Event) → IsDependent v.start (standing v) stands.0.event g → is_gt (canonical_cmp rank x.event g) ≡ false
      least x i q rank r g dep =
          let z = all_dependents stands.0 stands.1 stands.2 g dep in
          not_greater _ (subst (λ f. canonical_cmp rank x.event f ≢ Greater) z.2 (h.none_before x z.0 rank i z.1 q z.3 (is.set.ranks rank r)))
