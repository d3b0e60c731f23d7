-- The names of direct causes.
use Rattle.std.proofs.Common.{◌≡◌, List, [], ◌∷◌, ◌++◌, map, inl, inr, Some, refl, sym, ap, subst, ◌∙◌}
use Rattle.ic_name.specs.Events.{Event, Pair, pair}
use Rattle.ic_name.specs.declared.ids.EventId.{EventId}
use Rattle.ic_path.specs.Orders.{IsIn, IsOnce}
use Rattle.ic_path.specs.Rings.{HasEachOnce}
use Rattle.ic_path.proofs.Picks.{pick-map}
use Rattle.ic_theory.specs.Causes.{IsCause}
use Rattle.ic_theory.proofs.Ranks.{cause_in, cause_included}
use Rattle.ic_path.proofs.InLists.{in-map, map_cases}
use Rattle.ic_roster.specs.Rosters.{Stander}
use Rattle.ic_set.specs.Admission.{AreCausesOf}
use Rattle.ic_set.specs.Orders.{AreInOrder, IsCauseOf}
use Rattle.ic_set.specs.Sets.{IsStandingSet}
use Rattle.ic_set.specs.Views.{SetView, standing, events_of}
use Rattle.ic_set.proofs.Namings.{same_stander}
use Rattle.ic_trace.specs.declared.past.deep.DeepEvent.{DeepEvent}
use Rattle.ic_trace.specs.DeepEvents.{deep_events, KeepsDeep}
use Rattle.ic_trace.specs.Pasts.{AreCausesNamed}
use Rattle.ic_trace.proofs.FiredPasts.{past_of}
use Rattle.ic_trace.proofs.UndonePasts.{whole}
use Rattle.ic_path.proofs.OnceLists.{once_map}

-- a list whose image has nothing twice has nothing twice
once_from : {X Y : Type 0} (f : X → Y) (xs : List X) → IsOnce (map f xs) → IsOnce xs
once_from f xs once x rest k i = once (f x) (map f rest) (pick-map f k) (in-map f i)

-- the ids of causes in order are those of the causes
pub causes_in_order : (v : SetView) → IsStandingSet v → (x : Stander) → IsIn x v.events → (ids : List EventId) → AreInOrder v (IsCauseOf v x.id) ids → AreCausesOf v x.event ids
causes_in_order v set x i ids o = subst (λ ds. AreCausesOf v x.event ds) o.named (record {
  each = λ d w. subst (λ e. IsIn e (map (λ (y : Stander). y.id) o.order)) w.2 (in-map (λ (y : Stander). y.id) (o.each.each w.0 (w.1, (x, i, refl, w.3))));
  only = λ d j.
      let y = map_cases (λ (y : Stander). y.id) o.order j in
      let w = o.each.only y.0 y.1 in
      let same : w.1.0 ≡ x = same_stander v.events w.1.0 x set.own_lines w.1.1 i (inl w.1.2) in
      (y.0, w.0, y.2, subst (λ (z : Stander). IsCause v.start (standing v) z.event y.0.event) same w.1.3);
  once = once_map (λ (y : Stander). y.id) o.order (λ y z j l e. same_stander v.events y z set.own_lines (o.each.only y j).0 (o.each.only z l).0 (inl e)) o.each.once;
})

module _ (v : SetView) (set : IsStandingSet v) (ds : List DeepEvent) (e : Event) (there : IsIn e (deep_events ds ++ standing v)) (p : Pair) (named : pair e ≡ p)
    (stays : (c : Event) → IsCause v.start (deep_events ds ++ standing v) e c → IsCause v.start (standing v) e c)
    (ids : List EventId) (are : AreCausesOf v e ids) (k : KeepsDeep v ds)
    (xs : List Stander) (within : (x : Stander) → IsIn x xs → IsIn x v.events) (under : map (λ (x : Stander). x.id) xs ≡ ids) where
  -- the events under the ids are the causes
  each_once : HasEachOnce (IsCause v.start (deep_events ds ++ standing v) e) (events_of xs)
  each_once = record { each = each; only = only; once = once_map (λ (x : Stander). x.event) xs (λ x y i j q. same_stander v.events x y set.own_lines (within x i) (within y j) (inr q)) once }
    where
      each : (c : Event) → IsCause v.start (deep_events ds ++ standing v) e c → IsIn c (events_of xs)
      each c q =
          let was = stays c q in
          let y = map_cases (λ (x : Stander). x.event) v.events (cause_in v.start was) in
          let id = are.each y.0.id (y.0, y.1, refl, subst (λ g. IsCause v.start (standing v) e g) (sym y.2) was) in
          let x = map_cases (λ (x : Stander). x.id) xs (subst (λ is. IsIn y.0.id is) (sym under) id) in
          let same : x.0 ≡ y.0 = same_stander v.events x.0 y.0 set.own_lines (within x.0 x.1) y.1 (inl x.2) in
          subst (λ g. IsIn g (events_of xs)) (ap (λ (z : Stander). z.event) same ∙ y.2) (in-map (λ (z : Stander). z.event) x.1)

      only : (c : Event) → IsIn c (events_of xs) → IsCause v.start (deep_events ds ++ standing v) e c
      only c i =
          let x = map_cases (λ (x : Stander). x.event) xs i in
          let y = are.only x.0.id (subst (λ is. IsIn x.0.id is) under (in-map (λ (z : Stander). z.id) x.1)) in
          let same : y.0 ≡ x.0 = same_stander v.events y.0 x.0 set.own_lines y.1 (within x.0 x.1) (inl y.2) in
          cause_included v.start (whole v set ds k) (subst (λ g. IsCause v.start (standing v) e g) (ap (λ (z : Stander). z.event) same ∙ x.2) y.3)

      once : IsOnce xs
      once = once_from (λ (x : Stander). x.id) xs (subst IsOnce (sym under) are.once)

  -- and so are their names
  pub causes_named : (names : List Pair) → map (λ (x : Stander). pair x.event) xs ≡ names → AreCausesNamed (past_of v ds) p (Some names)
  causes_named names q = (e, there, named, events_of xs, each_once, pairs xs ∙ q)
    where
      pairs : (ys : List Stander) → map pair (events_of ys) ≡ map (λ (x : Stander). pair x.event) ys
      pairs [] = refl
      pairs (y ∷ ys) = ap (λ ps. pair y.event ∷ ps) (pairs ys)
