-- The direct causes that are noted once an event has gone.
use Rattle.std.proofs.Common.{◌≡◌, List, ◌∷◌, ◌⊎◌, inl, inr, subst}
use Rattle.ic_name.specs.Events.{Event}
use Rattle.ic_name.specs.declared.ids.EventId.{EventId}
use Rattle.ic_path.specs.Orders.{Alike, IsIn}
use Rattle.ic_path.proofs.Alikes.{alike_back, alike-in}
use Rattle.ic_path.proofs.Picks.{in_more, in-cons_cases}
use Rattle.ic_theory.specs.Starts.{Start, IsProper}
use Rattle.ic_theory.specs.Causes.{IsCause}
use Rattle.ic_theory.specs.Sound.{IsSound}
use Rattle.ic_path.proofs.InLists.{in-map}
use Rattle.ic_roster.specs.Rosters.{Stander}
use Rattle.ic_set.specs.Causes.{IsCauseId, HaveCauses}
use Rattle.ic_set.specs.Views.{events_of}
use Rattle.ic_set.proofs.SmallerRosters.{events_alike}
use Rattle.ic_set.proofs.SmallerSets.{cause_up, cause_down}

module _ (s : Start) (ok : IsProper s) (entry : Stander) (left : List Stander) (ss : List Stander) (sound : IsSound s (events_of ss)) (a : Alike ss (entry ∷ left))
    (free : (f : Event) → IsIn f (events_of ss) → IsCause s (events_of ss) f entry.event → ⊥) (causes : HaveCauses s ss) where
  -- the other events stood before
  up : {x : Stander} → IsIn x left → IsIn x ss
  up i = alike-in (alike_back a) (in_more entry i)

  -- an event stands
  event_in : {x : Stander} {xs : List Stander} → IsIn x xs → IsIn x.event (events_of xs)
  event_in i = in-map (λ (x : Stander). x.event) i

  -- the direct causes of the others stand still, and are noted with them
  pub causes_left : HaveCauses s left
  causes_left x i =
      let h = causes x (up i) in
      record {
        each = λ d c. h.each d (c.0, up c.1, c.2, cause_up s ok (events_of ss) entry.event (events_of left) sound (events_alike a) free c.3);
        only = λ d j. (let c = h.only d j in by d c (in-cons_cases (alike-in a c.1)));
        once = h.once;
      }
    where
      by : (d : EventId) (c : IsCauseId s ss x d) → (c.0 ≡ entry) ⊎ IsIn c.0 left → IsCauseId s left x d
      by d c (inl e) = absurd (free x.event (event_in (up i)) (subst (λ (z : Stander). IsCause s (events_of ss) x.event z.event) e c.3))
      by d c (inr k) = (c.0, k, c.2, cause_down s ok (events_of ss) entry.event (events_of left) sound (events_alike a) free (event_in i) c.3)
