-- A past in which nothing stands yet.
use Rattle.std.proofs.Common.{◌≡◌, List, [], ◌++◌, refl, subst}
use Rattle.ic_path.specs.Orders.{IsIn}
use Rattle.ic_path.proofs.Picks.{none_in}
use Rattle.ic_set.specs.Sets.{IsStandingSet}
use Rattle.ic_set.specs.Views.{SetView, standing, events_of}
use Rattle.ic_trace.specs.declared.past.deep.DeepEvent.{DeepEvent}
use Rattle.ic_trace.specs.DeepEvents.{deep_events, KeepsDeep}

-- no events stand
pub no_events : (v : SetView) (ds : List DeepEvent) → ds ≡ [] → v.events ≡ [] → deep_events ds ++ standing v ≡ []
no_events v ds none empty = rw (none, empty) refl

-- and what is kept of them is kept
pub keeps_none : (v : SetView) (ds : List DeepEvent) → ds ≡ [] → IsStandingSet v → v.events ≡ [] → KeepsDeep v ds
keeps_none v ds none set empty = rw none (record {
  sound = set.sound;
  shallow = λ e i. absurd (none_in (subst (λ es. IsIn e (events_of es)) empty i));
  deep = λ d i. absurd (none_in i);
  causes = λ d i. absurd (none_in i);
})
