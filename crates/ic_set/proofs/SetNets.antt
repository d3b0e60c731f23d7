-- The steps along each causal order of a set's events are defined, and end in the net of the set.
use Rattle.std.proofs.Common.{◌≡◌, List, [], sym, subst, ◌∙◌}
use Rattle.ic_name.specs.Events.{Event}
use Rattle.ic_path.specs.Orders.{Alike}
use Rattle.ic_theory.specs.Starts.{Start, IsProper}
use Rattle.ic_theory.specs.Firings.{AreAfterCauses, then_fired}
use Rattle.ic_theory.specs.Nets.{Net, IsSameNet, net_of}
use Rattle.ic_theory.specs.Sound.{IsSound}
use Rattle.ic_theory.specs.Steps.{AreDefined, steps}
use Rattle.ic_theory.proofs.AnyOrder.{net-alike}
use Rattle.ic_theory.proofs.Ranks.{sound-alike}
use Rattle.ic_theory.proofs.Runs.{one_net, fired_steps}
use Rattle.ic_theory.proofs.Sound.{sound_fired}

module _ (s : Start) (ok : IsProper s) (es : List Event) (sound : IsSound s es) (order : List Event) (a : Alike es (then_fired [] order)) (after : AreAfterCauses s (then_fired [] order) (then_fired [] order)) where
  -- the steps along a causal order are defined, and end in the net of the order
  causal_steps : AreDefined (net_of s []) order × (steps (net_of s []) order ≡ net_of s (then_fired [] order))
  causal_steps = fired_steps s ok order (sound_fired s ok (then_fired [] order) (sound-alike s a sound) after)

  pub causal_defined : AreDefined (net_of s []) order
  causal_defined = causal_steps.0

  -- which is that of the set
  pub causal_net : (now : Net) → IsSameNet now (net_of s es) → IsSameNet now (steps (net_of s []) order)
  causal_net now h = subst (IsSameNet now) (one_net (net-alike s ok sound a) ∙ sym causal_steps.1) h
