-- Steps along a list are defined where the list is a firing, and end in its net.
use Rattle.std.proofs.Common.{◌≡◌, ℕ, ◌≤◌, Bool, true, false, List, [], ◌∷◌, refl, sym, ap, arith, ◌∙◌, Some, None}
use Rattle.std.specs.Prelude.{if◌then◌else◌, leb}
use Rattle.std.proofs.lemmas.Bool.{le-leb}
use Rattle.ic_name.specs.Names.{Name}
use Rattle.ic_name.specs.declared.ports.Port.TheVariants.{Of}
use Rattle.ic_name.specs.Events.{Event}
use Rattle.ic_path.specs.FarEnds.{far}
use Rattle.ic_path.specs.Trails.{Reaches}
use Rattle.ic_path.proofs.Ends.{reaches_far}
use Rattle.ic_name.specs.Kinds.{arity}
use Rattle.ic_theory.specs.Starts.{Start, net_shape, IsProper}
use Rattle.ic_theory.specs.Sets.{agents, links, consumed_times}
use Rattle.ic_path.specs.Orders.{IsIn}
use Rattle.ic_theory.specs.Wires.{Path}
use Rattle.ic_theory.specs.Active.{IsActive}
use Rattle.ic_theory.specs.Firings.{IsFired, nothing, fired}
use Rattle.ic_theory.specs.Nets.{Net, kind_of, net_of, IsSameNet}
use Rattle.ic_theory.specs.Steps.{plain_step, steps, AreDefined, Meets}
use Rattle.ic_theory.specs.Firings.{then_fired}
use Rattle.ic_theory.proofs.Counts.{slim, principal}
use Rattle.ic_theory.proofs.Future.{earlier, last_active, fired_apart, loose_agent, far_by, unequal, port_agent}
use Rattle.ic_theory.proofs.Loose.{path_of}
use Rattle.ic_theory.proofs.NameKinds.{kind_there, kind_parts}
use Rattle.ic_theory.proofs.PlainSteps.{plain_step_is}

-- nets that are the same name by name are equal
pub one_net : {m n : Net} → IsSameNet m n → m ≡ n
one_net h = λ i. record { kind = λ x. h.kinds x i; partner = λ p. h.partners p i; rings = h.rings i; profile = h.profile i }

-- what stood before a firing went on is a firing
fired_before : (s : Start) (es done : List Event) → IsFired s (then_fired done es) → IsFired s done
fired_before s [] done f = f
fired_before s (e ∷ es) done f = earlier (fired_before s es (e ∷ done) f)

module _ (s : Start) (ok : IsProper s) (e : Event) (es : List Event) (f : IsFired s es) where
  -- each agent is consumed once at most
  apart : (n : Name) → consumed_times n es ≤ 1
  apart = fired_apart s f

  -- the step by an active event is defined
  pub active_meets : IsActive s es e → Meets (net_of s es) e
  active_meets a = record { lead = at_lead; other = at_other; partners = joined; ordered = a.present.ordered }
    where
      at_lead : kind_of s es e.lead ≡ Some e.lead_kind
      at_lead = kind_there s ok es f e.lead e.lead_kind a.present.lead (loose_agent s es e.lead a.wire.from_loose)

      at_other : kind_of s es e.other ≡ Some e.other_kind
      at_other = kind_there s ok es f e.other e.other_kind a.present.other (loose_agent s es e.other a.wire.to_loose)

      leb0 : (n : ℕ) → leb 0 n ≡ true
      leb0 n = le-leb 0 n (omega arith)

      joined : (net_of s es).partner (Of e.lead 0) ≡ Some (Of e.other 0)
      joined = let d = far_by s ok es apart e.lead e.other (λ i. unequal a.present.ordered (sym i)) a.wire.path.trail in rw (at_lead, leb0 (arity e.lead_kind), d) refl

  -- and an event whose step is defined is active
  pub meets_active : Meets (net_of s es) e → IsActive s es e
  meets_active m = record { present = record { lead = l.0; other = o.0; ordered = m.ordered }; wire = record { path = way; from_loose = (e.lead_kind, l.0, omega arith, l.1); to_loose = (e.other_kind, o.0, omega arith, o.1) } }
    where
      l : IsIn (e.lead, e.lead_kind) (agents s es) × (consumed_times e.lead es ≡ 0)
      l = kind_parts s es e.lead e.lead_kind m.lead

      o : IsIn (e.other, e.other_kind) (agents s es) × (consumed_times e.other es ≡ 0)
      o = kind_parts s es e.other e.other_kind m.other

      is_far : (b : Bool) → (if b then Some (far net_shape (links s es) (Of e.lead 0)) else None) ≡ Some (Of e.other 0) → far net_shape (links s es) (Of e.lead 0) ≡ Of e.other 0
      is_far true h = cc
      is_far false h = cc

      reach : Reaches net_shape (links s es) (Of e.lead 0) (Of e.other 0)
      reach = rw (← is_far _ m.partners) (reaches_far net_shape (links s es) (Of e.lead 0) (slim s ok es apart) (principal s ok es apart e.lead))

      way : Path (links s es) (Of e.lead 0) (Of e.other 0)
      way = path_of reach.trail (λ i. unequal m.ordered (port_agent i))

module _ (s : Start) (ok : IsProper s) where
  -- along a firing that goes on the steps are defined and end in its net
  run : (es done : List Event) → IsFired s (then_fired done es) → AreDefined (net_of s done) es × (steps (net_of s done) es ≡ net_of s (then_fired done es))
  run [] done f = (tt, refl)
  run (e ∷ es) done f =
      let now = fired_before s es (e ∷ done) f in
      let a = last_active now in
      let before = fired_before s (e ∷ []) done now in
      let same : plain_step (net_of s done) e ≡ net_of s (e ∷ done) = one_net (plain_step_is s ok e done before a) in
      let ih = run es (e ∷ done) f in
      ((active_meets s ok e done before a, rw same ih.0), ap (λ n. steps n es) same ∙ ih.1)

  -- and along defined steps a firing goes on
  back_run : (es done : List Event) → IsFired s done → AreDefined (net_of s done) es → IsFired s (then_fired done es)
  back_run [] done f d = f
  back_run (e ∷ es) done f d =
      let a = meets_active s ok e done f d.0 in
      let same : plain_step (net_of s done) e ≡ net_of s (e ∷ done) = one_net (plain_step_is s ok e done f a) in
      back_run es (e ∷ done) (fired f a) (rw (← same) d.1)

  -- along a firing the steps are defined and end in the net of its events, and a list along which they are is a firing
  pub fired_steps : (es : List Event) → IsFired s (then_fired [] es) → AreDefined (net_of s []) es × (steps (net_of s []) es ≡ net_of s (then_fired [] es))
  fired_steps es f = run es [] f

  -- along defined steps from the start there is a firing
  pub defined_fired : (es : List Event) → AreDefined (net_of s []) es → IsFired s (then_fired [] es)
  defined_fired es d = back_run es [] nothing d
