-- What is known of a net that a firing leaves, and of the step from it.
use Rattle.std.proofs.Common.{◌≡◌, ℕ, Bool, true, false, ◌∷◌, refl, sym, ap, arith, ◌∙◌, subst, eqb, None}
use Rattle.std.specs.Prelude.{if◌then◌else◌, is_some}
use Rattle.ic_name.specs.Names.{Name, child_name}
use Rattle.ic_name.specs.Events.{Event}
use Rattle.ic_name.specs.declared.ports.Port.TheVariants.{Of}
use Rattle.ic_name.specs.declared.ports.Port.TheVariants as ports
use Rattle.ic_path.specs.Links.{degree}
use Rattle.ic_path.specs.FarEnds.{far}
use Rattle.ic_theory.specs.Starts.{net_shape, start_links}
use Rattle.ic_theory.specs.Sets.{agents, links, consumed_times}
use Rattle.ic_theory.specs.Active.{IsActive}
use Rattle.ic_theory.specs.Firings.{fired}
use Rattle.ic_theory.specs.Nets.{Net, IsSameNet, kind_of, kind_among, has_port, is_free, net_of}
use Rattle.ic_theory.specs.Steps.{Meets, plain_step}
use Rattle.ic_theory.proofs.Counts.{children_bound, free_degree}
use Rattle.ic_theory.proofs.NameKinds.{none_among}
use Rattle.ic_theory.proofs.PairPorts.{lead_stands}
use Rattle.ic_theory.proofs.PlainSteps.{plain_step_is}
use Rattle.ic_theory.proofs.Runs.{one_net, meets_active}
use Rattle.ic_net.specs.Sheets.{IsReached}
use Rattle.ic_theory.proofs.Steps.{some_if}

module _ (n : Net) (r : IsReached n) where
  -- the net is that of the firing
  same : n ≡ net_of r.start r.events
  same = one_net r.net

  -- the ports of its agents have partners, and no other ports of agents
  pub has_slots : (x : Name) (i : ℕ) → is_some (n.partner (Of x i)) ≡ has_port (n.kind x) i
  has_slots x i = subst (λ (m : Net). is_some (m.partner (Of x i)) ≡ has_port (m.kind x) i) (sym same) (some_if (has_port (kind_of r.start r.events x) i) (far net_shape (links r.start r.events) (Of x i)))

  -- the names that occur once in the start have partners, and no other names
  has_frees : (j : ℕ) → is_some (n.partner (ports.Name j)) ≡ eqb (degree net_shape (start_links r.start) (ports.Name j)) 1
  has_frees j =
      ap (λ (m : Net). is_some (m.partner (ports.Name j))) same
      ∙ some_if (is_free r.start r.events j) (far net_shape (links r.start r.events) (ports.Name j))
      ∙ ap (λ d. eqb d 1) (free_degree r.start r.proper r.events j)

  module _ (e : Event) (m : Meets n e) where
    -- an event whose step is defined is active
    active : IsActive r.start r.events e
    active = meets_active r.start r.proper e r.events r.fired (subst (λ (x : Net). Meets x e) same m)

    -- so the step leaves a net of a firing, too
    pub steps_on : IsReached (plain_step n e)
    steps_on = record {
      start = r.start;
      events = e ∷ r.events;
      proper = r.proper;
      fired = fired r.fired active;
      net = subst (λ (x : Net). IsSameNet (plain_step x e) (net_of r.start (e ∷ r.events))) (sym same) (plain_step_is r.start r.proper e r.events r.fired active);
    }

    -- its children are no agents yet
    pub no_child : (d : ℕ) → n.kind (child_name e.lead d) ≡ None
    no_child d =
        let stands : consumed_times e.lead r.events ≡ 0 = lead_stands r.start r.proper e r.events r.fired active in
        let few = children_bound r.start r.events e.lead d in
        let none : kind_among (child_name e.lead d) (agents r.start r.events) ≡ None = none_among (child_name e.lead d) (agents r.start r.events) (omega arith) in
        ap (λ (x : Net). x.kind (child_name e.lead d)) same ∙ go (eqb (consumed_times (child_name e.lead d) r.events) 0) none
      where
        go : (b : Bool) → kind_among (child_name e.lead d) (agents r.start r.events) ≡ None → (if b then kind_among (child_name e.lead d) (agents r.start r.events) else None) ≡ None
        go true h = h
        go false h = refl

-- a step leaves the names that have partners
pub same_frees : (n : Net) (r : IsReached n) (e : Event) (m : Meets n e) (j : ℕ) → is_some ((plain_step n e).partner (ports.Name j)) ≡ is_some (n.partner (ports.Name j))
unfolding steps_on
same_frees n r e m j = has_frees (plain_step n e) (steps_on n r e m) j ∙ sym (has_frees n r j)

-- a net that is the same is one of a firing, too
pub reached_same : (m n : Net) → IsSameNet m n → IsReached n → IsReached m
reached_same m n h r = subst IsReached (sym (one_net h)) r
