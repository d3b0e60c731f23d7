-- Active pairs are the pairs of agents whose principal ports a wire joins, the lesser one leading.
use Rattle.std.proofs.Common.{◌≡◌, ◌≢◌, ◌⊎◌, inl, inr, refl, sym, ap, subst, ◌∙◌}
use Rattle.std.specs.declared.cmp.Ordering.{Ordering}
use Rattle.std.specs.declared.cmp.Ordering.TheVariants.{Less, Equal, Greater}
use Rattle.ic_name.specs.Names.{Name, name_cmp}
use Rattle.ic_name.specs.Events.{Event}
use Rattle.ic_name.specs.declared.ids.AgentId.{AgentId}
use Rattle.ic_name.specs.declared.kinds.Kind.{Kind}
use Rattle.ic_name.specs.declared.ports.Port.TheVariants.{Of}
use Rattle.ic_name.proofs.NameOrder.{name_tied, name_flip}
use Rattle.ic_path.specs.FarEnds.{far}
use Rattle.ic_path.specs.Orders.{IsIn}
use Rattle.ic_path.proofs.Alikes.{alike-in, alike_back}
use Rattle.ic_theory.specs.Active.{IsActive}
use Rattle.ic_theory.specs.Sets.{agents, links}
use Rattle.ic_theory.specs.Starts.{net_shape}
use Rattle.ic_theory.specs.Wires.{IsWire}
use Rattle.ic_theory.proofs.Future.{far_by, port_agent}
use Rattle.ic_path.proofs.InLists.{in-map, map_cases}
use Rattle.ic_roster.specs.Rosters.{Member}
use Rattle.ic_set.specs.declared.pairs.ActivePair.{ActivePair}
use Rattle.ic_set.specs.Views.{SetView, standing, agent_of}
use Rattle.ic_set.specs.Sets.{IsStandingSet}
use Rattle.ic_set.specs.Pairs.{AreJoined, IsPairOf}
use Rattle.ic_set.proofs.Namings.{same_member}
use Rattle.ic_set.proofs.Partners.{joined_apart, joined_back}

-- the event of two agents
abbrev pub event_between : Member → Member → Event
event_between m n = record { lead = m.name; lead_kind = m.kind; other = n.name; other_kind = n.kind }

module _ (v : SetView) (set : IsStandingSet v) where
  -- an agent of the events and the start has an id
  pub member_of : (n : Name) (k : Kind) → IsIn (n, k) (agents v.start (standing v)) → (m : Member) × IsIn m v.agents × (m.name ≡ n) × (m.kind ≡ k)
  member_of n k i =
      let m = map_cases agent_of v.agents (alike-in (alike_back set.agents) i) in
      (m.0, m.1, ap (λ x. x.0) m.2, ap (λ x. x.1) m.2)

  -- agents with one id, and with one name, are one
  pub one_id : (m n : Member) → IsIn m v.agents → IsIn n v.agents → m.id ≡ n.id → m ≡ n
  one_id m n i j e = same_member v.agents m n set.own_names i j (inl e)

  pub one_name : (m n : Member) → IsIn m v.agents → IsIn n v.agents → m.name ≡ n.name → m ≡ n
  one_name m n i j e = same_member v.agents m n set.own_names i j (inr e)

  -- the wire between two agents that are joined
  wire_of : (m n : Member) → IsIn m v.agents → IsIn n v.agents → AreJoined v m.id n.id → IsWire v.start (standing v) (Of m.name 0) (Of n.name 0)
  wire_of m n i j w =
      let a = one_id w.left m w.left_there i w.left_id in
      let b = one_id w.right n w.right_there j w.right_id in
      subst (λ x. IsWire v.start (standing v) (Of x.name 0) (Of n.name 0)) a (subst (λ y. IsWire v.start (standing v) (Of w.left.name 0) (Of y.name 0)) b w.wire)

  -- two agents that are joined, the lesser one leading, are an active pair
  pub pair_joined : (m n : Member) → IsIn m v.agents → IsIn n v.agents → name_cmp m.name n.name ≡ Less → AreJoined v m.id n.id
      → IsPairOf v (event_between m n) (record { lead = m.id; other = n.id })
  pair_joined m n i j less w = record {
    active = record {
      present = record { lead = alike-in set.agents (in-map agent_of i); other = alike-in set.agents (in-map agent_of j); ordered = less };
      wire = wire_of m n i j w;
    };
    lead = i;
    other = j;
  }

  -- the agents of an active pair are joined
  pub joined_pair : (e : Event) (p : ActivePair) → IsPairOf v e p → AreJoined v p.lead p.other
  joined_pair e p h = record { left = _; right = _; left_there = h.lead; right_there = h.other; left_id = refl; right_id = refl; wire = h.active.wire }

  -- so is either of them to another agent
  pub joined_either : (e : Event) (p : ActivePair) (a : AgentId) → (p.lead ≡ a) ⊎ (p.other ≡ a) → IsPairOf v e p → (b : AgentId) × AreJoined v a b
  joined_either e p a (inl same) h = (p.other, subst (λ x. AreJoined v x p.other) same (joined_pair e p h))
  joined_either e p a (inr same) h = (p.lead, subst (λ x. AreJoined v x p.lead) same (joined_back v set (joined_pair e p h)))

  -- two agents that are joined are an active pair, the other way round where the first isn't the lesser one
  pub pair_turned : (m n : Member) → IsIn m v.agents → IsIn n v.agents → name_cmp m.name n.name ≢ Less → AreJoined v m.id n.id
      → IsPairOf v (event_between n m) (record { lead = n.id; other = m.id })
  pair_turned m n i j not_less w = by (name_cmp m.name n.name) refl
    where
      apart : m.name ≢ n.name
      apart same =
          let a = one_id w.left m w.left_there i w.left_id in
          let b = one_id w.right n w.right_there j w.right_id in
          joined_apart v set w (ap (λ x. x.name) a ∙ same ∙ sym (ap (λ x. x.name) b))

      by : (o : Ordering) → name_cmp m.name n.name ≡ o → IsPairOf v (event_between n m) (record { lead = n.id; other = m.id })
      by Less h = absurd (not_less h)
      by Equal h = absurd (apart (name_tied m.name n.name h))
      by Greater h = pair_joined n m j i (name_flip m.name n.name h) (joined_back v set w)

  -- an agent is joined to one other
  pub joined_once : (a b c : AgentId) → AreJoined v a b → AreJoined v a c → b ≡ c
  joined_once a b c h w =
      let left = one_id h.left w.left h.left_there w.left_there (h.left_id ∙ sym w.left_id) in
      let ends = far_by v.start set.proper (standing v) set.sound.apart h.left.name h.right.name (λ e. joined_apart v set h (sym e)) h.wire.path.trail in
      let ends' = far_by v.start set.proper (standing v) set.sound.apart w.left.name w.right.name (λ e. joined_apart v set w (sym e)) w.wire.path.trail in
      let right = port_agent (sym ends ∙ ap (λ x. far net_shape (links v.start (standing v)) (Of x.name 0)) left ∙ ends') in
      sym h.right_id ∙ ap (λ m. m.id) (one_name h.right w.right h.right_there w.right_there right) ∙ w.right_id

  -- the agents of an event that is active, by their ids
  pub pair_of : (e : Event) → IsActive v.start (standing v) e → (p : ActivePair) × IsPairOf v e p
  pair_of e a =
      let m = member_of e.lead e.lead_kind a.present.lead in
      let n = member_of e.other e.other_kind a.present.other in (
        record { lead = m.0.id; other = n.0.id },
        record {
          active = a;
          lead = subst (λ x. IsIn x v.agents) (λ i. record { id = m.0.id; name = m.2 i; kind = m.3 i }) m.1;
          other = subst (λ x. IsIn x v.agents) (λ i. record { id = n.0.id; name = n.2 i; kind = n.3 i }) n.1;
        },
      )

  -- its lead is the agent of that name
  pub active_lead : (e : Event) (p : ActivePair) → IsPairOf v e p → (m : Member) → IsIn m v.agents → m.name ≡ e.lead → m ≡ record { id = p.lead; name = e.lead; kind = e.lead_kind }
  active_lead e p h m i same = one_name m _ i h.lead same

  -- and its other agent is the one that is joined to that
  pub active_other : (e : Event) (p : ActivePair) → IsPairOf v e p → (m n : Member) → IsIn m v.agents → IsIn n v.agents → m.name ≡ e.lead → AreJoined v m.id n.id
      → n ≡ record { id = p.other; name = e.other; kind = e.other_kind }
  active_other e p h m n i j same w =
      let lead = ap (λ x. x.id) (active_lead e p h m i same) in
      one_id n _ j h.other (joined_once m.id n.id p.other w (subst (λ a. AreJoined v a p.other) (sym lead) (joined_pair e p h)))

  -- pairs with one lead are one, and are of one event
  pub one_pair : (e f : Event) (p q : ActivePair) → IsPairOf v e p → IsPairOf v f q → p.lead ≡ q.lead → (e ≡ f) × (p ≡ q)
  one_pair e f p q h k same =
      let a = one_id _ _ h.lead k.lead same in
      let other = joined_once p.lead p.other q.other (joined_pair e p h) (subst (λ x. AreJoined v x q.other) (sym same) (joined_pair f q k)) in
      let b = one_id _ _ h.other k.other other in (
        λ i. record { lead = (a i).name; lead_kind = (a i).kind; other = (b i).name; other_kind = (b i).kind },
        λ i. record { lead = same i; other = other i },
      )
