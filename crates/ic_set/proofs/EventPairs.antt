-- Whether an event is active, told by the agents that are found under its names.
use Rattle.std.proofs.Common.{◌≡◌, refl, sym, ap, subst, ◌∙◌}
use Rattle.std.specs.declared.cmp.Ordering.TheVariants.{Less}
use Rattle.ic_name.specs.Names.{Name, name_cmp}
use Rattle.ic_name.specs.Events.{Event}
use Rattle.ic_name.specs.declared.ids.AgentId.{AgentId}
use Rattle.ic_name.specs.declared.kinds.Kind.{Kind}
use Rattle.ic_path.specs.Orders.{IsIn}
use Rattle.ic_theory.specs.Active.{IsActive}
use Rattle.ic_roster.specs.Rosters.{Member}
use Rattle.ic_set.specs.Views.{SetView, standing}
use Rattle.ic_set.specs.Sets.{IsStandingSet}
use Rattle.ic_set.specs.Pairs.{AreJoined, IsPairOf}
use Rattle.ic_set.proofs.ActivePairs.{one_id, pair_joined, joined_pair, pair_of, active_lead, active_other, event_between}

-- an agent under its id
abbrev pub member : AgentId → Name → Kind → Member
member a n k = record { id = a; name = n; kind = k }

module _ (v : SetView) (set : IsStandingSet v) (e : Event) (a : AgentId) (k : Kind) (there : IsIn (member a e.lead k) v.agents) where
  -- of an active event it has the lead's name and kind
  pub lead_is : IsActive v.start (standing v) e → (n : Name) (kind : Kind) → IsIn (member a n kind) v.agents → (n ≡ e.lead) × (kind ≡ e.lead_kind)
  lead_is active n kind i =
      let p = pair_of v set e active in
      let same = one_id v set (member a n kind) (member a e.lead k) i there refl ∙ active_lead v set e p.0 p.1 (member a e.lead k) there refl in
      (ap (λ m. m.name) same, ap (λ m. m.kind) same)

  -- it is joined to an agent
  pub lead_joined : IsActive v.start (standing v) e → (b : AgentId) × AreJoined v a b
  lead_joined active =
      let p = pair_of v set e active in
      (p.0.other, subst (λ x. AreJoined v x p.0.other) (sym (ap (λ m. m.id) (active_lead v set e p.0 p.1 (member a e.lead k) there refl))) (joined_pair v set e p.0 p.1))

  -- and the agent that it is joined to is the other
  pub other_is : IsActive v.start (standing v) e → (b : AgentId) (n : Name) (kind : Kind) → IsIn (member b n kind) v.agents → AreJoined v a b → (n ≡ e.other) × (kind ≡ e.other_kind)
  other_is active b n kind i j =
      let p = pair_of v set e active in
      let same = active_other v set e p.0 p.1 (member a e.lead k) (member b n kind) there i refl j in
      (ap (λ m. m.name) same, ap (λ m. m.kind) same)

  -- where all this is so the event is active
  pub pair_found : name_cmp e.lead e.other ≡ Less → (m : Name) (kind : Kind) → IsIn (member a m kind) v.agents → kind ≡ e.lead_kind
      → (b : AgentId) (n : Name) (kind' : Kind) → IsIn (member b n kind') v.agents → n ≡ e.other → kind' ≡ e.other_kind → AreJoined v a b → IsPairOf v e (record { lead = a; other = b })
  pair_found less m kind i is b n kind' j named is' w =
      let lead = ap (λ x. x.kind) (one_id v set (member a e.lead k) (member a m kind) there i refl) ∙ is in
      let event : event_between (member a e.lead k) (member b n kind') ≡ e = λ u. record { lead = e.lead; lead_kind = lead u; other = named u; other_kind = is' u } in
      subst (λ f. IsPairOf v f (record { lead = a; other = b })) event (pair_joined v set (member a e.lead k) (member b n kind') there j (subst (λ x. name_cmp e.lead x ≡ Less) (sym named) less) w)
