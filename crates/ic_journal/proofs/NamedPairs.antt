-- Active pairs by the names of their agents.
use Rattle.std.proofs.Common.{◌≡◌, List, refl, ap, subst, ◌∙◌}
use Rattle.std.specs.declared.cmp.Ordering.TheVariants.{Less}
use Rattle.ic_name.specs.Names.{Name, name_cmp}
use Rattle.ic_name.specs.Events as events
use Rattle.ic_name.specs.Events.{Event, Pair, pair}
use Rattle.ic_name.specs.declared.ids.AgentId.{AgentId}
use Rattle.ic_name.specs.declared.kinds.Kind.{Kind}
use Rattle.ic_path.specs.Orders.{IsIn}
use Rattle.ic_theory.specs.Active.{IsActive}
use Rattle.ic_names.specs.Tables.{name_at}
use Rattle.ic_roster.specs.Rosters.{Member, IsNewName, IsNamed, event_in}
use Rattle.ic_roster.specs.declared.interaction.Interaction.{Interaction}
use Rattle.ic_set.specs.Pairs.{AreJoined, IsPairOf}
use Rattle.ic_set.specs.Sets.{IsStandingSet}
use Rattle.ic_set.specs.Views.{SetView, standing}
use Rattle.ic_set.proofs.ActivePairs.{one_name, pair_of, joined_pair}
use Rattle.ic_set.proofs.EventPairs.{member, pair_found}

module _ (v : SetView) (set : IsStandingSet v) (p : Pair) where
  -- an active event of the name has a lead of its name
  pub no_lead : IsNewName v.agents p.lead → (e : Event) → IsActive v.start (standing v) e → pair e ≡ p → ⊥
  no_lead new e a same = let q = pair_of v set e a in new _ q.1.lead (ap (λ x. x.lead) same)

  -- and another agent of its name
  pub no_other : IsNewName v.agents p.other → (e : Event) → IsActive v.start (standing v) e → pair e ≡ p → ⊥
  no_other new e a same = let q = pair_of v set e a in new _ q.1.other (ap (λ x. x.other) same)

  module _ (a b : AgentId) (k l : Kind) (lead : IsIn (member a p.lead k) v.agents) (other : IsIn (member b p.other l) v.agents) where
    -- a wire joins their principal ports
    pub are_joined : (e : Event) → IsActive v.start (standing v) e → pair e ≡ p → AreJoined v a b
    are_joined e active same =
        let q = pair_of v set e active in
        let first : q.0.lead ≡ a = ap (λ (m : Member). m.id) (one_name v set _ _ q.1.lead lead (ap (λ x. x.lead) same)) in
        let second : q.0.other ≡ b = ap (λ (m : Member). m.id) (one_name v set _ _ q.1.other other (ap (λ x. x.other) same)) in
        subst (λ x. AreJoined v x b) first (subst (λ x. AreJoined v q.0.lead x) second (joined_pair v set e q.0 q.1))

    -- where one does they are such a pair
    pub is_named : name_cmp p.lead p.other ≡ Less → AreJoined v a b → (e : Event) × IsPairOf v e (record { lead = a; other = b }) × (pair e ≡ p)
    is_named less joined =
        let e : Event = record { lead = p.lead; lead_kind = k; other = p.other; other_kind = l } in
        (e, pair_found v set e a k lead less p.lead k lead refl b p.other l other refl refl joined, refl)

-- the name of an event whose agents have their names at two places
pub named_in : (ns : List Name) (i : Interaction) → IsNamed ns i → (m n : Name) → m ≡ name_at ns i.lead.place → n ≡ name_at ns i.other.place → events.pair_of m n ≡ pair (event_in ns i)
named_in ns i named m n first second =
    let less : name_cmp m n ≡ Less = (λ u. name_cmp (first u) (second u)) ∙ named.ordered in
    rw less (λ u. record { lead = first u; other = second u })
