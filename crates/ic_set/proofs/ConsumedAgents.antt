-- Which agents standing events consumed, read off the links by ids.
use Rattle.std.proofs.Common.{◌≡◌, ◌≢◌, ℕ, zero, suc, ◌≤◌, List, inl, inr, Option, Some, None, refl, sym, ap, arith, subst, ◌∙◌}
use Rattle.std.proofs.lemmas.Bool.{eq-eqb, ne_eqb}
use Rattle.ic_name.specs.Names.{Name}
use Rattle.ic_name.specs.Events.{Event}
use Rattle.ic_name.specs.declared.kinds.Kind.{Kind}
use Rattle.ic_name.specs.declared.ids.Link.{Link}
use Rattle.ic_name.specs.declared.ids.Spot.TheVariants as spot
use Rattle.ic_name.specs.declared.ports.Port.TheVariants.{Of}
use Rattle.ic_name.proofs.SameFacts.{same_name_self}
use Rattle.ic_path.specs.FarEnds.{far as far_of}
use Rattle.ic_path.specs.Orders.{Pick, here, there, IsIn}
use Rattle.ic_path.proofs.Alikes.{alike_back, alike-in}
use Rattle.ic_path.proofs.Ends.{reversed}
use Rattle.ic_path.proofs.Orders.{far-far}
use Rattle.ic_link.specs.Links.{IsFar}
use Rattle.ic_link.specs.declared.store.Far.{Far}
use Rattle.ic_link.specs.declared.store.Far.TheVariants as far
use Rattle.ic_theory.specs.Nets.{kind_among, kind_of}
use Rattle.ic_theory.specs.Sets.{agents, links, consumed_times}
use Rattle.ic_theory.specs.Starts.{net_shape}
use Rattle.ic_theory.specs.Wires.{Path}
use Rattle.ic_theory.proofs.Counts.{names_once, slim, principal}
use Rattle.ic_theory.proofs.Future.{WasFired, consumed_in, consumer, lead_far, port_agent, unequal}
use Rattle.ic_theory.proofs.Loose.{path_of}
use Rattle.ic_theory.proofs.NameKinds.{kind_parts, some_among}
use Rattle.ic_path.proofs.InLists.{in-map, map_cases}
use Rattle.ic_roster.specs.Rosters.{Member, Stander, IsNewName}
use Rattle.ic_set.specs.Views.{SetView, standing, agent_of}
use Rattle.ic_set.specs.Sets.{IsStandingSet, IsKept}
use Rattle.ic_set.proofs.Partners.{LeadsNone, path_far, named_far}

-- a count that isn't other than 0 is 0
pub zero_unless : (n : ℕ) → ((n ≡ 0 → ⊥) → ⊥) → n ≡ 0
zero_unless zero f = refl
zero_unless (suc n) f = absurd (f (λ e. omega (arith, e)))

-- the other agent of an event of the list is consumed
pub consumed_other : {e : Event} {es rest : List Event} → Pick e es rest → 1 ≤ consumed_times e.other es
consumed_other {e = e} here = rw (same_name_self e.other) (omega arith)
consumed_other (there k) = let ih = consumed_other k in omega arith

-- the lead of a standing event is consumed
pub lead_consumed : (v : SetView) (n : Name) (x : Stander) → IsIn x v.events → x.event.lead ≡ n → consumed_times n (standing v) ≢ 0
lead_consumed v n x i q z =
    let some = consumed_in (in-map (λ (y : Stander). y.event) i).1 in
    let same = ap (λ m. consumed_times m (standing v)) q in
    omega (arith, some, same, z)

module _ (v : SetView) (set : IsStandingSet v) where
  -- an agent that is there has an id
  pub member_of : (n : Name) (kind : Kind) → IsIn (n, kind) (agents v.start (standing v)) → (m : Member) × IsIn m v.agents × (m.name ≡ n) × (m.kind ≡ kind)
  member_of n kind i =
      let m = map_cases agent_of v.agents (alike-in (alike_back set.agents) i) in
      (m.0, m.1, ap (λ (a : Name × Kind). a.0) m.2, ap (λ (a : Name × Kind). a.1) m.2)

  -- an event of the set was fired
  was_fired : (e : Event) → IsIn e (standing v) → WasFired v.start (standing v) e
  was_fired e i = record { present = set.sound.present e i; path = set.sound.joined e i }

  -- the kind of an agent that isn't consumed
  pub kind_there : (m : Member) (n : Name) → IsIn m v.agents → m.name ≡ n → consumed_times n (standing v) ≡ 0 → Some m.kind ≡ kind_of v.start (standing v) n
  kind_there m n i q z =
      let its = alike-in set.agents (in-map agent_of i) in
      let found : kind_among n (agents v.start (standing v)) ≡ Some m.kind = some_among n {y = agent_of m} (sym q) (names_once v.start (standing v) set.sound.apart n) its.1 in
      rw (eq-eqb (consumed_times n (standing v)) 0 z) (sym found)

  -- a consumed agent has none
  pub kind_consumed : (n : Name) → consumed_times n (standing v) ≢ 0 → None ≡ kind_of v.start (standing v) n
  kind_consumed n some = rw (ne_eqb (consumed_times n (standing v)) 0 some) refl

  -- nor has a name that no agent has
  pub kind_absent : (n : Name) → IsNewName v.agents n → None ≡ kind_of v.start (standing v) n
  kind_absent n new = by (kind_of v.start (standing v) n) refl
    where
      by : (k : Option Kind) → kind_of v.start (standing v) n ≡ k → None ≡ kind_of v.start (standing v) n
      by None h = sym h
      by (Some kind) h = let p = kind_parts v.start (standing v) n kind h in let m = member_of n kind p.0 in absurd (new m.0 m.1 m.2)

module _ (v : SetView) (ls : List Link) (k : IsKept v ls) (m : Member) (there : IsIn m v.agents) (f : Far) (is : IsFar ls (spot.Agent m.id 0) f) where
  -- the far end of a consumed agent that leads no event is an agent that leads one
  pub led_far : LeadsNone v m.name → consumed_times m.name (standing v) ≢ 0 → (n : Member) × IsIn n v.agents × (f ≡ far.End (spot.Agent n.id 0)) × ((x : Stander) × IsIn x v.events × (x.event.lead ≡ n.name))
  led_far free some = by (consumed_times m.name (standing v)) refl
    where
      found : (e : Event) → IsIn e (standing v) → m.name ≡ e.other → (n : Member) × IsIn n v.agents × (f ≡ far.End (spot.Agent n.id 0)) × ((x : Stander) × IsIn x v.events × (x.event.lead ≡ n.name))
      found e i q =
          let w = was_fired v k.set e i in
          let n = member_of v k.set e.lead e.lead_kind w.present.lead in
          let x = map_cases (λ (y : Stander). y.event) v.events i in
          let other : m.name ≢ n.0.name = λ h. unequal w.present.ordered (sym n.2 ∙ sym h ∙ q) in
          let back : Path (links v.start (standing v)) (Of e.other 0) (Of e.lead 0) = path_of (reversed net_shape w.path.trail).1 (λ h. unequal w.present.ordered (sym (port_agent h))) in
          (n.0, n.1, path_far v ls k m n.0 f there n.1 other (rw (q, n.2) back) is, (x.0, x.1, ap (λ (y : Event). y.lead) x.2 ∙ sym n.2))

      led : (e : Event) → IsIn e (standing v) → m.name ≡ e.lead → ⊥
      led e i q = let x = map_cases (λ (y : Stander). y.event) v.events i in free x.0 x.1 (ap (λ (y : Event). y.lead) x.2 ∙ sym q)

      by : (c : ℕ) → consumed_times m.name (standing v) ≡ c → (n : Member) × IsIn n v.agents × (f ≡ far.End (spot.Agent n.id 0)) × ((x : Stander) × IsIn x v.events × (x.event.lead ≡ n.name))
      by zero z = absurd (some z)
      by (suc c) z =
          let c = consumer m.name (standing v) (omega (arith, z)) in
          elim c.consumes [ inl q ↦ absurd (led c.event c.among q) | inr q ↦ found c.event c.among q ]

  -- and the other way round
  pub far_led : (n : Member) → IsIn n v.agents → f ≡ far.End (spot.Agent n.id 0) → (x : Stander) → IsIn x v.events → x.event.lead ≡ n.name → consumed_times m.name (standing v) ≢ 0
  far_led n i h x j q z =
      let thin = slim v.start k.set.proper (standing v) k.set.sound.apart in
      let few = principal v.start k.set.proper (standing v) k.set.sound.apart m.name in
      let its = in-map (λ (y : Stander). y.event) j in
      let to = named_far v ls k m n there i (subst (IsFar ls (spot.Agent m.id 0)) h is) in
      let back = far-far net_shape (links v.start (standing v)) thin (Of m.name 0) few in
      let lead = lead_far v.start k.set.proper (standing v) k.set.sound.apart x.event (was_fired v k.set x.event its) in
      let same : x.event.other ≡ m.name = port_agent (sym lead ∙ ap (λ y. far_of net_shape (links v.start (standing v)) (Of y 0)) q ∙ ap (far_of net_shape (links v.start (standing v))) (sym to) ∙ back) in
      let some = consumed_other its.1 in
      let equal = ap (λ y. consumed_times y (standing v)) same in
      omega (arith, some, equal, z)
