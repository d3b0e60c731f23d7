-- A plain step, case by case, of the net of a set is the net of the set with the event.
use Rattle.std.proofs.Common.{◌≡◌, ℕ, suc, zero, ◌≤◌, Bool, true, false, List, [], ◌∷◌, refl, sym, arith, ◌∙◌, Some, None}
use Rattle.std.specs.Prelude.{if◌then◌else◌, leb, is_some, unwrap_or}
use Rattle.std.proofs.Math.Bool.{and-false}
use Rattle.std.proofs.lemmas.Bool.{leb-true}
use Rattle.ic_name.specs.Kinds.{arity}
use Rattle.ic_name.specs.Events.{Event}
use Rattle.ic_name.specs.Same.{same_name}
use Rattle.ic_name.specs.declared.kinds.Kind.{Kind}
use Rattle.ic_name.specs.declared.rules.RuleEnd.{RuleEnd}
use Rattle.ic_name.specs.declared.ports.Port.{Port}
use Rattle.ic_name.specs.declared.ports.Port.TheVariants.{Of}
use Rattle.ic_name.specs.declared.ports.Port.TheVariants as port
use Rattle.ic_path.specs.FarEnds.{far}
use Rattle.ic_path.specs.Rings.{rings}
use Rattle.ic_theory.specs.Rules.{born_ends}
use Rattle.ic_theory.specs.Born.{born_agents}
use Rattle.ic_theory.specs.Starts.{Start, start_agents, net_shape, port_times, IsProper}
use Rattle.ic_theory.specs.Sets.{agents, links, consumed_times}
use Rattle.ic_theory.specs.Wires.{IsLoose}
use Rattle.ic_theory.specs.Active.{IsActive}
use Rattle.ic_theory.specs.Firings.{IsFired, fired}
use Rattle.ic_theory.specs.Nets.{IsSameNet, is_loose, net_of}
use Rattle.ic_theory.specs.Steps.{Wiring, without_pair, take_links, kind_after, plain_step}
use Rattle.ic_theory.proofs.Counts.{rule_ports, free_degree}
use Rattle.ic_theory.proofs.Exact.{is_auxiliary}
use Rattle.ic_theory.proofs.Future.{named_in, in_included, includes_more, includes_self}
use Rattle.ic_theory.proofs.NameKinds.{consumed_there}
use Rattle.ic_theory.proofs.Loose.{partner_is, has_partner, no_partner, partners_back, port_owner}
use Rattle.ic_theory.proofs.Splices.{Ends, join_all, spliced_step}
use Rattle.ic_theory.proofs.Wirings.{read, read_gone, read_bare, read_far}
use Rattle.ic_theory.proofs.Cases.{Tracks, gone, end_times, take_all, bare_all, begins}
use Rattle.ic_theory.proofs.PairPorts.{is_of_pair, Whose, leads, others, neither, whose, meet, lead_gone, other_gone, only_principal, pair_loose, loose_pair, lead_port, other_port, once, fits, ends_name, ends_lead, ends_other, ends_neither, pair_lead, pair_other, named_once}
use Rattle.ic_theory.proofs.Steps.{step_is}
use Rattle.ic_path.proofs.Picks.{pick_before}

module _ (s : Start) (ok : IsProper s) (e : Event) (es : List Event) (f : IsFired s es) (a : IsActive s es e) where
  -- the rule's links
  abbrev links_made : List (RuleEnd × RuleEnd)
  links_made = born_ends s.profile e.lead_kind e.other_kind

  -- the partners once the pair's wire is taken away
  abbrev before : Wiring
  before = record { partner = without_pair e (net_of s es).partner; rings = rings net_shape (links s es) }

  -- the far ends that the partners say
  abbrev ends : Ends
  ends = record { far = λ p. unwrap_or ((net_of s es).partner p) p; rings = rings net_shape (links s es) }

  -- a port that has a partner before, and is an end of a new link, is the pair's
  found_of_pair : (x q : Port) → (net_of s es).partner x ≡ Some q → 1 ≤ end_times x (rule_ports e links_made) → is_of_pair e x ≡ true
  found_of_pair x q h t = go (is_of_pair e x) refl
    where
      go : (b : Bool) → is_of_pair e x ≡ b → is_of_pair e x ≡ true
      go true p = p
      go false p = let z = loose_pair s ok e es f a x (has_partner s ok es f x q h).0 p in absurd (omega arith)

  -- before the first link the wiring says what the far ends say
  begun : Tracks (is_of_pair e) (rule_ports e links_made) before ends
  begun = begins (net_of s es).partner (λ p q h. partners_back s ok es f p q h) (Of e.lead 0) (Of e.other 0) (meet s ok e es f a) (is_of_pair e) (rule_ports e links_made) (rings net_shape (links s es))
      (lead_gone s ok e es f a) (other_gone s ok e es f a) (only_principal s ok e es f a) found_of_pair (λ x p. let l = pair_loose s ok e es f a x p in (far net_shape (links s es) x, partner_is s ok es f x l))

  -- and after the last one
  tracked : Tracks (is_of_pair e) [] (take_links e links_made before) (join_all ends (rule_ports e links_made))
  tracked = take_all (is_of_pair e) e links_made before ends begun (once s ok e es f a) (fits s ok e es f a)

  -- the splices give the net of the set with the event
  spliced : IsSameNet (spliced_step (net_of s es) e) (net_of s (e ∷ es))
  spliced = step_is s ok e es f a

  -- which is a firing
  after : IsFired s (e ∷ es)
  after = fired f a

  -- a port that is loose after the event isn't the pair's
  still_loose : (x : Port) → IsLoose s (e ∷ es) x → is_of_pair e x ≡ false
  still_loose (port.Name j) l = refl
  still_loose (Of n i) l = go (same_name n e.lead) (same_name n e.other) refl refl
    where
      go : (x y : Bool) → same_name n e.lead ≡ x → same_name n e.other ≡ y → is_of_pair e (Of n i) ≡ false
      go true y p q = let z = l.3 in let z' = rw p at z in absurd (omega (arith, z'))
      go false true p q = let z = l.3 in let z' = rw (p, q) at z in absurd (omega (arith, z'))
      go false false p q = rw (p, q) refl

  -- a port that is not loose after the event, and isn't the pair's, was bare before it and is no end of a new link
  was_bare : (x : Port) → (IsLoose s (e ∷ es) x → ⊥) → is_of_pair e x ≡ false → (IsLoose s es x → ⊥) × (end_times x (rule_ports e links_made) ≡ 0)
  was_bare (port.Name j) n p = (λ l. n (free_degree s ok (e ∷ es) j ∙ (sym (free_degree s ok es j) ∙ l)), ends_name s ok e es f a j)
  was_bare (Of m i) n p = (not_before, no_ends (whose s ok e es f a m))
    where
      not_before : IsLoose s es (Of m i) → ⊥
      not_before l = go (whose s ok e es f a m)
        where
          go : Whose s ok e es f a m → ⊥
          go (leads j) = let z : true ≡ false = sym (lead_port s ok e es f a m i l j) ∙ p in cc
          go (others j) = let z : true ≡ false = sym (other_port s ok e es f a m i l j) ∙ p in cc
          go (neither x y) = n (l.0, in_included born_agents (start_agents s) (includes_more e (includes_self es)) l.1, l.2, rw (x, y) (let z = l.3 in omega arith))

      no_port : (k : Kind) → leb i (arity k) ≡ false → ◌≡◌ {A = ℕ} (if is_auxiliary i k then 1 else 0) 0
      no_port k h = rw (h, and-false (leb 1 i)) refl

      no_ends : Whose s ok e es f a m → end_times (Of m i) (rule_ports e links_made) ≡ 0
      no_ends (leads j) = let p' : is_of_pair e (Of e.lead i) ≡ false = rw j at p in rw j (ends_lead s ok e es f a i ∙ no_port e.lead_kind (sym (pair_lead s ok e es f a i) ∙ p'))
      no_ends (others j) = let p' : is_of_pair e (Of e.other i) ≡ false = rw j at p in rw j (ends_other s ok e es f a i ∙ no_port e.other_kind (sym (pair_other s ok e es f a i) ∙ p'))
      no_ends (neither x y) = go (port_times m i (born_agents e)) refl
        where
          go : (d : ℕ) → port_times m i (born_agents e) ≡ d → end_times (Of m i) (rule_ports e links_made) ≡ 0
          go zero h = ends_neither s ok e es f a m i x y ∙ h
          go (suc d) h =
              let w = port_owner m i (born_agents e) (omega arith) in
              let o = named_once s ok e es f a m in
              let t = named_in m refl w.1.1 in
              let c = consumed_there s es f m in
              let z : consumed_times m (e ∷ es) ≡ 0 = rw (x, y) (omega arith) in
              absurd (n (w.0, (_, pick_before (agents s es) w.1.1), leb-true i (arity w.0) w.2, z))

  -- the partners after the step are those of the set with the event
  partners_after : (x : Port) → (take_links e links_made before).partner x ≡ (net_of s (e ∷ es)).partner x
  partners_after x = tracked.partners x ∙ go (is_loose (kind_after (net_of s es).kind e) (λ j. is_some ((net_of s es).partner (port.Name j))) x) (spliced.partners x)
    where
      gone_is : (b : Bool) → is_of_pair e x ≡ b → gone (is_of_pair e) [] x ≡ b
      gone_is true p = rw p refl
      gone_is false p = rw p refl

      no_wire : None ≡ (net_of s (e ∷ es)).partner x → IsLoose s (e ∷ es) x → ⊥
      no_wire h l = let k = partner_is s ok (e ∷ es) after x l in let z : None ≡ Some (far net_shape (links s (e ∷ es)) x) = h ∙ k in cc

      alone : (b : Bool) → is_of_pair e x ≡ b → None ≡ (net_of s (e ∷ es)).partner x → read (gone (is_of_pair e) []) (join_all ends (rule_ports e links_made)).far x ≡ None
      alone true p h = read_gone (gone (is_of_pair e) []) (join_all ends (rule_ports e links_made)).far x (gone_is true p)
      alone false p h =
          let w = was_bare x (no_wire h) p in
          let start : (net_of s es).partner x ≡ None = no_partner s ok es f x w.0 in
          let b : ends.far x ≡ x = rw start refl in
          read_bare (gone (is_of_pair e) []) (join_all ends (rule_ports e links_made)).far x (bare_all (is_of_pair e) e links_made before ends begun (once s ok e es f a) (fits s ok e es f a) x p w.1 b)

      go : (b : Bool) → (if b then Some ((join_all ends (rule_ports e links_made)).far x) else None) ≡ (net_of s (e ∷ es)).partner x
          → read (gone (is_of_pair e) []) (join_all ends (rule_ports e links_made)).far x ≡ (net_of s (e ∷ es)).partner x
      go true h =
          let n = partners_back s ok (e ∷ es) after x ((join_all ends (rule_ports e links_made)).far x) (sym h) in
          let l = has_partner s ok (e ∷ es) after x ((join_all ends (rule_ports e links_made)).far x) (sym h) in
          read_far (gone (is_of_pair e) []) (join_all ends (rule_ports e links_made)).far x ((join_all ends (rule_ports e links_made)).far x) (gone_is false (still_loose x l.0)) refl (λ i. n.0 (sym i)) ∙ h
      go false h = alone (is_of_pair e x) refl h ∙ h

  -- the net of a set with an active event more is the net of the set, stepped case by case
  pub plain_step_is : IsSameNet (plain_step (net_of s es) e) (net_of s (e ∷ es))
  plain_step_is = record { kinds = spliced.kinds; partners = partners_after; rings = tracked.rings ∙ spliced.rings; profile = refl }
