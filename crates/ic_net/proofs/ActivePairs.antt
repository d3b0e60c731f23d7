-- The active pairs of a listing are those of the net that it shows.
use Rattle.std.proofs.Common.{◌≡◌, Bool, true, false, List, [], ◌∷◌, map, refl, sym, ap, ◌∙◌, eqb, Option, Some, None, inl, inr, subst}
use Rattle.std.proofs.lemmas.Bool.{eqb-true}
use Rattle.std.proofs.lemmas.Map.Keys.{sorted_head, sorted_tail}
use Rattle.std.specs.List.{AllByRecursion, filter_map, cons_option}
use Rattle.std.specs.List.Sorted.{IsStrictlySortedBy}
use Rattle.std.specs.declared.cmp.Ordering.{Ordering}
use Rattle.std.specs.declared.cmp.Ordering.TheVariants.{Less, Equal, Greater}
use Rattle.std.specs.Ordering.{is_lt}
use Rattle.std.specs.Prelude.{if◌then◌else◌, slice_get, ◌⊎◌, ◌↔◌}
use Rattle.ic_name.specs.Names.{Name, name_cmp}
use Rattle.ic_name.specs.Same.{same_name}
use Rattle.ic_name.proofs.SameFacts.{same_name_true, same_name_self}
use Rattle.ic_name.specs.Events.{Event}
use Rattle.ic_name.specs.declared.ports.Port.{Port}
use Rattle.ic_name.specs.declared.ports.Port.TheVariants as ports
use Rattle.ic_path.specs.Orders.{IsIn}
use Rattle.ic_path.proofs.Picks.{none_in, in_first, in_more, in-cons_cases}
use Rattle.ic_theory.specs.Steps.{Meets}
use Rattle.ic_theory.specs.Listed.{NetAgent as Listed, ListedNet, IsListing, agent_among, partner_at, shown, led_pair, active_pairs}
use Rattle.ic_net.proofs.WholeTables.{not_above}
use Rattle.ic_net.specs.Nets.{pair_led_by}

less_true : (r : Ordering) → is_lt r ≡ true → r ≡ Less
less_true Less h = refl
less_true Equal h = cc
less_true Greater h = cc

abbrev two : Name → Name → Name × Name
two m n = (m, n)

-- an agent leads a pair where its principal port's partner is that of a greater agent
led_is : (n : Name) (o : Option Port) (a b : Name) → led_pair n o ≡ Some (a, b) → (a ≡ n) × (o ≡ Some (ports.Of b 0)) × (name_cmp n b ≡ Less)
led_is n None a b h = cc
led_is n (Some (ports.Name j)) a b h = cc
led_is n (Some (ports.Of m i)) a b h = go (eqb i 0) (is_lt (name_cmp n m)) refl refl h
  where
    go : (x y : Bool) → eqb i 0 ≡ x → is_lt (name_cmp n m) ≡ y → (if x then (if y then Some (two n m) else None) else None) ≡ Some (a, b) → (a ≡ n) × (Some (ports.Of m i) ≡ Some (ports.Of b 0)) × (name_cmp n b ≡ Less)
    go true true e f h =
        let z : i ≡ 0 = eqb-true i 0 e in
        let p : two n m ≡ two a b = cc in
        let s : a ≡ n = sym (ap (λ (x : Name × Name). x.0) p) in
        let t : m ≡ b = ap (λ (x : Name × Name). x.1) p in
        (s, (λ u. Some (ports.Of (t u) (z u))), subst (λ c. name_cmp n c ≡ Less) t (less_true (name_cmp n m) f))
    go true false e f h = cc
    go false y e f h = cc

led_makes : (n : Name) (o : Option Port) (b : Name) → o ≡ Some (ports.Of b 0) → name_cmp n b ≡ Less → led_pair n o ≡ Some (n, b)
led_makes n o b e h = rw (e, h) refl

-- the pairs of a list in order of names
pairs_of : (as' : List Listed) (a b : Name) → IsStrictlySortedBy name_cmp (map (λ (x : Listed). x.name) as')
    → IsIn (a, b) (filter_map pair_led_by as') ↔ ((partner_at 0 (agent_among a as') ≡ Some (ports.Of b 0)) × (name_cmp a b ≡ Less))
pairs_of [] a b s = (λ h. absurd (none_in h), λ h. let e = h.0 in cc)
pairs_of (x ∷ xs) a b s =
    go (same_name a x.name) refl (sorted_head name_cmp x.name (map (λ (y : Listed). y.name) xs) s) (pairs_of xs a b (sorted_tail name_cmp x.name (map (λ (y : Listed). y.name) xs) s))
  where
    -- what is among the pairs is the one in front or one behind
    among : (o : Option (Name × Name)) (rest : List (Name × Name)) → IsIn (a, b) (cons_option o rest) → (o ≡ Some (a, b)) ⊎ IsIn (a, b) rest
    among None rest h = inr h
    among (Some p) rest h = front (in-cons_cases h)
      where
        front : ((a, b) ≡ p) ⊎ IsIn (a, b) rest → (Some p ≡ Some (a, b)) ⊎ IsIn (a, b) rest
        front (inl e) = inl (ap Some (sym e))
        front (inr h) = inr h

    behind : (o : Option (Name × Name)) (rest : List (Name × Name)) → IsIn (a, b) rest → IsIn (a, b) (cons_option o rest)
    behind None rest h = h
    behind (Some p) rest h = in_more p h

    first : (o : Option (Name × Name)) (rest : List (Name × Name)) → o ≡ Some (a, b) → IsIn (a, b) (cons_option o rest)
    first o rest e = rw e (in_first (a, b) rest)

    go : (t : Bool) → same_name a x.name ≡ t → AllByRecursion (λ m. name_cmp x.name m ≡ Less) (map (λ (y : Listed). y.name) xs)
        → IsIn (a, b) (filter_map pair_led_by xs) ↔ ((partner_at 0 (agent_among a xs) ≡ Some (ports.Of b 0)) × (name_cmp a b ≡ Less))
        → IsIn (a, b) (filter_map pair_led_by (x ∷ xs)) ↔ ((partner_at 0 (if t then Some x else agent_among a xs) ≡ Some (ports.Of b 0)) × (name_cmp a b ≡ Less))
    go true e below ih =
        let here : a ≡ x.name = same_name_true a x.name e in
        let absent : agent_among a xs ≡ None = ap (λ n. agent_among n xs) here ∙ not_above x.name xs below in
        (λ h. forth here absent (among (pair_led_by x) (filter_map pair_led_by xs) h), λ h. first (pair_led_by x) (filter_map pair_led_by xs) (led_makes x.name (slice_get x.partners 0) b h.0 (subst (λ n. name_cmp n b ≡ Less) here h.1) ∙ ap (λ n. Some (n, b)) (sym here)))
      where
        forth : a ≡ x.name → agent_among a xs ≡ None → (pair_led_by x ≡ Some (a, b)) ⊎ IsIn (a, b) (filter_map pair_led_by xs) → (slice_get x.partners 0 ≡ Some (ports.Of b 0)) × (name_cmp a b ≡ Less)
        forth here absent (inl p) = let l = led_is x.name (slice_get x.partners 0) a b p in (l.1, subst (λ n. name_cmp n b ≡ Less) (sym here) l.2)
        forth here absent (inr h) = let p = ih.0 h in let q : None ≡ Some (ports.Of b 0) = sym (ap (partner_at 0) absent) ∙ p.0 in cc
    go false e below ih = (λ h. forth (among (pair_led_by x) (filter_map pair_led_by xs) h), λ h. behind (pair_led_by x) (filter_map pair_led_by xs) (ih.1 h))
      where
        forth : (pair_led_by x ≡ Some (a, b)) ⊎ IsIn (a, b) (filter_map pair_led_by xs) → (partner_at 0 (agent_among a xs) ≡ Some (ports.Of b 0)) × (name_cmp a b ≡ Less)
        forth (inl p) =
            let l = led_is x.name (slice_get x.partners 0) a b p in
            let s : same_name a x.name ≡ true = ap (λ n. same_name a n) (sym l.0) ∙ same_name_self a in
            let f : true ≡ false = sym s ∙ e in
            cc
        forth (inr h) = ih.0 h

-- leads stay in order
leads_above : (n : Name) (as' : List Listed) → AllByRecursion (λ m. name_cmp n m ≡ Less) (map (λ (a : Listed). a.name) as')
    → AllByRecursion (λ m. name_cmp n m ≡ Less) (map (λ (p : Name × Name). p.0) (filter_map pair_led_by as'))
leads_above n [] h = tt
leads_above n (x ∷ xs) h = go (pair_led_by x) (λ a b e. (led_is x.name (slice_get x.partners 0) a b e).0) (leads_above n xs h.1)
  where
    go : (o : Option (Name × Name)) → ((a b : Name) → o ≡ Some (a, b) → a ≡ x.name) → AllByRecursion (λ m. name_cmp n m ≡ Less) (map (λ (p : Name × Name). p.0) (filter_map pair_led_by xs))
        → AllByRecursion (λ m. name_cmp n m ≡ Less) (map (λ (p : Name × Name). p.0) (cons_option o (filter_map pair_led_by xs)))
    go None f ih = ih
    go (Some p) f ih = (rw (f p.0 p.1 refl) h.0, ih)

pub leads_in_order : (as' : List Listed) → IsStrictlySortedBy name_cmp (map (λ (a : Listed). a.name) as') → IsStrictlySortedBy name_cmp (map (λ (p : Name × Name). p.0) (filter_map pair_led_by as'))
unfolding IsStrictlySortedBy
leads_in_order [] s = tt
leads_in_order (x ∷ xs) s = go (pair_led_by x) (λ a b e. (led_is x.name (slice_get x.partners 0) a b e).0) (leads_in_order xs s.1)
  where
    go : (o : Option (Name × Name)) → ((a b : Name) → o ≡ Some (a, b) → a ≡ x.name) → IsStrictlySortedBy name_cmp (map (λ (p : Name × Name). p.0) (filter_map pair_led_by xs))
        → IsStrictlySortedBy name_cmp (map (λ (p : Name × Name). p.0) (cons_option o (filter_map pair_led_by xs)))
    go None f ih = ih
    go (Some p) f ih = (rw (f p.0 p.1 refl) (leads_above x.name xs s.0), ih)

-- a pair of the list is a pair of agents whose principal ports are partners
pub pairs_active : (l : ListedNet) (a b : Name) → IsListing l → IsIn (a, b) (active_pairs l) ↔ (((shown l).partner (ports.Of a 0) ≡ Some (ports.Of b 0)) × (name_cmp a b ≡ Less))
pairs_active l a b h = pairs_of l.agents a b h.in_order

-- so a step is defined where its pair is in the list, with the kinds of its agents
pub pairs_meet : (l : ListedNet) (e : Event) → IsListing l
    → Meets (shown l) e ↔ (IsIn (e.lead, e.other) (active_pairs l) × ((shown l).kind e.lead ≡ Some e.lead_kind) × ((shown l).kind e.other ≡ Some e.other_kind))
pairs_meet l e h =
    let p = pairs_active l e.lead e.other h in
    (λ m. (p.1 (m.partners, m.ordered), m.lead, m.other), λ q. let r = p.0 q.0 in record { lead = q.1; other = q.2; partners = r.0; ordered = r.1 })
