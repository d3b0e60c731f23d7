-- The net of a standing set, read off its agents and the links by ids.
use Rattle.std.proofs.Common.{◌≡◌, ◌≢◌, ℕ, zero, suc, ◌+◌, ◌<◌, ◌≤◌, Bool, true, false, List, [], ◌∷◌, ◌++◌, length, ◌⊎◌, inl, inr, Option, Some, None, eqb, refl, sym, ap, arith, subst, ◌∙◌}
use Rattle.std.specs.Prelude.{if◌then◌else◌, option_map, leb, Result, Ok, Err, IfOk}
use Rattle.std.specs.Cmp.{nat_cmp_is}
use Rattle.std.specs.Ordering.{nat_cmp}
use Rattle.std.specs.declared.cmp.Ordering.TheVariants.{Less}
use Rattle.std.proofs.lemmas.Cmp.{ranked}
use Rattle.std.proofs.lemmas.List.{length-append}
use Rattle.std.proofs.lemmas.Bool.{ne_eqb, eqb-true, eqb-false, leb-true}
use Rattle.std.proofs.lemmas.Option.{same_Some, slice_get_past}
use Rattle.ic_name.specs.Names.{Name}
use Rattle.ic_name.specs.Kinds.{arity}
use Rattle.ic_name.specs.Same.{same_name}
use Rattle.ic_name.proofs.SameFacts.{same_name_true, same_name_self}
use Rattle.ic_name.specs.declared.ids.AgentId.{AgentId}
use Rattle.ic_name.specs.declared.ids.Link.{Link}
use Rattle.ic_name.specs.declared.ids.LinkId.{LinkId}
use Rattle.ic_name.specs.declared.ids.Spot.{Spot}
use Rattle.ic_name.specs.declared.ids.Spot.TheVariants as spot
use Rattle.ic_name.specs.declared.kinds.Kind.{Kind}
use Rattle.ic_name.specs.declared.kinds.Kind.TheVariants.{Gamma, Delta, Eps}
use Rattle.ic_name.specs.declared.ports.Port.{Port}
use Rattle.ic_name.specs.declared.ports.Port.TheVariants as port
use Rattle.ic_path.specs.FarEnds.{far as far_of}
use Rattle.ic_path.specs.Links.{degree}
use Rattle.ic_path.specs.Orders.{IsIn}
use Rattle.ic_path.specs.Rings.{rings}
use Rattle.ic_path.proofs.Alikes.{alike-in}
use Rattle.ic_path.proofs.Orders.{degree-alike}
use Rattle.ic_path.proofs.Picks.{none_in, in_first, pick_before, in-cons_cases}
use Rattle.ic_link.specs.Links.{shape, IsFar, Joins}
use Rattle.ic_link.specs.declared.store.Far.{Far}
use Rattle.ic_link.specs.declared.store.Far.TheVariants as far
use Rattle.ic_theory.specs.Born.{born_links}
use Rattle.ic_theory.specs.Listed.{NetAgent as Listed, agent_among, free_among, shown}
use Rattle.ic_theory.specs.Nets.{IsSameNet, has_port, kind_of}
use Rattle.ic_theory.specs.Sets.{links, consumed_times}
use Rattle.ic_theory.specs.Starts.{start_links, net_shape}
use Rattle.ic_theory.specs.Wires.{IsLoose}
use Rattle.ic_theory.proofs.Counts.{free_degree}
use Rattle.ic_theory.proofs.Future.{made_alike}
use Rattle.ic_theory.proofs.Loose.{loose_degree}
use Rattle.ic_theory.proofs.NameKinds.{kind_parts}
use Rattle.ic_theory.proofs.Ranks.{sound_order}
use Rattle.ic_cause.specs.Naming.{port_of}
use Rattle.ic_cause.proofs.ByPorts.{trail_held}
use Rattle.ic_path.proofs.InLists.{in-map, in_behind, in-append_cases}
use Rattle.ic_cause.proofs.FarSpots.{loose-alike, sound_partner}
use Rattle.ic_cause.proofs.OnePort.{HasSpot}
use Rattle.ic_cause.proofs.SameEnds.{degree_is, rings_are}
use Rattle.ic_net.specs.Makings.{NetParts, IsLastName, IsLastNumber, listed_parts}
use Rattle.ic_net.proofs.Makings.{found_last, found_last_free, parts_show}
use Rattle.ic_roster.specs.Rosters.{Member, AreByName}
use Rattle.ic_set.specs.Reading.{net_in, IsPortAt, IsLiving, ArePartners, AreNetAgents, AreNetFrees, IsPut}
use Rattle.ic_set.specs.Sets.{IsStandingSet, IsKept}
use Rattle.ic_set.specs.Views.{SetView, NamedView, standing}
use Rattle.ic_set.proofs.ConsumedAgents.{kind_there, member_of}
use Rattle.ic_set.proofs.LastNames.{ComeFrom}
use Rattle.ic_set.proofs.Namings.{same_member}

-- what holds of a result without error, where it gives another fact
pub if_ok : {X E : Type 0} {P Q : X → Type 0} (r : Result X E) → IfOk r P → ((x : X) → P x → Q x) → IfOk r Q
if_ok (Ok x) h f = f x h
if_ok (Err e) h f = tt

-- ends at two spots are equal only where the spots are
pub end_spot : {p q : Spot} → ◌≡◌ {A = Far} (far.End p) (far.End q) → p ≡ q
end_spot e = cc

-- where a spot's path leads to, whose port is its partner
abbrev pub LeadsTo : SetView → Port → Spot → Type 0
LeadsTo v x q = ((p : Port) × IsPortAt v q p) × ((p : Port) → IsPortAt v q p → (net_in v).partner x ≡ Some p)

-- what a path from a name's spot says of its partner
abbrev pub IsNameFar : SetView → ℕ → Far → Type 0
IsNameFar v j (far.End q) = LeadsTo v (port.Name j) q
IsNameFar v j far.Bare = None ≡ (net_in v).partner (port.Name j)
IsNameFar v j far.Joint = None ≡ (net_in v).partner (port.Name j)

module _ (v : SetView) (set : IsStandingSet v) where
  -- one link ends at a loose port
  pub one_end : (p : Port) → IsLoose v.start (standing v) p → degree net_shape (links v.start (standing v)) p ≡ 1
  one_end p loose =
      let o = sound_order v.start set.proper (standing v) set.sound in
      degree-alike net_shape (made_alike (born_links v.start.profile) (start_links v.start) o.1) p
      ∙ loose_degree v.start set.proper o.0 o.2 p (loose-alike v.start p o.1 loose)

  -- an agent that isn't consumed has its kind
  pub living_kind : (a : AgentId) (n : Name) (k : Kind) → IsLiving v a n k → kind_of v.start (standing v) n ≡ Some k
  living_kind a n k living = sym (kind_there v set (record { id = a; name = n; kind = k }) n living.0 refl living.1)

  -- a name that doesn't occur once has no partner
  no_partner : (j : ℕ) → degree net_shape (links v.start (standing v)) (port.Name j) ≢ 1 → None ≡ (net_in v).partner (port.Name j)
  no_partner j n = rw (ne_eqb (degree net_shape (links v.start (standing v)) (port.Name j)) 1 n) refl

  -- nor has a number past the names
  past_names : (j : ℕ) → length v.start.names ≤ j → None ≡ (net_in v).partner (port.Name j)
  past_names j past = no_partner j (λ one. (let d = free_degree v.start set.proper (standing v) j in let z = set.proper.no_others j past in omega (arith, one, d, z)))

  -- past the ports of an agent nothing is
  past_ports : (n : Name) (k : Kind) (i : ℕ) → kind_of v.start (standing v) n ≡ Some k → arity k < i → None ≡ (net_in v).partner (port.Of n i)
  past_ports n k i kind past = by (leb i (arity k)) refl
    where
      by : (t : Bool) → leb i (arity k) ≡ t → None ≡ (net_in v).partner (port.Of n i)
      by true t = let few = leb-true i (arity k) t in absurd (omega (arith, few, past))
      by false t = sym (ap (λ (o : Option Kind). if has_port o i then Some (far_of net_shape (links v.start (standing v)) (port.Of n i)) else None) kind ∙ ap (λ (b : Bool). if b then Some (far_of net_shape (links v.start (standing v)) (port.Of n i)) else None) t)

  -- agents of two arms
  pub two_arms : (k : Kind) → (k ≡ Gamma) ⊎ (k ≡ Delta) → arity k ≡ 2
  two_arms k (inl e) = ap arity e
  two_arms k (inr e) = ap arity e

  -- the partner of an epsilon's port
  pub one_partner : (n : Name) (p : Port) → kind_of v.start (standing v) n ≡ Some Eps → (net_in v).partner (port.Of n 0) ≡ Some p → ArePartners v n (p ∷ [])
  one_partner n p kind first zero = sym first
  one_partner n p kind first (suc i) = slice_get_past (p ∷ []) (suc i) (omega arith) ∙ past_ports n Eps (suc i) kind (omega arith)

  -- the partners of the ports of an agent of two arms
  pub three_partners : (n : Name) (k : Kind) (p q r : Port) → arity k ≡ 2 → kind_of v.start (standing v) n ≡ Some k
      → (net_in v).partner (port.Of n 0) ≡ Some p → (net_in v).partner (port.Of n 1) ≡ Some q → (net_in v).partner (port.Of n 2) ≡ Some r → ArePartners v n (p ∷ q ∷ r ∷ [])
  three_partners n k p q r two kind first second third zero = sym first
  three_partners n k p q r two kind first second third (suc zero) = sym second
  three_partners n k p q r two kind first second third (suc (suc zero)) = sym third
  three_partners n k p q r two kind first second third (suc (suc (suc i))) = slice_get_past (p ∷ q ∷ r ∷ []) (suc (suc (suc i))) (omega arith) ∙ past_ports n k (suc (suc (suc i))) kind (omega (arith, two))

module _ (v : SetView) (ls : List Link) (k : IsKept v ls) where
  -- a spot that is held stands for a port
  port_there : (q : Spot) → HasSpot k.naming q → IsPortAt v q (port_of k.naming q)
  port_there (spot.Agent a i) h =
      let n = k.named.no_other_agents a h in
      (n.0, n.1, n.2, ap (λ x. port.Of x i) (ap k.naming.agent (sym n.2) ∙ (k.named.agents n.0 n.1).1))
  port_there (spot.Name j) h = refl

  -- and for no other
  pub only_port : (q : Spot) (p : Port) → IsPortAt v q p → port_of k.naming q ≡ p
  only_port (spot.Agent a i) p (m, there, s, e) = ap (λ x. port.Of x i) (ap k.naming.agent (sym s) ∙ (k.named.agents m there).1) ∙ sym e
  only_port (spot.Name j) p e = sym e

  -- where the path from a loose port's spot leads
  pub path_to : (p q : Spot) (ids : List LinkId) → HasSpot k.naming p → IsLoose v.start (standing v) (port_of k.naming p) → Joins ls p ids q → LeadsTo v (port_of k.naming p) q
  path_to p q ids held loose t =
      let its = sound_partner k.naming v.start (standing v) ls p q ids k.set.proper k.set.sound k.shows held loose t in
      let there = (trail_held k.naming k.shows.held held t.trail).0 in
      ((port_of k.naming q, port_there q there), λ x at. its ∙ ap Some (only_port q x at))

  -- there is one
  pub loose_far : (p : Spot) (f : Far) → HasSpot k.naming p → IsLoose v.start (standing v) (port_of k.naming p) → IsFar ls p f → (q : Spot) × (f ≡ far.End q) × LeadsTo v (port_of k.naming p) q
  loose_far p f held loose is = by f is
    where
      one : degree shape ls p ≡ 1
      one = degree_is k.naming v.start (standing v) ls k.shows p held ∙ one_end v k.set (port_of k.naming p) loose

      by : (f : Far) → IsFar ls p f → (q : Spot) × (f ≡ far.End q) × LeadsTo v (port_of k.naming p) q
      by far.Bare z = absurd (omega (arith, one, z))
      by far.Joint z = absurd (omega (arith, one, z))
      by (far.End q) (d, ids, t) = (q, refl, path_to p q ids held loose t)

  -- so it is with the names
  pub name_far : (j : ℕ) (f : Far) → IsFar ls (spot.Name j) f → IsNameFar v j f
  name_far j f is = by f is
    where
      same : degree shape ls (spot.Name j) ≡ degree net_shape (links v.start (standing v)) (port.Name j)
      same = degree_is k.naming v.start (standing v) ls k.shows (spot.Name j) refl

      by : (f : Far) → IsFar ls (spot.Name j) f → IsNameFar v j f
      by far.Bare z = no_partner v k.set j (λ one. omega (arith, one, same, z))
      by far.Joint z = no_partner v k.set j (λ one. omega (arith, one, same, z))
      by (far.End q) (d, ids, t) = path_to (spot.Name j) q ids refl (sym same ∙ d) t

  -- what is read there leads to the partner
  pub name_leads : (j : ℕ) (f : Far) → IsFar ls (spot.Name j) f → (q : Spot) → f ≡ far.End q → LeadsTo v (port.Name j) q
  name_leads j f is q e = subst (IsNameFar v j) e (name_far j f is)

  -- and where nothing is, there is none
  pub name_none : (j : ℕ) (f : Far) → IsFar ls (spot.Name j) f → ((q : Spot) → f ≡ far.End q → ⊥) → None ≡ (net_in v).partner (port.Name j)
  name_none j f is empty = by f empty (name_far j f is)
    where
      by : (f : Far) → ((q : Spot) → f ≡ far.End q → ⊥) → IsNameFar v j f → None ≡ (net_in v).partner (port.Name j)
      by far.Bare empty h = h
      by far.Joint empty h = h
      by (far.End q) empty h = absurd (empty q refl)

  -- parts with what is read of the set show its net
  pub parts_read : (p : NetParts) (number : ℕ) → AreNetAgents v p.agents → AreNetFrees v p.frees → number ≡ rings shape ls → p.profile ≡ v.start.profile → IsSameNet (shown (listed_parts p number)) (net_in v)
  parts_read p number its free ring profile = parts_show p number v.start (standing v) its.kinds its.partners free (ring ∙ rings_are k.naming v.start (standing v) ls k.shows k.set.proper k.set.sound) profile

-- so it is with the set as it is seen
pub net_read : (now inside : NamedView) → inside ≡ now → (ls : List Link) → IsKept inside.set ls → (p : NetParts) (number : ℕ) (as' : List Listed) → p.agents ≡ as'
    → AreNetAgents now.set as' → AreNetFrees now.set p.frees → number ≡ rings shape ls → p.profile ≡ inside.set.start.profile → IsSameNet (shown (listed_parts p number)) (net_in now.set)
net_read now inside same ls k p number as' e its free ring profile =
    subst (λ (w : NamedView). IsSameNet (shown (listed_parts p number)) (net_in w.set)) same
    (parts_read inside.set ls k p number
    (subst (λ (w : NamedView). AreNetAgents w.set p.agents) (sym same) (subst (AreNetAgents now.set) (sym e) its))
    (subst (λ (w : NamedView). AreNetFrees w.set p.frees) (sym same) free) ring profile)

-- what is equal to nothing else is nothing
pub none_unless : {X : Type 0} (o : Option X) → ((x : X) → o ≡ Some x → ⊥) → None ≡ o
none_unless None h = refl
none_unless (Some x) h = absurd (h x refl)

-- the agents that came so far, of those under these ids
pub record HaveCome (v : SetView) (ids : List AgentId) (as' : List Listed) : Type 0 where
  pub only : (n : Name) (a : Listed) → agent_among n as' ≡ Some a → (kind_of v.start (standing v) n ≡ Some a.kind) × ArePartners v n a.partners
  pub each : (m : Member) → IsIn m v.agents → IsIn m.id ids → consumed_times m.name (standing v) ≡ 0 → agent_among m.name as' ≢ None
  pub from : ComeFrom v ids as'

-- none at first
pub none_come : (v : SetView) → HaveCome v [] []
none_come v = record { only = λ n a e. absurd cc; each = λ m i j z e. none_in j; from = λ a i. absurd (none_in i) }

-- the only member of a list
in_one : {X : Type 0} {x y : X} → IsIn x (y ∷ []) → x ≡ y
in_one i = elim (in-cons_cases i) [ inl q ↦ q | inr j ↦ absurd (none_in j) ]

-- a member whose id is among these is one of those with one id more
more_ids : (v : SetView) {ids : List AgentId} {n : Name} (id : AgentId) → ((m : Member) × IsIn m v.agents × IsIn m.id ids × (m.name ≡ n)) → (m : Member) × IsIn m v.agents × IsIn m.id (ids ++ id ∷ []) × (m.name ≡ n)
more_ids v id (m, there, (rest, pick), named) = (m, there, (rest ++ id ∷ [], pick_before (id ∷ []) pick), named)

module _ (v : SetView) (set : IsStandingSet v) where
  -- one id more
  pub one_more : (ids : List AgentId) (id : AgentId) (old new : List Listed) → ((n : Name) (k : Kind) → IsLiving v id n k → IsLastName n old) → HaveCome v ids old → IsPut v id old new → HaveCome v (ids ++ id ∷ []) new
  one_more ids id old new last h (inl (empty, e)) = subst (HaveCome v (ids ++ id ∷ [])) (sym e) (record {
    only = h.only;
    each = λ m i j z. elim (in-append_cases ids j) [ inl p ↦ h.each m i p z | inr q ↦ (let s : m.id ≡ id = in_one q in absurd (empty m.name m.kind (subst (λ d. IsIn (record { id = d; name = m.name; kind = m.kind }) v.agents) s i, z))) ];
    from = λ b i. more_ids v id (h.from b i);
  })
  one_more ids id old new last h (inr (a, living, ps, e)) = subst (HaveCome v (ids ++ id ∷ [])) (sym e) (record {
    only = λ n b f. only n b (same_name n a.name) refl (sym (found_last n a old (last a.name a.kind living)) ∙ f);
    each = λ m i j z f. each m i z (in-append_cases ids j) (same_name m.name a.name) refl (sym (found_last m.name a old (last a.name a.kind living)) ∙ f);
    from = λ b i. elim (in-append_cases old i) [ inl p ↦ more_ids v id (h.from b p) | inr q ↦ (record { id = id; name = a.name; kind = a.kind }, living.0, in_behind ids (in_first id []), ap (λ (x : Listed). x.name) (sym (in_one q))) ];
  })
    where
      only : (n : Name) (b : Listed) (t : Bool) → same_name n a.name ≡ t → (if t then Some a else agent_among n old) ≡ Some b → (kind_of v.start (standing v) n ≡ Some b.kind) × ArePartners v n b.partners
      only n b true t f =
          let s : n ≡ a.name = same_name_true n a.name t in
          let r : a ≡ b = same_Some a b f in
          subst (λ (x : Listed). (kind_of v.start (standing v) n ≡ Some x.kind) × ArePartners v n x.partners) r
          (subst (λ (x : Name). (kind_of v.start (standing v) x ≡ Some a.kind) × ArePartners v x a.partners) (sym s) (living_kind v set id a.name a.kind living, ps))
      only n b false t f = h.only n b f

      each : (m : Member) → IsIn m v.agents → consumed_times m.name (standing v) ≡ 0 → IsIn m.id ids ⊎ IsIn m.id (id ∷ []) → (t : Bool) → same_name m.name a.name ≡ t → (if t then Some a else agent_among m.name old) ≡ None → ⊥
      each m i z c true t f = cc
      each m i z (inl p) false t f = h.each m i p z f
      each m i z (inr q) false t f =
          let s : m.id ≡ id = in_one q in
          let x : Member = record { id = id; name = a.name; kind = a.kind } in
          let same : m ≡ x = same_member v.agents m x set.own_names i living.0 (inl s) in
          let g : same_name m.name a.name ≡ true = ap (λ (y : Member). same_name y.name a.name) same ∙ same_name_self a.name in
          cc

  -- and all at last
  pub all_come : (ids : List AgentId) (as' : List Listed) → AreByName v.agents ids → HaveCome v ids as' → AreNetAgents v as'
  all_come ids as' all h = record { kinds = λ n. kinds n (agent_among n as') refl; partners = λ n a e. (h.only n a e).1 }
    where
      missing : (n : Name) → agent_among n as' ≡ None → (o : Option Kind) → kind_of v.start (standing v) n ≡ o → None ≡ o
      missing n e None q = refl
      missing n e (Some kind) q =
          let p = kind_parts v.start (standing v) n kind q in
          let m = member_of v set n kind p.0 in
          let there : IsIn m.0.id ids = subst (λ ds. IsIn m.0.id ds) all.named (in-map (λ (x : Member). x.id) (alike-in all.alike m.1)) in
          absurd (h.each m.0 m.1 there (ap (λ x. consumed_times x (standing v)) m.2 ∙ p.1) (ap (λ x. agent_among x as') m.2 ∙ e))

      kinds : (n : Name) (o : Option Listed) → agent_among n as' ≡ o → option_map (λ (a : Listed). a.kind) o ≡ kind_of v.start (standing v) n
      kinds n (Some a) e = sym (h.only n a e).0
      kinds n None e = missing n e (kind_of v.start (standing v) n) refl

-- what is less than a number is less than the next one, too
less_more : (j k : ℕ) → nat_cmp j k ≡ Less → nat_cmp j (k + 1) ≡ Less
less_more j k h = let l = ranked j k Less (sym h) in sym (nat_cmp_is j (k + 1) Less (omega (arith, l)))

below_next : (k : ℕ) → nat_cmp k (k + 1) ≡ Less
below_next k = sym (nat_cmp_is k (k + 1) Less (omega arith))

-- the free names below a number that came
pub record AreFreesTo (v : SetView) (k : ℕ) (fs : List (ℕ × Port)) : Type 0 where
  pub below : (j : ℕ) → j < k → free_among j fs ≡ (net_in v).partner (port.Name j)
  pub above : (j : ℕ) → k ≤ j → free_among j fs ≡ None
  pub last : IsLastNumber k fs
  pub few : length fs ≤ k

pub no_frees : (v : SetView) → AreFreesTo v 0 []
no_frees v = record { below = λ j h. absurd (omega (arith, h)); above = λ j h. refl; last = tt; few = omega arith }

-- a number that is greater than all is so still when it grows by one, and when it comes
last_still : (k : ℕ) (fs : List (ℕ × Port)) → IsLastNumber k fs → IsLastNumber (k + 1) fs
last_still k [] h = tt
last_still k (f ∷ fs) h = (less_more f.0 k h.0, last_still k fs h.1)

last_after : (k : ℕ) (p : Port) (fs : List (ℕ × Port)) → IsLastNumber k fs → IsLastNumber (k + 1) (fs ++ (k, p) ∷ [])
last_after k p [] h = (below_next k, tt)
last_after k p (f ∷ fs) h = (less_more f.0 k h.0, last_after k p fs h.1)

-- a number is below another one or not
below_or : (j k : ℕ) → (j < k) ⊎ (k ≤ j)
below_or zero zero = inr (omega arith)
below_or zero (suc k) = inl (omega arith)
below_or (suc j) zero = inr (omega arith)
below_or (suc j) (suc k) = elim (below_or j k) [ inl l ↦ inl (omega (arith, l)) | inr l ↦ inr (omega (arith, l)) ]

-- a number that isn't the last is below it
below_last : (j k : ℕ) → j < k + 1 → j ≢ k → j < k
below_last j k h n = elim (below_or j k) [ inl l ↦ l | inr e ↦ absurd (n (omega (arith, e, h))) ]

-- a name without a partner
pub free_passes : (v : SetView) (k : ℕ) (fs : List (ℕ × Port)) → AreFreesTo v k fs → None ≡ (net_in v).partner (port.Name k) → AreFreesTo v (k + 1) fs
free_passes v k fs h none = record {
  below = λ j l. at j l (eqb j k) refl;
  above = λ j l. h.above j (omega (arith, l));
  last = last_still k fs h.last;
  few = (let f = h.few in omega (arith, f));
}
  where
    at : (j : ℕ) → j < k + 1 → (t : Bool) → eqb j k ≡ t → free_among j fs ≡ (net_in v).partner (port.Name j)
    at j l true t = let s : j ≡ k = eqb-true j k t in h.above j (omega (arith, s)) ∙ none ∙ ap (λ x. (net_in v).partner (port.Name x)) (sym s)
    at j l false t = h.below j (below_last j k l (eqb-false j k t))

-- a name with one
pub free_comes : (v : SetView) (k : ℕ) (p : Port) (fs : List (ℕ × Port)) → AreFreesTo v k fs → Some p ≡ (net_in v).partner (port.Name k) → AreFreesTo v (k + 1) (fs ++ (k, p) ∷ [])
free_comes v k p fs h some = record {
  below = λ j l. found_last_free j k p fs h.last ∙ at j l (eqb j k) refl;
  above = λ j l. found_last_free j k p fs h.last ∙ past j l (eqb j k) refl;
  last = last_after k p fs h.last;
  few = (let f = h.few in let g = length-append fs ((k, p) ∷ []) in omega (arith, f, g));
}
  where
    at : (j : ℕ) → j < k + 1 → (t : Bool) → eqb j k ≡ t → (if t then Some p else free_among j fs) ≡ (net_in v).partner (port.Name j)
    at j l true t = let s : j ≡ k = eqb-true j k t in some ∙ ap (λ x. (net_in v).partner (port.Name x)) (sym s)
    at j l false t = h.below j (below_last j k l (eqb-false j k t))

    past : (j : ℕ) → k + 1 ≤ j → (t : Bool) → eqb j k ≡ t → (if t then Some p else free_among j fs) ≡ None
    past j l true t = let s : j ≡ k = eqb-true j k t in absurd (omega (arith, s, l))
    past j l false t = h.above j (omega (arith, l))

-- all at last
pub all_frees : (v : SetView) → IsStandingSet v → (k : ℕ) (fs : List (ℕ × Port)) → length v.start.names ≤ k → AreFreesTo v k fs → AreNetFrees v fs
all_frees v set k fs past h j = by (below_or j k)
  where
    by : (j < k) ⊎ (k ≤ j) → free_among j fs ≡ (net_in v).partner (port.Name j)
    by (inl l) = h.below j l
    by (inr l) = h.above j l ∙ past_names v set j (omega (arith, past, l))
