-- The active pairs of some agents, looked up agent by agent.
use Rattle.std.proofs.Common.{◌≡◌, ◌≢◌, ℕ, zero, suc, ◌+◌, ◌<◌, ◌≤◌, Bool, true, false, List, [], ◌∷◌, length, ◌⊎◌, inl, inr, Option, Some, None, IfSome, IfNone, refl, sym, ap, arith, subst, ◌∙◌}
use Rattle.std.specs.Prelude.{slice_index_or, slice_set, unwrap_or, eqb}
use Rattle.std.proofs.lemmas.Bool.{eqb-true, eqb-false}
use Rattle.std.proofs.lemmas.List.{get_or-set_same, get_or-set_other, length-set}
use Rattle.ic_name.specs.Events.{Event}
use Rattle.ic_name.specs.declared.ids.AgentId.{AgentId}
use Rattle.ic_name.specs.declared.kinds.Kind.{Kind}
use Rattle.ic_link.specs.declared.principals.Principals.{Principals}
use Rattle.ic_names.specs.Tables.{name_at}
use Rattle.ic_path.specs.Orders.{IsIn}
use Rattle.ic_roster.specs.Rosters.{Member, Stander, IsNewName}
use Rattle.ic_set.specs.declared.pairs.ActivePair.{ActivePair}
use Rattle.ic_set.specs.Pairs.{AreJoined, IsPairOf, IsActivePair, IsBetween, AreActiveJoins}
use Rattle.ic_set.specs.Queues.{Leads}
use Rattle.ic_set.specs.Sets.{IsStandingSet}
use Rattle.ic_set.specs.Views.{SetView, NamedView}
use Rattle.ic_set.proofs.ActivePairs.{one_id, one_name, joined_pair, joined_once, one_pair}
use Rattle.ic_link.proofs.InPlace.{in_at, place_of}
use Rattle.ic_set.proofs.LedPairs.{second_leads_none}
use Rattle.ic_set.proofs.Partners.{joined_back, joined_unled}
use Rattle.ic_set.proofs.QueuedLeads.{IsOf}

-- a list without length is empty
pub none_long : {X : Type 0} (xs : List X) → length xs ≡ 0 → xs ≡ []
none_long [] e = refl
none_long (x ∷ xs) e = absurd (omega (arith, e))

-- what is at a place is one
pub one_at : {X : Type 0} {o : Option X} {a b : X} → o ≡ Some a → o ≡ Some b → a ≡ b
one_at {b = b} e f = ap (λ o. unwrap_or o b) (sym e ∙ f)

-- of pairs that are active, the one at a place is
pub active_at : (v : SetView) (pairs : List (Option ActivePair)) (i : ℕ) (d : Option ActivePair) → i < length pairs → ((p : ActivePair) → IsIn (Some p) pairs → IsActivePair v p) → IfSome (slice_index_or pairs i d) (λ p. IsActivePair v p)
active_at v pairs i d below all = by (slice_index_or pairs i d) (in_at pairs i d below)
  where
    by : (o : Option ActivePair) → IsIn o pairs → IfSome o (λ p. IsActivePair v p)
    by None j = tt
    by (Some p) j = all p j

-- what an answer says of the pair that an agent leads
abbrev LedFound : SetView → Option AgentId → Option ActivePair → Type 0
LedFound v agent o = IfSome o (λ p. (Some p.lead ≡ agent) × IsActivePair v p)

abbrev LedAbsent : SetView → Option AgentId → Option ActivePair → Type 0
LedAbsent v agent o = IfNone o ((e : Event) (p : ActivePair) → Some p.lead ≡ agent → IsPairOf v e p → ⊥)

-- what an answer says of the pair between the agents of a join
abbrev pub BetweenFound : SetView → Option Principals → Option ActivePair → Type 0
BetweenFound v j o = IfSome o (λ p. IsActivePair v p × IsBetween j p)

abbrev pub BetweenAbsent : SetView → Option Principals → Option ActivePair → Type 0
BetweenAbsent v j o = IfNone o ((e : Event) (p : ActivePair) → IsPairOf v e p → IsBetween j p → ⊥)

-- the joins before this place were looked up, and what was found stands at their places
pub record Answered (v : SetView) (joins : List (Option Principals)) (place : ℕ) (pairs : List (Option ActivePair)) : Type 0 where
  pub long : length pairs ≡ length joins
  pub found : (i : ℕ) → i < place → BetweenFound v (slice_index_or joins i None) (slice_index_or pairs i None)
  pub absent : (i : ℕ) → i < place → BetweenAbsent v (slice_index_or joins i None) (slice_index_or pairs i None)
  pub behind : (i : ℕ) → place ≤ i → i < length joins → slice_index_or pairs i None ≡ None

-- none was yet
pub answered_none : (v : SetView) (joins : List (Option Principals)) → length joins ≡ 4 → Answered v joins 0 (None ∷ None ∷ None ∷ None ∷ [])
answered_none v joins four = record { long = sym four; found = λ i low. absurd (omega arith); absent = λ i low. absurd (omega arith); behind = λ i low few. none i (omega (arith, few, four)) }
  where
    nothing : List (Option ActivePair)
    nothing = None ∷ None ∷ None ∷ None ∷ []

    none : (i : ℕ) → i < 4 → slice_index_or nothing i None ≡ None
    none zero few = refl
    none (suc zero) few = refl
    none (suc (suc zero)) few = refl
    none (suc (suc (suc zero))) few = refl
    none (suc (suc (suc (suc i)))) few = absurd (omega arith)

-- what is before the next place is before this one, or at it
pub before_next : (i place : ℕ) → i < place + 1 → (i ≡ place) ⊎ ((i ≢ place) × (i < place))
before_next i place below = by (eqb i place) refl
  where
    by : (t : Bool) → eqb i place ≡ t → (i ≡ place) ⊎ ((i ≢ place) × (i < place))
    by true t = inl (eqb-true i place t)
    by false t = let other = eqb-false i place t in inr (other, omega (arith, other, below))

module _ (v : SetView) (joins : List (Option Principals)) (place : ℕ) (pairs : List (Option ActivePair)) (are : Answered v joins place pairs) (low : place < length joins) where
  -- what was found for a join
  abbrev Told : Option Principals → Option ActivePair → Type 0
  Told j o = BetweenFound v j o × BetweenAbsent v j o

  -- the same by its place
  abbrev Says : List (Option ActivePair) → ℕ → Type 0
  Says ps i = Told (slice_index_or joins i None) (slice_index_or ps i None)

  -- one more was looked up
  pub answered_more : (j : Principals) (o : Option ActivePair) → slice_index_or joins place None ≡ Some j → BetweenFound v (Some j) o → BetweenAbsent v (Some j) o → Answered v joins (place + 1) (slice_set pairs place o)
  answered_more j o is found absent = record {
    long = length-set pairs place o ∙ are.long;
    found = λ i below. (says i (before_next i place below)).0;
    absent = λ i below. (says i (before_next i place below)).1;
    behind = λ i above few. get_or-set_other pairs place i o None (λ e. omega (arith, e, above)) ∙ are.behind i (omega (arith, above)) few;
  }
    where
      here : Says (slice_set pairs place o) place
      here =
          let there : place < length pairs = let long = are.long in omega (arith, long, low) in
          subst (λ q. Told q (slice_index_or (slice_set pairs place o) place None)) (sym is) (subst (Told (Some j)) (sym (get_or-set_same pairs place o None there)) (found, absent))

      says : (i : ℕ) → (i ≡ place) ⊎ ((i ≢ place) × (i < place)) → Says (slice_set pairs place o) i
      says i (inl same) = subst (Says (slice_set pairs place o)) (sym same) here
      says i (inr other) = subst (Told (slice_index_or joins i None)) (sym (get_or-set_other pairs place i o None other.0)) (are.found i other.1, are.absent i other.1)

  -- one more is no join
  pub answered_still : slice_index_or joins place None ≡ None → Answered v joins (place + 1) pairs
  answered_still is = record {
    long = are.long;
    found = λ i below. (says i (before_next i place below)).0;
    absent = λ i below. (says i (before_next i place below)).1;
    behind = λ i above few. are.behind i (omega (arith, above)) few;
  }
    where
      -- nothing is between the agents of no join
      no_join : (p : ActivePair) → IsBetween None p → ⊥
      no_join p (inl e) = cc
      no_join p (inr e) = cc

      here : Says pairs place
      here = subst (λ q. Told q (slice_index_or pairs place None)) (sym is) (subst (Told None) (sym (are.behind place (omega arith) low)) (tt, λ e p h b. no_join p b))

      says : (i : ℕ) → (i ≡ place) ⊎ ((i ≢ place) × (i < place)) → Says pairs i
      says i (inl same) = subst (Says pairs) (sym same) here
      says i (inr other) = (are.found i other.1, are.absent i other.1)

-- the agents that a join has are the pair's
pub data HasBoth (j : Principals) (p : ActivePair) : Type 0 where
  forth : p.lead ≡ j.one → p.other ≡ j.other → HasBoth j p
  back : p.other ≡ j.one → p.lead ≡ j.other → HasBoth j p

pub has_both : (o : Option Principals) (j : Principals) (p : ActivePair) → o ≡ Some j → IsBetween o p → HasBoth j p
has_both o j p is (inl e) = let same = one_at {o = o} e is in forth (ap (λ (x : Principals). x.one) same) (ap (λ (x : Principals). x.other) same)
has_both o j p is (inr e) = let same = one_at {o = o} e is in back (ap (λ (x : Principals). x.one) same) (ap (λ (x : Principals). x.other) same)

module _ (v : SetView) (set : IsStandingSet v) where
  -- pairs of one agent are one
  pub one_pair_of : (e f : Event) (p q : ActivePair) → IsPairOf v e p → IsPairOf v f q → (a : AgentId) → IsOf p a → IsOf q a → p ≡ q
  one_pair_of e f p q h k a (inl s) (inl t) = (one_pair v set e f p q h k (s ∙ sym t)).1
  one_pair_of e f p q h k a (inl s) (inr t) = absurd (second_leads_none v set f e q p k h (t ∙ sym s))
  one_pair_of e f p q h k a (inr s) (inl t) = absurd (second_leads_none v set e f p q h k (s ∙ sym t))
  one_pair_of e f p q h k a (inr s) (inr t) =
      let back : AreJoined v p.other p.lead = joined_back v set (joined_pair v set e p h) in
      let back' : AreJoined v p.other q.lead = subst (λ x. AreJoined v x q.lead) (t ∙ sym s) (joined_back v set (joined_pair v set f q k)) in
      (one_pair v set e f p q h k (joined_once v set p.other p.lead q.lead back back')).1

  -- the pair that an agent leads is answered
  pub led_each : (agent : Option AgentId) (o : Option ActivePair) → LedFound v agent o → LedAbsent v agent o → (e : Event) (p : ActivePair) → IsPairOf v e p → Some p.lead ≡ agent → Some p ≡ o
  led_each agent None found absent e p h same = absurd (absent e p same h)
  led_each agent (Some q) found absent e p h same = ap Some (one_pair v set e found.1.0 p q h found.1.1 (one_at {o = agent} (sym same) (sym found.0))).1

  -- an active pair is the one that has an agent of it, and its partner
  pub one_between : (e f : Event) (p q : ActivePair) → IsPairOf v e p → IsPairOf v f q → (j : Principals) → IsOf p j.one → HasBoth j q → HasBoth j p
  one_between e f p q h k j of (forth a b) = subst (HasBoth j) (one_pair_of f e q p k h j.one (inl a) of) (forth a b)
  one_between e f p q h k j of (back a b) = subst (HasBoth j) (one_pair_of f e q p k h j.one (inr a) of) (back a b)

  -- the pair between the agents of a join is answered
  pub between_each : (j : Option Principals) (o : Option ActivePair) → BetweenFound v j o → BetweenAbsent v j o → (e : Event) (p : ActivePair) → IsPairOf v e p → IsBetween j p → Some p ≡ o
  between_each j None found absent e p h b = absurd (absent e p h b)
  between_each j (Some q) found absent e p h b = ap Some (by b found.1)
    where
      -- pairs between the agents of one join are one
      by : IsBetween j p → IsBetween j q → p ≡ q
      by (inl s) (inl t) = let same = one_at {o = j} s t in λ i. record { lead = (same i).one; other = (same i).other }
      by (inl s) (inr t) = let same = one_at {o = j} s t in one_pair_of e found.0.0 p q h found.0.1 p.lead (inl refl) (inr (sym (ap (λ (x : Principals). x.one) same)))
      by (inr s) (inl t) = let same = one_at {o = j} s t in one_pair_of e found.0.0 p q h found.0.1 p.other (inr refl) (inl (sym (ap (λ (x : Principals). x.one) same)))
      by (inr s) (inr t) = let same = one_at {o = j} s t in λ i. record { lead = (same i).other; other = (same i).one }

  -- and no other
  between_only : (j : Option Principals) (o : Option ActivePair) → BetweenFound v j o → (p : ActivePair) → Some p ≡ o → IsActivePair v p × IsBetween j p
  between_only j o found p same = subst (λ x. BetweenFound v j x) (sym same) found

  -- so once all joins were looked up, the pairs are the active ones between the agents of them
  pub answered_all : (joins : List (Option Principals)) (place : ℕ) (pairs : List (Option ActivePair)) → Answered v joins place pairs → length joins ≤ place → AreActiveJoins v joins pairs
  answered_all joins place pairs are all = record {
    each = λ e p j h i t. (
        let at = place_of joins None i in
        let low = at.1 in
        let long = are.long in
        let before : at.0 < place = omega (arith, low, all) in
        let same = between_each (slice_index_or joins at.0 None) (slice_index_or pairs at.0 None) (are.found at.0 before) (are.absent at.0 before) e p h (subst (λ o. IsBetween o p) (sym at.2) t) in
        subst (λ o. IsIn o pairs) (sym same) (in_at pairs at.0 None (omega (arith, low, long))));
    only = λ p i. (
        let at = place_of pairs None i in
        let below = at.1 in
        let long = are.long in
        let low : at.0 < length joins = omega (arith, below, long) in
        let r = between_only (slice_index_or joins at.0 None) (slice_index_or pairs at.0 None) (are.found at.0 (omega (arith, low, all))) p (sym at.2) in
        (r.0, (slice_index_or joins at.0 None, in_at joins at.0 None low, r.1)));
  }

-- a name that leads a standing event leads no active pair
pub lead_leads_none : (v : NamedView) → IsStandingSet v.set → (n : ℕ) → (x : Stander) → IsIn x v.set.events → x.event.lead ≡ name_at v.names n → Leads v n → ⊥
lead_leads_none v set n x i named l = joined_unled v.set set (joined_pair v.set set l.0 l.1 l.2) _ l.2.lead refl x i (named ∙ sym l.3)

-- the pair that the agent of a name leads, if that is there
pub led_named : (v : NamedView) → IsStandingSet v.set → (n : ℕ) (o : Option AgentId) (r : Option ActivePair)
    → IfSome o (λ id. (kind : Kind) × IsIn (record { id = id; name = name_at v.names n; kind = kind }) v.set.agents) → IfNone o (IsNewName v.set.agents (name_at v.names n))
    → IfSome r (λ p. (Some p.lead ≡ o) × IsActivePair v.set p) → IfNone r ((e : Event) (p : ActivePair) → Some p.lead ≡ o → IsPairOf v.set e p → ⊥)
    → IfSome r (λ p. (e : Event) × IsPairOf v.set e p × (e.lead ≡ name_at v.names n)) × IfNone r (Leads v n → ⊥)
led_named v set n None None there new some none = (tt, λ l. new _ l.2.lead l.3)
led_named v set n None (Some p) there new some none = let same = some.0 in cc
led_named v set n (Some id) None there new some none = (tt, λ l. none l.0 l.1 (ap (λ (m : Member). Some m.id) (one_name v.set set _ _ l.2.lead there.1 l.3)) l.2)
led_named v set n (Some id) (Some p) there new some none = ((some.1.0, some.1.1, ap (λ (m : Member). m.name) (one_id v.set set _ _ some.1.1.lead there.1 (one_at (sym some.0) refl))), tt)
