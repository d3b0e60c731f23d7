-- The active pairs that an event makes: those whose paths run over a link of it, looked up link by link.
use Rattle.std.proofs.Common.{◌≡◌, ◌≢◌, ℕ, zero, suc, ◌+◌, ◌<◌, ◌≤◌, Bool, true, false, List, [], ◌∷◌, length, replicate, ◌⊎◌, inl, inr, Option, Some, None, IfSome, refl, sym, ap, arith, subst, ◌∙◌}
use Rattle.std.specs.Prelude.{slice_index_or, slice_set}
use Rattle.std.proofs.lemmas.List.{get_or-set_same, get_or-set_other, length-set}
use Rattle.ic_name.specs.Events.{Event}
use Rattle.ic_name.specs.Spots.{same_link}
use Rattle.ic_name.specs.declared.ids.EventId.{EventId}
use Rattle.ic_name.specs.declared.ids.Link.{Link}
use Rattle.ic_name.specs.declared.ids.LinkId.{LinkId}
use Rattle.ic_name.specs.declared.ids.Spot.TheVariants.{Agent}
use Rattle.ic_name.proofs.SpotFacts.{same_link_true, same_link_self}
use Rattle.ic_path.specs.Orders.{Pick, IsIn}
use Rattle.ic_path.proofs.InLists.{map_cases}
use Rattle.ic_path.proofs.Picks.{none_in, in_first, in_more, in-cons_cases}
use Rattle.ic_path.proofs.Rotated.{in-trail}
use Rattle.ic_link.specs.Links.{shape, IsLawful, Joins, JoinsPrincipals, event_link}
use Rattle.ic_link.specs.declared.principals.Principals.{Principals}
use Rattle.ic_theory.specs.Causes.{IsCause}
use Rattle.ic_roster.specs.Rosters.{Stander}
use Rattle.ic_set.specs.declared.pairs.ActivePair.{ActivePair}
use Rattle.ic_set.specs.Pairs.{IsActivePair, IsPairOf, IsBetween, AreBornPairs}
use Rattle.ic_set.specs.Sets.{IsKept, IsStandingSet}
use Rattle.ic_set.specs.Views.{SetView, standing}
use Rattle.ic_link.proofs.FirstJoins.{one_agent}
use Rattle.ic_link.proofs.InPlace.{in_at, place_of}
use Rattle.ic_set.proofs.LinkPlaces.{place_below}
use Rattle.ic_set.proofs.LookedUp.{BetweenFound, BetweenAbsent, before_next, HasBoth, forth, back, has_both, between_each}
use Rattle.ic_set.proofs.OverLinks.{EndAt, over_ends, ends_over}
use Rattle.ic_set.proofs.PairPaths.{lead_degree, pair_joined, maker_causes, cause_makes}

-- a link of a list has the id, or none has it
link_of_id : (ls : List Link) (id : LinkId) → ((l : Link) × IsIn l ls × (l.id ≡ id)) ⊎ ((l : Link) → IsIn l ls → l.id ≢ id)
link_of_id [] id = inr (λ l i. absurd (none_in i))
link_of_id (m ∷ ls) id = by (same_link m.id id) refl (link_of_id ls id)
  where
    by : (t : Bool) → same_link m.id id ≡ t → ((l : Link) × IsIn l ls × (l.id ≡ id)) ⊎ ((l : Link) → IsIn l ls → l.id ≢ id) → ((l : Link) × IsIn l (m ∷ ls) × (l.id ≡ id)) ⊎ ((l : Link) → IsIn l (m ∷ ls) → l.id ≢ id)
    by true t r = inl (m, in_first m ls, same_link_true m.id id t)
    by false t (inl r) = inl (r.0, in_more m r.1, r.2)
    by false t (inr none) = inr (λ l i e. elim (in-cons_cases i) [
      | inl s ↦ (let yes : same_link m.id id ≡ true = subst (λ (x : LinkId). same_link x id ≡ true) (sym e ∙ ap (λ (x : Link). x.id) s) (same_link_self id) in cc)
      | inr k ↦ none l k e
    ])

-- the pair is active, and its path runs over the event's link of this place
pub record IsBornAt (v : SetView) (ls : List Link) (d : EventId) (place : ℕ) (p : ActivePair) : Type 0 where
  pub active : IsActivePair v p
  pub link : Link
  pub rest : List Link
  pub picked : Pick link ls rest
  pub its : link.id ≡ event_link d place
  pub ends : EndAt shape rest link (Agent p.lead 0) (Agent p.other 0)

-- what is found at a place is the one such pair
abbrev Tells : SetView → List Link → EventId → ℕ → Option ActivePair → Type 0
Tells v ls d place o = IfSome o (IsBornAt v ls d place) × ((p : ActivePair) → IsBornAt v ls d place p → o ≡ Some p)

-- the links of the places before this one were looked up, and what was found stands at their places
pub record Looked (v : SetView) (ls : List Link) (d : EventId) (place : ℕ) (pairs : List (Option ActivePair)) : Type 0 where
  pub long : length pairs ≡ 8
  pub tells : (i : ℕ) → i < place → Tells v ls d i (slice_index_or pairs i None)
  pub behind : (i : ℕ) → place ≤ i → i < 8 → slice_index_or pairs i None ≡ None

-- nothing stands in an array of nothing
none_at : {X : Type 0} (n i : ℕ) → slice_index_or (replicate {A = Option X} n None) i None ≡ None
none_at zero i = refl
none_at (suc n) zero = refl
none_at (suc n) (suc i) = none_at n i

module _ (v : SetView) (ls : List Link) (d : EventId) where
  -- none was yet
  pub looked_none : Looked v ls d 0 (replicate 8 None)
  looked_none = record { long = refl; tells = λ i low. absurd (omega arith); behind = λ i above few. none_at 8 i }

  -- what a store says of the link of a place
  abbrev pub Joined : ℕ → Option Principals → Type 0
  Joined place j = (l : Link) (rest : List Link) → Pick l ls rest → l.id ≡ event_link d place → JoinsPrincipals rest l j

  abbrev Absent : ℕ → Option Principals → Type 0
  Absent place j = ((l : Link) → IsIn l ls → l.id ≢ event_link d place) → j ≡ None

  -- where a link joins no principal ports no pair is born
  pub none_told : (place : ℕ) → Joined place None → Tells v ls d place None
  none_told place joined = (tt, λ p b. absurd (by p b (joined b.link b.rest b.picked b.its) b.ends))
    where
      by : (p : ActivePair) (b : IsBornAt v ls d place p) → JoinsPrincipals b.rest b.link None → EndAt shape b.rest b.link (Agent p.lead 0) (Agent p.other 0) → ⊥
      by p b none (inl e) = none p.lead p.other e.0 e.1
      by p b none (inr e) = none p.other p.lead e.0 e.1

  -- and where it joins two, the active pair of their agents is
  pub some_told : IsStandingSet v → (place : ℕ) (j : Principals) (o : Option ActivePair) → Joined place (Some j) → Absent place (Some j) → BetweenFound v (Some j) o → BetweenAbsent v (Some j) o → Tells v ls d place o
  some_told set place j o joined absent found none = (born o found, λ p b. sym (between_each v set (Some j) o found none b.active.0 p b.active.1 (between p b (joined b.link b.rest b.picked b.its) b.ends)))
    where
      -- the agents of a pair that is born are those of the join
      between : (p : ActivePair) (b : IsBornAt v ls d place p) → JoinsPrincipals b.rest b.link (Some j) → EndAt shape b.rest b.link (Agent p.lead 0) (Agent p.other 0) → IsBetween (Some j) p
      between p b is (inl e) =
          let one = one_agent (sym is.0 ∙ e.0) in
          let other = one_agent (sym is.1 ∙ e.1) in
          inl (λ i. Some (record { one = one i; other = other i }))
      between p b is (inr e) =
          let one = one_agent (sym is.0 ∙ e.0) in
          let other = one_agent (sym is.1 ∙ e.1) in
          inr (λ i. Some (record { one = one i; other = other i }))

      -- the ends of the link lead to them
      ends : (p : ActivePair) (l : Link) (rest : List Link) → JoinsPrincipals rest l (Some j) → HasBoth j p → EndAt shape rest l (Agent p.lead 0) (Agent p.other 0)
      ends p l rest is (forth a b) = inl (is.0 ∙ ap (λ x. Agent x 0) (sym a), is.1 ∙ ap (λ x. Agent x 0) (sym b))
      ends p l rest is (back a b) = inr (is.0 ∙ ap (λ x. Agent x 0) (sym a), is.1 ∙ ap (λ x. Agent x 0) (sym b))

      -- there is such a link
      its : (l : Link) × IsIn l ls × (l.id ≡ event_link d place)
      its = elim (link_of_id ls (event_link d place)) [ inl l ↦ l | inr none_has ↦ (let e = absent none_has in absurd cc) ]

      born : (o : Option ActivePair) → BetweenFound v (Some j) o → IfSome o (IsBornAt v ls d place)
      born None f = tt
      born (Some p) f = record {
        active = f.0;
        link = its.0;
        rest = its.1.0;
        picked = its.1.1;
        its = its.2;
        ends = ends p its.0 its.1.0 (joined its.0 its.1.0 its.1.1 its.2) (has_both (Some j) j p refl f.1);
      }

  module _ (place : ℕ) (pairs : List (Option ActivePair)) (are : Looked v ls d place pairs) (low : place < 8) where
    -- what stands at this place was found there, and nothing else changed
    looked_next : (next : List (Option ActivePair)) → length next ≡ 8 → ((i : ℕ) → i ≢ place → slice_index_or next i None ≡ slice_index_or pairs i None) → Tells v ls d place (slice_index_or next place None)
        → Looked v ls d (place + 1) next
    looked_next next long same is = record {
      long = long;
      tells = λ i below. says i (before_next i place below);
      behind = λ i above few. same i (λ e. omega (arith, e, above)) ∙ are.behind i (omega (arith, above)) few;
    }
      where
        says : (i : ℕ) → (i ≡ place) ⊎ ((i ≢ place) × (i < place)) → Tells v ls d i (slice_index_or next i None)
        says i (inl here) = subst (λ n. Tells v ls d n (slice_index_or next n None)) (sym here) is
        says i (inr other) = subst (Tells v ls d i) (sym (same i other.0)) (are.tells i other.1)

    -- one more was looked up
    pub looked_more : (o : Option ActivePair) → Tells v ls d place o → Looked v ls d (place + 1) (slice_set pairs place o)
    looked_more o is =
        let long = are.long in
        let here = get_or-set_same pairs place o None (omega (arith, long, low)) in
        looked_next (slice_set pairs place o) (length-set pairs place o ∙ long) (λ i other. get_or-set_other pairs place i o None other) (subst (Tells v ls d place) (sym here) is)

    -- one more joins no principal ports
    pub looked_still : Tells v ls d place None → Looked v ls d (place + 1) pairs
    looked_still is = looked_next pairs are.long (λ i other. refl) (subst (Tells v ls d place) (sym (are.behind place (omega arith) low)) is)

  -- once all were looked up, the pairs are those that the event makes
  pub looked_all : IsKept v ls → IsLawful ls → (place : ℕ) (pairs : List (Option ActivePair)) → Looked v ls d place pairs → 8 ≤ place → AreBornPairs v d pairs
  looked_all k lawful place pairs are all = record { each = each; only = only }
    where
      -- the path of an active pair
      path : (e : Event) (p : ActivePair) → IsPairOf v e p → (ids : List LinkId) × Joins ls (Agent p.lead 0) ids (Agent p.other 0)
      path e p h = pair_joined v ls k e p h lawful.slim

      each : (e : Event) (p : ActivePair) (x : Stander) → IsPairOf v e p → IsIn x v.events → x.id ≡ d → IsCause v.start (standing v) e x.event → IsIn (Some p) pairs
      each e p x h i same cause =
          let j = path e p h in
          let m = cause_makes v ls k e p h j.0 j.1 d (x, i, same, cause) in
          let l = map_cases (λ (y : Link). y.id) j.1.links (subst (λ xs. IsIn m.0 xs) (sym j.1.named) m.1) in
          let there = in-trail shape j.1.trail l.1 in
          let made = ap (λ (y : LinkId). y.maker) l.2 ∙ m.2 in
          let low = place_below v ls k d l.0 there made in
          let over = over_ends ls there.0 l.0 _ _ j.0 lawful there.1 (lead_degree v ls k e p h) j.1 (subst (λ y. IsIn y j.0) (sym l.2) m.1) in
          let found = (are.tells l.0.id.place (omega (arith, low, all))).1 p (record { active = (e, h); link = l.0; rest = there.0; picked = there.1; its = λ u. record { maker = made u; place = l.0.id.place }; ends = over }) in
          subst (λ o. IsIn o pairs) found (in_at pairs l.0.id.place None (let long = are.long in omega (arith, long, low)))

      only : (p : ActivePair) → IsIn (Some p) pairs → (e : Event) × (x : Stander) × IsPairOf v e p × IsIn x v.events × (x.id ≡ d) × IsCause v.start (standing v) e x.event
      only p i =
          let at = place_of pairs None i in
          let low : at.0 < 8 = let below = at.1 in let long = are.long in omega (arith, below, long) in
          let b : IsBornAt v ls d at.0 p = subst (λ o. IfSome o (IsBornAt v ls d at.0)) at.2 (are.tells at.0 (omega (arith, low, all))).0 in
          let e = b.active.0 in
          let h = b.active.1 in
          let j = path e p h in
          let over = ends_over ls b.rest b.link _ _ j.0 lawful b.picked (lead_degree v ls k e p h) j.1 b.ends in
          let x = maker_causes v ls k e p h j.0 j.1 d (b.link.id, over, ap (λ (y : LinkId). y.maker) b.its) in
          (e, x.0, h, x.1, x.2, x.3)
