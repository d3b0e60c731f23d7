-- The active pairs of two sets of which one has an event more.
use Rattle.std.proofs.Common.{◌≡◌, ◌≢◌, List, [], ◌∷◌, ◌++◌, ◌⊎◌, inl, inr, refl, sym, ap, arith, subst}
use Rattle.ic_name.specs.Events.{Event}
use Rattle.ic_name.specs.declared.ids.AgentId.{AgentId}
use Rattle.ic_path.specs.Orders.{IsIn, Alike}
use Rattle.ic_path.proofs.Alikes.{alike_back, alike-in}
use Rattle.ic_path.proofs.Picks.{pick_before, in_first, in-cons_cases}
use Rattle.ic_theory.specs.Active.{IsActive}
use Rattle.ic_theory.specs.Causes.{IsCause}
use Rattle.ic_theory.specs.Sound.{IsSound}
use Rattle.ic_theory.specs.Starts.{Start, IsProper}
use Rattle.ic_theory.proofs.Ranks.{cause_in, sound-alike}
use Rattle.ic_theory.proofs.Sound.{active_there}
use Rattle.ic_path.proofs.InLists.{in_behind, map_cases}
use Rattle.ic_roster.specs.Rosters.{Member}
use Rattle.ic_set.specs.declared.pairs.ActivePair.{ActivePair}
use Rattle.ic_set.specs.Pairs.{IsPairOf}
use Rattle.ic_set.specs.Sets.{IsStandingSet}
use Rattle.ic_set.specs.Views.{SetView, standing, AreChildren}
use Rattle.ic_set.proofs.ActivePairs.{one_name, pair_of}
use Rattle.ic_set.proofs.Namings.{own_names_alike}
use Rattle.ic_set.proofs.StillActive.{stays_active}

-- the second set has an event more, and its children under these ids
pub record Grows (v w : SetView) (e : Event) (born : List AgentId) : Type 0 where
  pub start : w.start ≡ v.start
  pub events : Alike (standing w) (e ∷ standing v)
  pub children : List Member
  pub are : AreChildren e born children
  pub agents : Alike w.agents (children ++ v.agents)

-- an event that the second set has more was active in the first
pub was_active : (s : Start) → IsProper s → (all es : List Event) (e : Event) → IsSound s all → Alike all (e ∷ es) → IsActive s es e
was_active s ok all es e sound a = active_there s ok (e ∷ es) now [] e es refl (λ c q. by c q (in-cons_cases (cause_in s q)))
  where
    now : IsSound s (e ∷ es)
    now = sound-alike s a sound

    by : (c : Event) → IsCause s (e ∷ es) e c → (c ≡ e) ⊎ IsIn c es → IsIn c es
    by c q (inl same) = let below = now.ranked.above e c (in_first e es) q in let level = ap now.rank same in absurd (omega arith)
    by c q (inr i) = i

module _ (v w : SetView) (set : IsStandingSet v) (set' : IsStandingSet w) (e : Event) (born : List AgentId) (g : Grows v w e born) where
  -- the agents of the first are among those of the second
  pub up : (m : Member) → IsIn m v.agents → IsIn m w.agents
  up m i = alike-in (alike_back g.agents) (in_behind g.children i)

  -- what is active in the second is active there over the start of the first
  over : (f : Event) → IsActive w.start (standing w) f → IsActive v.start (standing w) f
  over f h = subst (λ s. IsActive s (standing w) f) g.start h

  -- the event was active
  pub event_active : IsActive v.start (standing v) e
  event_active = was_active v.start set.proper (standing w) (standing v) e (subst (λ s. IsSound s (standing w)) g.start set'.sound) g.events

  -- a pair of the first is one of the second, where its event is active there
  pair_up : (f : Event) (q : ActivePair) → IsPairOf v f q → IsActive v.start (standing w) f → IsPairOf w f q
  pair_up f q h a = record { active = subst (λ s. IsActive s (standing w) f) (sym g.start) a; lead = up _ h.lead; other = up _ h.other }

  -- and the other way round
  pair_down : (f : Event) (q : ActivePair) → IsPairOf w f q → IsActive v.start (standing v) f → IsPairOf v f q
  pair_down f q h a =
      let r = pair_of v set f a in
      let lead = ap (λ (m : Member). m.id) (one_name w set' _ _ (up _ r.1.lead) h.lead refl) in
      let other = ap (λ (m : Member). m.id) (one_name w set' _ _ (up _ r.1.other) h.other refl) in
      let same : r.0 ≡ q = λ i. record { lead = lead i; other = other i } in
      subst (IsPairOf v f) same r.1

  -- no agent of the first has the id of a child
  pub no_child : (m : Member) → IsIn m v.agents → IsIn m.id born → ⊥
  no_child m there i =
      let c = map_cases (λ (x : Member). x.id) g.children (subst (IsIn m.id) (sym g.are.under) i) in
      (own_names_alike g.agents set'.own_names).slots c.0 m _ (pick_before v.agents c.1.1) (in_behind c.1.0 there) (ap (λ (a : AgentId). a.slot) (sym c.2))

  module _ (p : ActivePair) (pair : IsPairOf v e p) where
    -- the other pairs of the first are pairs of the second
    pub stays : (f : Event) (q : ActivePair) → IsPairOf v f q → q.lead ≢ p.lead → IsPairOf w f q
    stays f q h other =
        pair_up f q h (stays_active v.start set.proper e (standing w) (standing v) set.sound pair.active g.events f h.active
        (λ same. other (ap (λ (m : Member). m.id) (one_name v set _ _ h.lead pair.lead (ap (λ (x : Event). x.lead) same)))))
