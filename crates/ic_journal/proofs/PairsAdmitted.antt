-- The queue of leads of a set once an event is admitted.
use Rattle.std.proofs.Common.{◌≡◌, ◌≢◌, ℕ, ◌≤◌, List, ◌∷◌, length, Option, Some, None, IfSome, inl, inr, sym, subst}
use Rattle.ic_name.specs.Names.{Name}
use Rattle.ic_name.specs.Events.{Event}
use Rattle.ic_name.specs.declared.ids.EventId.{EventId}
use Rattle.ic_path.specs.Orders.{IsIn, Alike}
use Rattle.ic_path.proofs.Alikes.{alike_back, alike-in, alike-map}
use Rattle.ic_theory.specs.Active.{IsActive}
use Rattle.ic_theory.proofs.Normal.{active-alike}
use Rattle.ic_names.specs.declared.queue.Lead.{Lead}
use Rattle.ic_names.specs.Queues.{QueueView, leads_of, IsQueue}
use Rattle.ic_names.proofs.Queued.{kept_queue}
use Rattle.ic_roster.specs.Rosters.{Stander}
use Rattle.ic_set.specs.declared.pairs.ActivePair.{ActivePair}
use Rattle.ic_set.specs.Changes.{Admits, IsSame}
use Rattle.ic_set.specs.Pairs.{IsPairOf, IsActivePair, Awakes}
use Rattle.ic_set.specs.Queues.{IsQueued, HasLeads}
use Rattle.ic_set.specs.Sets.{IsStandingSet}
use Rattle.ic_set.specs.Views.{SetView, NamedView, standing}
use Rattle.ic_journal.specs.Fronts.{IsFront, KeepsQueue}
use Rattle.ic_set.proofs.GrownNames.{Keeps}
use Rattle.ic_set.proofs.GrownSets.{Grows, stays}

module _ (v w : SetView) (start : w.start ≡ v.start) (agents : Alike v.agents w.agents) (events : Alike v.events w.events) where
  -- an event that is active in a set is active in the same set
  active_same : (f : Event) → IsActive v.start (standing v) f → IsActive w.start (standing w) f
  active_same f a = subst (λ s. IsActive s (standing w) f) (sym start) (active-alike v.start (alike-map (λ (x : Stander). x.event) events) a)

  -- and a pair of a set is one of the same set
  pair_same : (f : Event) (q : ActivePair) → IsPairOf v f q → IsPairOf w f q
  pair_same f q h = record { active = active_same f h.active; lead = alike-in agents h.lead; other = alike-in agents h.other }

-- so is its front
front_same : (v w : SetView) → IsSame v w → (pair : Option ActivePair) → IsFront v pair → IsFront w pair
front_same v w same None front = (tt, λ f a. front.1 f (active_same w v (sym same.start) (alike_back same.agents) (alike_back same.events) f a))
front_same v w same (Some p) front = let l = front.0 in (
  record {
    event = l.event;
    pair = pair_same v w same.start same.agents same.events l.event p l.pair;
    least = λ f a. l.least f (active_same w v (sym same.start) (alike_back same.agents) (alike_back same.events) f a);
  },
  tt,
)

-- the same set keeps its queue, however many names become known
pub same_keeps : (v w : NamedView) (q q' : QueueView) (pair : Option ActivePair) → IsSame v.set w.set → Keeps v.names w.names → (IsQueue w.names q → IsQueue w.names q') → leads_of q' ≡ leads_of q → length w.names ≤ q'.room → KeepsQueue v q pair → KeepsQueue w q' pair
same_keeps v w q q' pair same keeps queue leads enough k = record {
  queue = queue (kept_queue v.names w.names keeps q k.queue);
  each = λ f p h. (let queued = k.each f p (pair_same w.set v.set (sym same.start) (alike_back same.agents) (alike_back same.events) f p h) in (queued.0, keeps f.lead queued.0 queued.1, rw leads queued.2));
  front = front_same v.set w.set same pair k.front;
  room = enough;
}

module _ (v w : NamedView) (e : Event) (line : ℕ) (d : EventId) (a : Admits v.set e line d w.set) where
  -- the set has grown by the event
  grown : Grows v.set w.set e a.entry.born
  grown = record {
    start = a.start;
    events = subst (λ x. Alike (standing w.set) (x ∷ standing v.set)) a.event (alike-map (λ (x : Stander). x.event) (alike_back a.events));
    children = a.children;
    are = a.born;
    agents = alike_back a.agents;
  }

  -- the leads of before are in the queue, and so are those of the pairs that became active
  pub admitted_each : (old leads : List Lead) → Keeps v.names w.names → (pairs : List (Option ActivePair)) → Awakes v.set w.set pairs → HasLeads v old
      → ((n : Name) → IsQueued w.names old n → IsQueued w.names leads n) → ((f : Event) (q : ActivePair) → IsPairOf w.set f q → IsIn (Some q) pairs → IsQueued w.names leads f.lead) → HasLeads w leads
  admitted_each old leads keeps pairs awoken all stay new f q h = elim (awoken.each f q h) [
    | inl k ↦ (let queued = all f q k in stay f.lead (queued.0, keeps f.lead queued.0 queued.1, queued.2))
    | inr i ↦ new f q h i
  ]

  -- the pair at the front is active still, where another one was fired
  pub front_stays : IsStandingSet v.set → IsStandingSet w.set → (p : ActivePair) → IsPairOf v.set e p → (front before : Option ActivePair) → IsFront v.set front → IfSome before (λ q. (front ≡ Some q) × (q.lead ≢ p.lead)) → IfSome before (IsActivePair w.set)
  front_stays set set' p pair front None leads other = tt
  front_stays set set' p pair front (Some q) leads other = let l = (subst (IsFront v.set) other.0 leads).0 in (l.event, stays v.set w.set set set' e a.entry.born grown p pair l.event q l.pair other.1)
