-- The queue of leads of a set once an event is taken out.
use Rattle.std.proofs.Common.{◌≡◌, ℕ, List, ◌∷◌, inl, inr, sym, ap, subst, ◌∙◌}
use Rattle.ic_name.specs.Names.{Name}
use Rattle.ic_name.specs.Events.{Event}
use Rattle.ic_name.specs.declared.ids.EventId.{EventId}
use Rattle.ic_path.specs.Orders.{IsIn, Alike}
use Rattle.ic_path.proofs.Alikes.{alike_back, alike-in, alike-map}
use Rattle.ic_path.proofs.Picks.{in_first}
use Rattle.ic_names.specs.Tables.{name_at, StandsAt}
use Rattle.ic_names.specs.declared.queue.Lead.{Lead}
use Rattle.ic_roster.specs.Rosters.{Stander}
use Rattle.ic_set.specs.declared.pairs.ActivePair.{ActivePair}
use Rattle.ic_set.specs.Changes.{TakesOut}
use Rattle.ic_set.specs.Pairs.{IsPairOf}
use Rattle.ic_set.specs.Queues.{IsQueued, HasLeads}
use Rattle.ic_set.specs.Sets.{IsStandingSet}
use Rattle.ic_set.specs.Views.{NamedView, standing, AreChildren}
use Rattle.ic_set.proofs.ActivePairs.{one_pair, pair_of}
use Rattle.ic_set.proofs.GrownSets.{Grows, event_active, stays}
use Rattle.ic_set.proofs.Namings.{same_stander}
use Rattle.ic_name.proofs.SameFacts.{one_agent}

module _ (v w : NamedView) (set : IsStandingSet v.set) (set' : IsStandingSet w.set) (d : EventId) (t : TakesOut v.set d w.set) (x : Stander) (there : IsIn x v.set.events) (under : x.id ≡ d) where
  -- the event that goes is the one under the id
  one : t.entry ≡ x
  one = same_stander v.set.events t.entry x set.own_lines (alike-in (alike_back t.events) (in_first t.entry w.set.events)) there (inl (t.under ∙ sym under))

  -- the set had it more
  grown : Grows w.set v.set x.event x.born
  grown = record {
    start = sym t.start;
    events = subst (λ (y : Stander). Alike (standing v.set) (y.event ∷ standing w.set)) one (alike-map (λ (y : Stander). y.event) t.events);
    children = t.children;
    are = subst (λ (y : Stander). AreChildren y.event y.born t.children) one t.born;
    agents = t.agents;
  }

  -- the event's pair is active
  pair_back : (p : ActivePair) × IsPairOf w.set x.event p
  pair_back = pair_of w.set set' x.event (event_active w.set v.set set' set x.event x.born grown)

  -- with its lead the queue has the leads of all pairs
  pub left_each : (old leads : List Lead) (n : ℕ) → w.names ≡ v.names → StandsAt w.names x.event.lead n → HasLeads v old → ((m : Name) → IsQueued w.names old m → IsQueued w.names leads m)
      → ((f : Event) (q : ActivePair) → IsPairOf w.set f q → f.lead ≡ name_at w.names n → IsQueued w.names leads f.lead) → HasLeads w leads
  left_each old leads n names its all stay own f q h = elim (one_agent q.lead pair_back.0.lead) [
    | inl same ↦ (
        let one = one_pair w.set set' f x.event q pair_back.0 h pair_back.1 same in
        own f q h (ap (λ (y : Event). y.lead) one.0 ∙ sym its.named))
    | inr away ↦ stay f.lead (subst (λ ns. IsQueued ns old f.lead) (sym names) (all f q (stays w.set v.set set' set x.event x.born grown pair_back.0 pair_back.1 f q h away)))
  ]
