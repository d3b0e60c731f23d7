-- The queue of leads of a set once all events are taken out.
use Rattle.std.proofs.Common.{◌≡◌, ℕ, ◌+◌, List, [], ◌∷◌, ◌⊎◌, inl, inr, sym, ap, subst, ◌∙◌}
use Rattle.ic_name.specs.Names.{Name, start_name}
use Rattle.ic_name.specs.Events.{Event}
use Rattle.ic_name.specs.declared.kinds.Kind.{Kind}
use Rattle.ic_path.specs.Orders.{IsIn, Alike}
use Rattle.ic_path.proofs.Alikes.{alike_back, alike-in}
use Rattle.ic_path.proofs.Picks.{none_in, in_first, in-cons_cases}
use Rattle.ic_theory.specs.Active.{IsActive}
use Rattle.ic_theory.specs.Born.{named}
use Rattle.ic_theory.specs.Firings.{IsFired}
use Rattle.ic_theory.specs.Sound.{IsSound}
use Rattle.ic_theory.specs.Starts.{Start, IsProper}
use Rattle.ic_theory.proofs.Future.{there_or_active, includes_none}
use Rattle.ic_theory.proofs.Normal.{active-alike}
use Rattle.ic_theory.proofs.Ranks.{sound_order}
use Rattle.ic_names.specs.declared.queue.Lead.{Lead}
use Rattle.ic_path.proofs.InLists.{in_behind, map_cases}
use Rattle.ic_roster.specs.Rosters.{Stander}
use Rattle.ic_set.specs.Cleared.{Clears}
use Rattle.ic_set.specs.Queues.{IsQueued, HasLeads}
use Rattle.ic_set.specs.Sets.{IsStandingSet}
use Rattle.ic_set.specs.Views.{NamedView, standing, events_of}
use Rattle.ic_set.proofs.ActivePairs.{pair_of}

-- the name of an agent of the start has no digits
start_digits : (k : ℕ) (kinds : List Kind) (a : Name × Kind) → IsIn a (named start_name k kinds) → a.0.digits ≡ []
start_digits k [] a i = absurd (none_in i)
start_digits k (x ∷ xs) a i = elim (in-cons_cases i) [ inl q ↦ ap (λ (y : Name × Kind). y.0.digits) q | inr j ↦ start_digits (k + 1) xs a j ]

-- what is active where nothing stands is active over a sound set, or stands in it
active_or_there : (s : Start) → IsProper s → (es : List Event) → IsSound s es → (e : Event) → IsActive s [] e → IsActive s es e ⊎ IsIn e es
active_or_there s ok es sound e a = elim (there_or_active s ok e o.2 (includes_none o.0) a) [
  | inl i ↦ inr (alike-in (alike_back o.1) (alike-in i.alike (in_behind i.others (in_first e []))))
  | inr h ↦ inl (active-alike s (alike_back o.1) h)
]
  where
    o : (order : List Event) × Alike es order × IsFired s order
    o = sound_order s ok es sound

module _ (v w : NamedView) (set : IsStandingSet v.set) (names : w.names ≡ v.names) (c : Clears v.set w.set) where
  -- an event of the empty set is active over the start of the first
  over_start : (f : Event) → IsActive w.set.start (standing w.set) f → IsActive v.set.start [] f
  over_start f a = subst (λ s. IsActive s [] f) c.start (subst (λ xs. IsActive w.set.start (events_of xs) f) c.events a)

  -- with the leads of the start's agents that were consumed the queue has the leads of all pairs
  pub cleared_each : (old leads : List Lead) → HasLeads v old → ((n : Name) → IsQueued v.names old n → IsQueued v.names leads n)
      → ((x : Stander) → IsIn x v.set.events → x.event.lead.digits ≡ [] → IsQueued v.names leads x.event.lead) → HasLeads w leads
  cleared_each old leads all stay led f q h = subst (λ ns. IsQueued ns leads f.lead) (sym names) (by (active_or_there v.set.start set.proper (standing v.set) set.sound f a))
    where
      a : IsActive v.set.start [] f
      a = over_start f h.active

      by : IsActive v.set.start (standing v.set) f ⊎ IsIn f (standing v.set) → IsQueued v.names leads f.lead
      by (inl active) = let p = pair_of v.set set f active in stay f.lead (all f p.0 p.1)
      by (inr there) =
          let x = map_cases (λ (y : Stander). y.event) v.set.events there in
          let bare : x.0.event.lead.digits ≡ [] = ap (λ (e : Event). e.lead.digits) x.2 ∙ start_digits 0 v.set.start.kinds (f.lead, f.lead_kind) a.present.lead in
          subst (λ (e : Event). IsQueued v.names leads e.lead) x.2 (led x.0 x.1 bare)
