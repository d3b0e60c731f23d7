-- What the front of a queue of leads tells.
use Rattle.std.proofs.Common.{◌≡◌, ◌≢◌, ℕ, false, List, sym, ap, refl, subst}
use Rattle.std.specs.Ordering.{is_gt}
use Rattle.std.specs.declared.cmp.Ordering.{Ordering}
use Rattle.std.specs.declared.cmp.Ordering.TheVariants.{Less, Equal, Greater}
use Rattle.ic_name.specs.Names.{Name, name_cmp}
use Rattle.ic_name.specs.Events.{Event}
use Rattle.ic_name.proofs.NameOrder.{name_flip}
use Rattle.ic_names.specs.Tables.{name_at}
use Rattle.ic_names.specs.declared.queue.Lead.{Lead}
use Rattle.ic_names.specs.Queues.{IsLeast}
use Rattle.ic_set.specs.declared.pairs.ActivePair.{ActivePair}
use Rattle.ic_set.specs.Pairs.{IsPairOf, IsLeastPair}
use Rattle.ic_set.specs.Queues.{HasLeads}
use Rattle.ic_set.specs.Sets.{IsStandingSet}
use Rattle.ic_set.specs.Views.{NamedView}
use Rattle.ic_set.proofs.ActivePairs.{pair_of}

-- the order the other way round
not_greater : (n m : Name) → name_cmp n m ≢ Less → is_gt (name_cmp m n) ≡ false
not_greater n m none = by (name_cmp m n) refl
  where
    by : (o : Ordering) → name_cmp m n ≡ o → is_gt (name_cmp m n) ≡ false
    by Less h = ap is_gt h
    by Equal h = ap is_gt h
    by Greater h = absurd (none (name_flip m n h))

-- the pair that the front's name leads has the least lead
pub front_least : (v : NamedView) → IsStandingSet v.set → (leads : List Lead) (n : ℕ) → HasLeads v leads → IsLeast v.names leads n → (e : Event) (p : ActivePair) → IsPairOf v.set e p → e.lead ≡ name_at v.names n → IsLeastPair v.set p
front_least v set leads n all least e p h named = record {
  event = e;
  pair = h;
  least = λ f a. (
      let q = pair_of v.set set f a in
      let queued = all f q.0 q.1 in
      let none : name_cmp f.lead (name_at v.names n) ≢ Less = subst (λ m. name_cmp m (name_at v.names n) ≢ Less) queued.1.named (least.none_less queued.0 queued.2) in
      subst (λ m. is_gt (name_cmp m f.lead) ≡ false) (sym named) (not_greater f.lead (name_at v.names n) none));
}
