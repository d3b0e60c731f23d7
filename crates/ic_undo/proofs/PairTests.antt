-- Names of events that are told apart by their order.
use Rattle.std.proofs.Common.{◌≡◌, ◌≢◌, Bool, true, false, List, [], ◌∷◌, ◌⊎◌, inl, inr, refl, sym, ap, subst, ◌∙◌}
use Rattle.std.specs.BTreeMap.{is_at}
use Rattle.std.specs.Ordering.{is_eq, is_gt, ordering_then}
use Rattle.std.specs.declared.cmp.Ordering.{Ordering}
use Rattle.std.specs.declared.cmp.Ordering.TheVariants.{Less, Equal, Greater}
use Rattle.ic_name.specs.Names.{name_cmp}
use Rattle.ic_name.specs.Events.{Pair, pair, pair_cmp}
use Rattle.ic_name.proofs.NameOrder.{name_tied, name_tied_itself}
use Rattle.ic_path.specs.Orders.{IsIn}
use Rattle.ic_path.proofs.Picks.{none_in, in_first, in_more, in-cons_cases}
use Rattle.ic_roster.specs.Rosters.{Stander}

-- both orders of a chain are tied where the chain is
both_tied : (a b : Ordering) → is_eq (ordering_then a b) ≡ true → (a ≡ Equal) × (b ≡ Equal)
both_tied Less b h = cc
both_tied Equal Less h = cc
both_tied Equal Equal h = (refl, refl)
both_tied Equal Greater h = cc
both_tied Greater b h = cc

-- a name passes its own test, and no other one does
pub pair_passes : (p : Pair) → is_at (pair_cmp p) p ≡ true
pair_passes p = rw (name_tied_itself p.lead, name_tied_itself p.other) refl

pub pair_only : (p q : Pair) → is_at (pair_cmp p) q ≡ true → q ≡ p
pair_only p q h =
    let parts = both_tied (name_cmp p.lead q.lead) (name_cmp p.other q.other) h in
    let lead = name_tied p.lead q.lead parts.0 in
    let other = name_tied p.other q.other parts.1 in
    λ i. record { lead = sym lead i; other = sym other i }

-- a name that fails the test is another one
pub pair_fails : (p q : Pair) → is_at (pair_cmp p) q ≡ false → q ≢ p
pair_fails p q h same = let t : is_at (pair_cmp p) q ≡ true = subst (λ r. is_at (pair_cmp p) r ≡ true) (sym same) (pair_passes p) in absurd cc

-- another one fails it
pub pair_apart : (p q : Pair) → q ≢ p → is_at (pair_cmp p) q ≡ false
pair_apart p q other = by (is_at (pair_cmp p) q) refl
  where
    by : (b : Bool) → is_at (pair_cmp p) q ≡ b → is_at (pair_cmp p) q ≡ false
    by true h = absurd (other (pair_only p q h))
    by false h = h

-- where a name isn't above another one its lead isn't above the other's
pub lead_not_above : (p q : Pair) → is_gt (pair_cmp p q) ≡ false → is_gt (name_cmp p.lead q.lead) ≡ false
lead_not_above p q h = by (name_cmp p.lead q.lead) (name_cmp p.other q.other) h
  where
    by : (a b : Ordering) → is_gt (ordering_then a b) ≡ false → is_gt a ≡ false
    by Less b h = refl
    by Equal b h = refl
    by Greater b h = h

-- an event of the name stands, or none does
pub stands_or_missing : (xs : List Stander) (p : Pair) → ((x : Stander) × IsIn x xs × (pair x.event ≡ p)) ⊎ ((x : Stander) → IsIn x xs → pair x.event ≢ p)
stands_or_missing [] p = inr (λ x i. absurd (none_in i))
stands_or_missing (y ∷ xs) p = by (is_at (pair_cmp p) (pair y.event)) refl (stands_or_missing xs p)
  where
    by : (b : Bool) → is_at (pair_cmp p) (pair y.event) ≡ b → ((x : Stander) × IsIn x xs × (pair x.event ≡ p)) ⊎ ((x : Stander) → IsIn x xs → pair x.event ≢ p)
        → ((x : Stander) × IsIn x (y ∷ xs) × (pair x.event ≡ p)) ⊎ ((x : Stander) → IsIn x (y ∷ xs) → pair x.event ≢ p)
    by true h r = inl (y, in_first y xs, pair_only p (pair y.event) h)
    by false h (inl r) = inl (r.0, in_more y r.1, r.2)
    by false h (inr n) = inr (λ x i. elim (in-cons_cases i) [
      | inl q ↦ (λ same. pair_fails p (pair y.event) h (ap (λ (z : Stander). pair z.event) (sym q) ∙ same))
      | inr j ↦ n x j
    ])
