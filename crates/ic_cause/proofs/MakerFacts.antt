-- The makers of the links of a path.
use Rattle.std.proofs.Common.{◌≡◌, ◌≤◌, List, [], ◌∷◌, ◌⊎◌, length, inl, inr, refl, sym, ◌∙◌, ap, subst, arith}
use Rattle.std.specs.List.{dedup}
use Rattle.std.specs.List.Sorted.{IsPermutation, IsSorted}
use Rattle.std.proofs.lemmas.List.Kept.{Contains-dedup, Contains-from_dedup, IsStrictlySortedBy-dedup}
use Rattle.std.proofs.lemmas.List.Sorted.{IsPermutation-sym, Contains-permutation}
use Rattle.ic_path.specs.Orders.{IsIn}
use Rattle.ic_path.proofs.Picks.{length-pick, none_in, in_first, in_more, in-cons_cases, in-contains, contains-in}
use Rattle.ic_name.specs.declared.ids.EventId.{EventId}
use Rattle.ic_name.specs.declared.ids.LinkId.{LinkId}
use Rattle.ic_name.specs.declared.ids.MakerId.{MakerId}
use Rattle.ic_name.specs.declared.ids.MakerId.TheVariants as maker
use Rattle.ic_name.specs.Spots.{same_event}
use Rattle.ic_link.specs.Links.{makers_of, with_maker}
use Rattle.ic_cause.specs.Makers.{IsMaker, AreMakers}
use Rattle.ic_name.specs.EventOrders.{event_cmp}
use Rattle.ic_name.proofs.EventOrder.{event_total, event_at, event_equivalence}
use Rattle.ic_path.proofs.StrictOrders.{strict_once}
use Rattle.ic_name.proofs.SameFacts.{same_event_true}

-- the events made links of these ids, and some may be there twice
pub record HasMakers (ids : List LinkId) (es : List EventId) : Type 0 where
  pub each : (e : EventId) → IsMaker ids e → IsIn e es
  pub only : (e : EventId) → IsIn e es → IsMaker ids e

-- where there is no link there is no maker
no_makers : HasMakers [] []
no_makers = record { each = λ e m. absurd (none_in m.1); only = λ e i. absurd (none_in i) }

-- a maker with a link more in front is the maker of that one, or was one
maker_cases : (ids : List LinkId) (id : LinkId) (e : EventId) → IsMaker (id ∷ ids) e → (id.maker ≡ maker.Event e) ⊎ IsMaker ids e
maker_cases ids id e (i, k, m) = by (in-cons_cases k)
  where
    by : (i ≡ id) ⊎ IsIn i ids → (id.maker ≡ maker.Event e) ⊎ IsMaker ids e
    by (inl s) = inl (ap (λ (x : LinkId). x.maker) (sym s) ∙ m)
    by (inr j) = inr (i, j, m)

-- a maker stays one with a link more
maker_behind : (ids : List LinkId) (id : LinkId) (e : EventId) → IsMaker ids e → IsMaker (id ∷ ids) e
maker_behind ids id e (i, k, m) = (i, in_more id k, m)

-- a link that no event made adds no maker
no_maker_more : (ids : List LinkId) (id : LinkId) (es : List EventId) → ((e : EventId) → id.maker ≡ maker.Event e → ⊥) → HasMakers ids es → HasMakers (id ∷ ids) es
no_maker_more ids id es none has = record { each = λ e m. each e (maker_cases ids id e m); only = λ e i. maker_behind ids id e (has.only e i) }
  where
    each : (e : EventId) → (id.maker ≡ maker.Event e) ⊎ IsMaker ids e → IsIn e es
    each e (inl m) = absurd (none e m)
    each e (inr m) = has.each e m

-- a link that an event made adds that event
maker_more : (ids : List LinkId) (id : LinkId) (e : EventId) (es : List EventId) → id.maker ≡ maker.Event e → HasMakers ids es → HasMakers (id ∷ ids) (e ∷ es)
maker_more ids id e es made has = record { each = λ f m. each f (maker_cases ids id f m); only = λ f i. only f (in-cons_cases i) }
  where
    each : (f : EventId) → (id.maker ≡ maker.Event f) ⊎ IsMaker ids f → IsIn f (e ∷ es)
    each f (inl m) = let both : maker.Event f ≡ maker.Event e = sym m ∙ made in let one : f ≡ e = cc in subst (λ g. IsIn g (e ∷ es)) (sym one) (in_first e es)
    each f (inr m) = in_more e (has.each f m)

    only : (f : EventId) → (f ≡ e) ⊎ IsIn f es → IsMaker (id ∷ ids) f
    only f (inl s) = (id, in_first id ids, made ∙ ap (λ g. maker.Event g) (sym s))
    only f (inr i) = maker_behind ids id f (has.only f i)

-- the events that made the links, one for each, are their makers
pub has_makers : (ids : List LinkId) → HasMakers ids (makers_of ids)
has_makers [] = no_makers
has_makers (id ∷ ids) = by id.maker refl (has_makers ids)
  where
    by : (m : MakerId) → id.maker ≡ m → HasMakers ids (makers_of ids) → HasMakers (id ∷ ids) (with_maker m (makers_of ids))
    by maker.Start e has = no_maker_more ids id (makers_of ids) (λ f m. let both : maker.Start ≡ maker.Event f = sym e ∙ m in absurd cc) has
    by (maker.Event f) e has = maker_more ids id f (makers_of ids) e has

-- sorted, and without those that are there twice, each is there once
pub makers_once : (ids : List LinkId) (es sorted : List EventId) → HasMakers ids es → IsPermutation es sorted → IsSorted event_cmp sorted → AreMakers ids (dedup same_event sorted)
makers_once ids es sorted has moved rises = record {
  each = λ e m. contains-in e _ (Contains-dedup event_equivalence same_event_true sorted e (Contains-permutation es sorted e moved (in-contains (has.each e m))));
  only = λ e i. has.only e (contains-in e es (Contains-permutation sorted es e (IsPermutation-sym es sorted moved) (Contains-from_dedup same_event sorted e (in-contains i))));
  once = strict_once event_total (dedup same_event sorted) (IsStrictlySortedBy-dedup event_total (λ a b. sym (event_at a b)) sorted rises);
}

-- fewer than two are there once each
pub few_makers : (ids : List LinkId) (es : List EventId) → HasMakers ids es → length es ≤ 1 → AreMakers ids es
few_makers ids es has few = record {
  each = has.each;
  only = has.only;
  once = λ e rest p i. let long = length-pick p in let more = length-pick i.1 in omega (arith, few, long, more);
}
