-- The active pairs that names lead, listed along the names.
use Rattle.std.proofs.Common.{◌≡◌, ◌≢◌, ◌<◌, Bool, false, List, [], ◌∷◌, ◌++◌, length, map, refl, inl, inr, sym, ap, subst, ◌∙◌}
use Rattle.std.specs.Cmp.{IsStrictWeakOrder}
use Rattle.std.specs.List.{AllByRecursion}
use Rattle.std.specs.List.Sorted.{IsPermutation, IsSortedBy, IsStrictlySortedBy}
use Rattle.std.specs.Ordering.{is_lt}
use Rattle.std.specs.declared.cmp.Ordering.{Ordering}
use Rattle.std.specs.declared.cmp.Ordering.TheVariants.{Less, Equal, Greater}
use Rattle.std.proofs.lemmas.List.Sorted.{ranks_by, Contains-permutation, IsPermutation-sym, length_permutation}
use Rattle.ic_name.specs.Names.{Name, name_cmp}
use Rattle.ic_name.specs.Events.{Event}
use Rattle.ic_name.proofs.NameOrder.{name_cmp_total, name_tied, name_flip}
use Rattle.ic_path.specs.Orders.{here, Alike, IsIn, IsOnce}
use Rattle.ic_path.proofs.Picks.{none_in, in_first, in_more, in-cons_cases, in-contains, contains-in, pick-map}
use Rattle.ic_path.proofs.Alikes.{alike-map}
use Rattle.ic_path.proofs.EachOnce.{once_cons, once_rest}
use Rattle.ic_path.proofs.Sorts.{Ascends}
use Rattle.ic_theory.proofs.Future.{not_before_self}
use Rattle.ic_path.proofs.InLists.{in-map, map_cases}
use Rattle.ic_path.proofs.OnceLists.{once-alike, alike_by_length}
use Rattle.ic_names.specs.Tables.{name_at, IsTable}
use Rattle.ic_names.specs.declared.queue.Lead.{Lead}
use Rattle.ic_names.specs.Queues.{place_of, places, AreNamed, StandOnce}
use Rattle.ic_names.proofs.QueuedPlaces.{once-places}
use Rattle.ic_names.proofs.Heaps.{queued_inside}
use Rattle.ic_set.specs.declared.pairs.ActivePair.{ActivePair}
use Rattle.ic_set.specs.Pairs.{AreJoined, IsPairOf, AreActivePairs}
use Rattle.ic_set.specs.Queues.{Leads, HasLeads}
use Rattle.ic_set.specs.Sets.{IsStandingSet}
use Rattle.ic_set.specs.Views.{SetView, NamedView}
use Rattle.ic_set.proofs.ActivePairs.{one_id, one_name, one_pair, joined_pair, joined_once}
use Rattle.ic_set.proofs.Partners.{joined_back}
use Rattle.ic_path.proofs.StrictOrders.{sorted_ascends}

-- a pair with its event
abbrev EventPair : Type 0
EventPair = Event × ActivePair

-- the name of a lead
abbrev name_of : List Name → Lead → Name
name_of ns l = name_at ns (place_of l)

-- the pairs that these names lead, in order of the names
pub data LedBy (v : NamedView) : List Lead → List EventPair → Type 0 where
  nothing : LedBy v [] []
  passes : {l : Lead} {ls : List Lead} {xs : List EventPair} → (Leads v (place_of l) → ⊥) → LedBy v ls xs → LedBy v (l ∷ ls) xs
  leads : {l : Lead} {ls : List Lead} {x : EventPair} {xs : List EventPair} → x.0.lead ≡ name_of v.names l → IsPairOf v.set x.0 x.1 → LedBy v ls xs → LedBy v (l ∷ ls) (x ∷ xs)

-- one name more that leads no pair, and one that leads one
pub led_passes : (v : NamedView) {ls : List Lead} {xs : List EventPair} (l : Lead) → LedBy v ls xs → (Leads v (place_of l) → ⊥) → LedBy v (ls ++ l ∷ []) xs
led_passes v l nothing none = passes none nothing
led_passes v l (passes f r) none = passes f (led_passes v l r none)
led_passes v l (leads e h r) none = leads e h (led_passes v l r none)

pub led_more : (v : NamedView) {ls : List Lead} {xs : List EventPair} (l : Lead) (x : EventPair) → LedBy v ls xs → x.0.lead ≡ name_of v.names l → IsPairOf v.set x.0 x.1 → LedBy v (ls ++ l ∷ []) (xs ++ x ∷ [])
led_more v l x nothing same h = leads same h nothing
led_more v l x (passes f r) same h = passes f (led_more v l x r same h)
led_more v l x (leads e k r) same h = leads e k (led_more v l x r same h)

-- each of them is a pair, and its lead has one of the names
led_only : (v : NamedView) {ls : List Lead} {xs : List EventPair} → LedBy v ls xs → (x : EventPair) → IsIn x xs → IsPairOf v.set x.0 x.1 × (l : Lead) × IsIn l ls × (x.0.lead ≡ name_of v.names l)
led_only v nothing x i = absurd (none_in i)
led_only v (passes {l} f r) x i = let o = led_only v r x i in (o.0, o.1, in_more l o.2, o.3)
led_only v (leads {l} {ls} {x = y} e h r) x i = elim (in-cons_cases i) [
  | inl q ↦ (subst (λ z. IsPairOf v.set z.0 z.1) (sym q) h, l, in_first l ls, ap (λ z. z.0.lead) q ∙ e)
  | inr j ↦ (let o = led_only v r x j in (o.0, o.1, in_more l o.2, o.3))
]

-- a pair that one of the names leads is among them
led_each : (v : NamedView) → IsStandingSet v.set → {ls : List Lead} {xs : List EventPair} → LedBy v ls xs → (x : EventPair) → IsPairOf v.set x.0 x.1 → (l : Lead) → IsIn l ls → x.0.lead ≡ name_of v.names l → IsIn x xs
led_each v set nothing x h l i named = absurd (none_in i)
led_each v set (passes f r) x h l i named = elim (in-cons_cases i) [
  | inl q ↦ absurd (f (x.0, x.1, h, named ∙ ap (name_of v.names) q))
  | inr j ↦ led_each v set r x h l j named
]
led_each v set (leads {x = y} {xs} e k r) x h l i named = elim (in-cons_cases i) [
  | inl q ↦ (let lead = one_name v.set set _ _ k.lead h.lead (e ∙ sym (named ∙ ap (name_of v.names) q)) in
      let same = one_pair v.set set y.0 x.0 y.1 x.1 k h (ap (λ m. m.id) lead) in
      let z : y ≡ x = λ u. (same.0 u, same.1 u) in
      subst (λ w. IsIn w (y ∷ xs)) z (in_first y xs))
  | inr j ↦ in_more y (led_each v set r x h l j named)
]

-- an agent that is the second of a pair leads none
pub second_leads_none : (v : SetView) → IsStandingSet v → (e f : Event) (p q : ActivePair) → IsPairOf v e p → IsPairOf v f q → p.other ≡ q.lead → ⊥
second_leads_none v set e f p q h k same =
    let back = subst (λ a. AreJoined v a p.lead) same (joined_back v set (joined_pair v set e p h)) in
    let lead = ap (λ z. z.name) (one_id v set _ _ h.other k.lead same) in
    let other = ap (λ z. z.name) (one_id v set _ _ h.lead k.other (joined_once v set q.lead p.lead q.other back (joined_pair v set f q k))) in
    let less = h.active.present.ordered in
    let turned = subst (λ z. name_cmp z e.lead ≡ Less) (sym lead) (subst (λ z. name_cmp f.lead z ≡ Less) (sym other) k.active.present.ordered) in
    let flip = name_cmp_total.antisymm e.lead e.other in
    cc

-- what names are sorted by
abbrev pub is_less_lead : List Name → Lead → Lead → Bool
is_less_lead ns l m = is_lt (name_cmp (name_of ns l) (name_of ns m))

-- it is an order
pub less_leads_order : (ns : List Name) → IsStrictWeakOrder (is_less_lead ns)
less_leads_order ns = ranks_by name_cmp_total (name_of ns)

-- names that rise strictly
abbrev AreRising : List Name → List Lead → Type 0
AreRising ns [] = Unit {0}
AreRising ns (l ∷ ls) = ((m : Lead) → IsIn m ls → name_cmp (name_of ns l) (name_of ns m) ≡ Less) × AreRising ns ls

-- where the second of two names is not before the first, and is another, it comes after it
comes_after : (m n : Name) → is_lt (name_cmp n m) ≡ false → n ≢ m → name_cmp m n ≡ Less
comes_after m n later other = by (name_cmp n m) refl
  where
    by : (o : Ordering) → name_cmp n m ≡ o → name_cmp m n ≡ Less
    by Less e = let c = ap is_lt e in absurd cc
    by Equal e = absurd (other (name_tied n m e))
    by Greater e = name_flip n m e

-- names of a table that ascend, each once, rise strictly
rising : (ns : List Name) → IsTable ns → (ls : List Lead) → ((l : Lead) → IsIn l ls → place_of l < length ns) → IsOnce (places ls) → Ascends (is_less_lead ns) ls → AreRising ns ls
rising ns table [] inside once up = tt
rising ns table (l ∷ ls) inside once up = (
  λ m i. comes_after (name_of ns l) (name_of ns m) (up.0 m i)
      (λ e. once (place_of l) (places ls) here (subst (λ n. IsIn n (places ls)) (table.once (place_of m) (place_of l) (inside m (in_more l i)) (inside l (in_first l ls)) e) (in-map place_of i))),
  rising ns table ls (λ m i. inside m (in_more l i)) (once_rest once here) up.1,
)

-- the names of the leads rise with these
led_rising : (v : NamedView) (ls : List Lead) {xs : List EventPair} → AreRising v.names ls → LedBy v ls xs → IsStrictlySortedBy name_cmp (map (λ (x : EventPair). x.0.lead) xs)
unfolding IsStrictlySortedBy
led_rising v [] up nothing = tt
led_rising v (l ∷ ls) up (passes f r) = led_rising v ls up.1 r
led_rising v (l ∷ ls) up (leads {x} {xs} e h r) = (above xs (λ y i. first y (led_only v r y i)), led_rising v ls up.1 r)
  where
    first : (y : EventPair) → IsPairOf v.set y.0 y.1 × (m : Lead) × IsIn m ls × (y.0.lead ≡ name_of v.names m) → name_cmp x.0.lead y.0.lead ≡ Less
    first y (k, m, i, named) = subst (λ z. name_cmp z y.0.lead ≡ Less) (sym e) (subst (λ z. name_cmp (name_of v.names l) z ≡ Less) (sym named) (up.0 m i))

    above : (ys : List EventPair) → ((y : EventPair) → IsIn y ys → name_cmp x.0.lead y.0.lead ≡ Less) → AllByRecursion (λ n. name_cmp x.0.lead n ≡ Less) (map (λ (y : EventPair). y.0.lead) ys)
    above [] f = tt
    above (y ∷ ys) f = (f y (in_first y ys), above ys (λ z i. f z (in_more y i)))

-- what is strictly sorted by a key is there once
sorted_once : (xs : List EventPair) → IsStrictlySortedBy name_cmp (map (λ (x : EventPair). x.0.lead) xs) → IsOnce xs
unfolding IsStrictlySortedBy
sorted_once [] up = λ x rest k i. elim k [ ]
sorted_once (x ∷ xs) up = once_cons (λ i. not_before_self x.0.lead (one_of xs i up.0)) (sorted_once xs up.1)
  where
    one_of : (ys : List EventPair) → IsIn x ys → AllByRecursion (λ n. name_cmp x.0.lead n ≡ Less) (map (λ (y : EventPair). y.0.lead) ys) → name_cmp x.0.lead x.0.lead ≡ Less
    one_of [] i all = absurd (none_in i)
    one_of (y ∷ ys) i all = elim (in-cons_cases i) [ inl e ↦ subst (λ (z : EventPair). name_cmp x.0.lead z.0.lead ≡ Less) (sym e) all.0 | inr j ↦ one_of ys j all.1 ]

-- names that are sorted stay among those of the table
pub moved_inside : (ns : List Name) (ls sorted : List Lead) → AreNamed ns ls → IsPermutation ls sorted → (l : Lead) → IsIn l sorted → place_of l < length ns
moved_inside ns ls sorted named moved l i = queued_inside named (in-map place_of (contains-in l ls (Contains-permutation sorted ls l (IsPermutation-sym ls sorted moved) (in-contains i))))

-- the pairs that names lead, each name once and sorted, are the active pairs, where the lead of each has one of the names
pub led_pairs : (v : NamedView) → IsStandingSet v.set → IsTable v.names → (ls sorted : List Lead) (xs : List EventPair) (pairs : List ActivePair) → AreNamed v.names ls → StandOnce ls → HasLeads v ls
    → IsPermutation ls sorted → IsSortedBy (is_less_lead v.names) sorted → LedBy v sorted xs → map (λ (x : EventPair). x.1) xs ≡ pairs → AreActivePairs v.set pairs
led_pairs v set table ls sorted xs pairs named once has moved ordered led same = record {
  order = xs;
  each = record {
    each = λ x h. (
        let q = has x.0 x.1 h in
        let l = map_cases place_of ls q.2 in
        led_each v set led x h l.0 (stays l.0 l.1) (sym q.1.named ∙ ap (name_at v.names) (sym l.2)));
    only = λ x i. (led_only v led x i).0;
    once = sorted_once xs up;
  };
  by_lead = up;
  named = same;
}
  where
    stays : (l : Lead) → IsIn l ls → IsIn l sorted
    stays l i = contains-in l sorted (Contains-permutation ls sorted l moved (in-contains i))

    alike : Alike ls sorted
    alike = alike_by_length ls sorted (λ l rest k i. once-places ls once (place_of l) (places rest) (pick-map place_of k) (in-map place_of i)) stays (sym (length_permutation ls sorted moved))

    up : IsStrictlySortedBy name_cmp (map (λ (x : EventPair). x.0.lead) xs)
    up =
        let up = sorted_ascends (is_less_lead v.names) (less_leads_order v.names) sorted ordered in
        led_rising v sorted (rising v.names table sorted (moved_inside v.names ls sorted named moved) (once-alike (alike-map place_of alike) (once-places ls once)) up) led
