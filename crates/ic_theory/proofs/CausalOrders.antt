-- Neighbours in a causal order change places, and any causal order reaches the canonical one.
use Rattle.std.proofs.Common.{◌≡◌, ℕ, List, [], ◌∷◌, ◌++◌, refl, sym, ap, subst, ◌∙◌, append_assoc}
use Rattle.std.proofs.lemmas.List.{append-nil}
use Rattle.std.specs.List.{AllByRecursion}
use Rattle.std.specs.List.Sorted.{IsStrictlySortedBy}
use Rattle.std.specs.Ordering.{ordering_reverse}
use Rattle.std.specs.declared.cmp.Ordering.TheVariants.{Less, Greater}
use Rattle.ic_name.specs.Events.{Event}
use Rattle.ic_path.specs.Orders.{Pick, here, there, IsIn, Alike, none, more}
use Rattle.ic_path.proofs.Alikes.{alike_self, alike_then, alike_back}
use Rattle.ic_theory.specs.Starts.{Start, IsProper}
use Rattle.ic_theory.specs.Causes.{IsCause, IsRank, canonical_cmp}
use Rattle.ic_theory.specs.CausalOrders.{IsCausalOrder, AreIndependent, Reorders}
use Rattle.ic_theory.specs.CausalOrders.{done as same_order, exchanged as exchange}
use Rattle.ic_theory.specs.Exchanges.{Exchanges, done, exchanged, IsCanonical}
use Rattle.ic_theory.specs.Firings.{IsFired, AreAfterCauses, then_fired}
use Rattle.ic_theory.specs.Sound.{IsSound}
use Rattle.ic_theory.specs.Nets.{Net, net_of, IsSameNet}
use Rattle.ic_theory.specs.Steps.{steps, AreDefined}
use Rattle.ic_theory.proofs.AnyOrder.{net-alike}
use Rattle.ic_theory.proofs.Closed.{cause_stays}
use Rattle.ic_theory.proofs.Exchanging.{ordered}
use Rattle.ic_theory.proofs.Future.{earlier}
use Rattle.ic_theory.proofs.Neighbours.{swapped_at, fired_at}
use Rattle.ic_theory.proofs.Ranks.{cause_included, same_set, sound-alike}
use Rattle.ic_theory.proofs.Replies.{canonical_total}
use Rattle.ic_theory.proofs.Runs.{one_net, fired_steps}
use Rattle.ic_theory.proofs.Sound.{fired_sound, sound_fired}

-- events fired after some are put in front of them, the latest first
fired_after : (first list : List Event) → then_fired first list ≡ then_fired [] list ++ first
fired_after first [] = refl
fired_after first (e ∷ es) =
    fired_after (e ∷ first) es ∙ sym (append_assoc (then_fired [] es) (e ∷ []) first) ∙ ap (λ xs. xs ++ first) (sym (fired_after (e ∷ []) es))

-- a list is fired part by part
fired_parts : (first xs ys : List Event) → then_fired first (xs ++ ys) ≡ then_fired (then_fired first xs) ys
fired_parts first [] ys = refl
fired_parts first (x ∷ xs) ys = fired_parts (x ∷ first) xs ys

-- the latest first, two neighbours stand the other way round
turned_at : (front back : List Event) (e f : Event) → then_fired [] (front ++ e ∷ f ∷ back) ≡ then_fired [] back ++ f ∷ e ∷ then_fired [] front
turned_at front back e f = fired_parts [] front (e ∷ f ∷ back) ∙ fired_after (f ∷ e ∷ then_fired [] front) back

-- turned round twice a list is what it was
turned_twice : (list : List Event) → then_fired [] (then_fired [] list) ≡ list
turned_twice [] = refl
turned_twice (x ∷ xs) =
    ap (then_fired []) (fired_after (x ∷ []) xs) ∙ fired_parts [] (then_fired [] xs) (x ∷ []) ∙ ap (λ ys. x ∷ ys) (turned_twice xs)

-- turned round it has the same events
turned_alike : (list : List Event) → Alike list (then_fired [] list)
turned_alike [] = none
turned_alike (x ∷ xs) =
    subst (λ ys. Alike (x ∷ xs) ys) (sym (fired_after (x ∷ []) xs)) (more (at_end (then_fired [] xs)) (subst (λ ys. Alike xs ys) (sym (append-nil (then_fired [] xs))) (turned_alike xs)))
  where
    at_end : (ys : List Event) → Pick x (ys ++ x ∷ []) (ys ++ [])
    at_end [] = here
    at_end (y ∷ ys) = there (at_end ys)

-- in canonical order the latest first, in strict order the earliest first
canonical_sorted : (rank : Event → ℕ) (es : List Event) → IsCanonical rank es → IsStrictlySortedBy (canonical_cmp rank) (then_fired [] es)
unfolding IsStrictlySortedBy
canonical_sorted rank es c = go es [] c tt (λ x y i j. elim j.1 [ ])
  where
    turned : (x y : Event) → canonical_cmp rank y x ≡ Greater → canonical_cmp rank x y ≡ Less
    turned x y h = (canonical_total rank).antisymm x y ∙ ap ordering_reverse h

    all : {P : Event → Type 0} (xs : List Event) → ((x : Event) → IsIn x xs → P x) → AllByRecursion P xs
    all [] h = tt
    all (x ∷ xs) h = (h x (xs, here), all xs (λ y i. h y (_, there i.1)))

    go : (es later : List Event) → IsCanonical rank es → IsStrictlySortedBy (canonical_cmp rank) later
        → ((x y : Event) → IsIn x es → IsIn y later → canonical_cmp rank x y ≡ Less) → IsStrictlySortedBy (canonical_cmp rank) (then_fired later es)
    go [] later c h below = h
    go (e ∷ es) later c h below = go es (e ∷ later) c.1 (all later (λ y i. below e y (es, here) i), h) (λ x y i j. under x y i j.1)
      where
        under : (x y : Event) {rest : List Event} → IsIn x es → Pick y (e ∷ later) rest → canonical_cmp rank x y ≡ Less
        under x y i here = turned x e (c.0 x i)
        under x y i (there k) = below x y (_, there i.1) (_, k)

-- nets that are equal are the same
same_net : {m n : Net} → m ≡ n → IsSameNet m n
same_net {m} {n} e = subst (IsSameNet m) e (record { kinds = λ x. refl; partners = λ p. refl; rings = refl; profile = refl })

module _ (s : Start) (ok : IsProper s) where
  -- along causal orders of one set the steps end in one net
  pub same_end : (list order : List Event) → IsCausalOrder s list → IsFired s (then_fired [] order) → Alike (then_fired [] list) (then_fired [] order)
      → IsSameNet (steps (net_of s []) list) (steps (net_of s []) order)
  same_end list order o f a = same_net (
      (fired_steps s ok list (sound_fired s ok _ o.0 o.1)).1
      ∙ one_net (net-alike s ok o.0 a)
      ∙ sym (fired_steps s ok order f).1
      )

  -- along each causal order of a sound set the steps are defined, and end in the net of the set
  pub every : {es : List Event} (list : List Event) → IsSound s es → Alike es (then_fired [] list) → AreAfterCauses s (then_fired [] list) (then_fired [] list)
      → AreDefined (net_of s []) list × IsSameNet (steps (net_of s []) list) (net_of s es)
  every list h a o =
      let r = fired_steps s ok list (sound_fired s ok _ (sound-alike s a h) o) in
      (r.0, same_net (r.1 ∙ sym (one_net (net-alike s ok h a))))

  -- neighbours of which neither causes the other change places
  pub exchanged_at : (front back : List Event) (e f : Event) → IsCausalOrder s (front ++ e ∷ f ∷ back) → AreIndependent s (then_fired [] (front ++ e ∷ f ∷ back)) e f
      → IsCausalOrder s (front ++ f ∷ e ∷ back) × Alike (then_fired [] (front ++ e ∷ f ∷ back)) (then_fired [] (front ++ f ∷ e ∷ back))
  exchanged_at front back e f o n = (fired_sound s ok _ now, alike)
    where
      later : List Event
      later = then_fired [] back

      es : List Event
      es = then_fired [] front

      apart : IsCause s (f ∷ e ∷ es) f e → ⊥
      apart k = n.second (subst (λ all. IsCause s all f e) (sym (turned_at front back e f)) (cause_included s (record { others = later; alike = alike_self (later ++ f ∷ e ∷ es) }) k))

      now : IsFired s (then_fired [] (front ++ f ∷ e ∷ back))
      now = subst (IsFired s) (sym (turned_at front back f e)) (fired_at s ok later e f es (subst (IsFired s) (turned_at front back e f) (sound_fired s ok _ o.0 o.1)) apart)

      alike : Alike (then_fired [] (front ++ e ∷ f ∷ back)) (then_fired [] (front ++ f ∷ e ∷ back))
      alike = subst (λ xs. Alike xs (then_fired [] (front ++ f ∷ e ∷ back))) (sym (turned_at front back e f)) (subst (Alike (later ++ f ∷ e ∷ es)) (sym (turned_at front back f e)) (swapped_at later e f es))

  -- events are independent in a set in any order of it
  independent-alike : {set other : List Event} {e f : Event} → Alike set other → AreIndependent s set e f → AreIndependent s other e f
  independent-alike a n = record { first = λ k. n.first (cause_included s (same_set (alike_back a)) k); second = λ k. n.second (cause_included s (same_set (alike_back a)) k) }

  -- exchanges lead from a causal order to causal orders of the same events
  pub reordered : {set list order : List Event} → Alike set (then_fired [] list) → Reorders s set list order → IsCausalOrder s list → IsCausalOrder s order × Alike (then_fired [] list) (then_fired [] order)
  reordered {list = list} a same_order o = (o, alike_self _)
  reordered a (exchange {e = e} {f = f} front back n r) o =
      let x = exchanged_at front back e f o (independent-alike a n) in
      let ih = reordered (alike_then a x.1) r x.0 in
      (ih.0, alike_then x.1 ih.1)

  -- what was fired before some events was fired
  before : (later : List Event) {es : List Event} → IsFired s (later ++ es) → IsFired s es
  before [] h = h
  before (x ∷ later) h = before later (earlier h)

  -- a cause of an event is one before what was fired later
  cause_before : (set later es : List Event) (x y : Event) → Alike set (later ++ es) → IsFired s (later ++ es) → IsIn x es → IsCause s set x y → IsCause s es x y
  cause_before set later es x y a h i k =
      cause_stays s ok (fired_sound s ok _ h).0.apart (record { others = later; alike = alike_self (later ++ es) }) (fired_sound s ok es (before later h)).0 i (cause_included s (same_set a) k)

  -- exchanges in a firing of the set are exchanges in its order
  forward : {set es gs : List Event} → Alike set es → IsFired s es → Exchanges s es gs → Reorders s set (then_fired [] es) (then_fired [] gs)
  forward a h done = same_order
  forward {set} a h (exchanged {e = e} {f = f} {es = es} {gs = gs} later n m r) =
      let rest = forward (alike_then a (swapped_at later e f es)) (fired_at s ok later e f es h n) r in
      let at = cause_before set later (f ∷ e ∷ es) in
      subst (λ (list : List Event). Reorders s set list (then_fired [] gs)) (sym (turned_at later es f e))
      (exchange (then_fired [] es) (then_fired [] later) (record { first = λ k. m (at e f a h (_, there here) k); second = λ k. n (at f e a h (_, here) k) })
      (subst (λ (list : List Event). Reorders s set list (then_fired [] gs)) (turned_at later es e f) rest))

  -- what is known of the canonical order of a set
  pub record Canonical (rank : Event → ℕ) (list : List Event) : Type 0 where
    pub order : List Event
    pub reorders : Reorders s (then_fired [] list) list order
    pub causal : IsCausalOrder s order
    pub sorted : IsStrictlySortedBy (canonical_cmp rank) order
    pub alike : Alike list order
    pub ends : IsSameNet (steps (net_of s []) list) (steps (net_of s []) order)

  -- any causal order reaches the canonical one
  pub canonical_order : (rank : Event → ℕ) (list : List Event) → IsCausalOrder s list → IsRank s (then_fired [] list) rank → Canonical rank list
  canonical_order rank list o r =
      let set : List Event = then_fired [] list in
      let h : IsFired s set = sound_fired s ok set o.0 o.1 in
      let q = ordered s ok rank set h r.above in
      let firing : IsFired s (then_fired [] (then_fired [] q.order)) = subst (IsFired s) (sym (turned_twice q.order)) q.firing in
      let alike : Alike set (then_fired [] (then_fired [] q.order)) = subst (Alike set) (sym (turned_twice q.order)) q.alike in
      record {
        order = then_fired [] q.order;
        reorders = subst (λ (xs : List Event). Reorders s set xs (then_fired [] q.order)) (turned_twice list) (forward (alike_self set) h q.exchanges);
        causal = fired_sound s ok _ firing;
        sorted = canonical_sorted rank q.order q.canonical;
        alike = alike_then (turned_alike list) (alike_then q.alike (turned_alike q.order));
        ends = same_end list (then_fired [] q.order) o firing alike;
      }

  -- exchanges of neighbours keep the net in which the steps end
  pub along : {list order : List Event} → IsCausalOrder s list → Reorders s (then_fired [] list) list order
      → IsCausalOrder s order × IsSameNet (steps (net_of s []) list) (steps (net_of s []) order) × Alike list order
  along {list} {order} o r =
      let x = reordered (alike_self _) r o in
      (x.0, same_end list order o (sound_fired s ok _ x.0.0 x.0.1) x.1, alike_then (turned_alike list) (alike_then x.1 (alike_back (turned_alike order))))
