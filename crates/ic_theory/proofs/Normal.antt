-- Each legal list is equivalent to the firings of its standing set.
use Rattle.std.proofs.Common.{◌≡◌, List, [], ◌∷◌, ◌++◌, ◌⊎◌, inl, inr, sym, arith, subst, append_assoc, append-nil, ◌∙◌}
use Rattle.ic_name.specs.Events.{Event}
use Rattle.ic_theory.specs.Born.{born_agents}
use Rattle.ic_theory.proofs.Future.{earlier, last_active, in_included}
use Rattle.ic_path.specs.Orders.{Pick, here, there, Alike, more}
use Rattle.ic_path.proofs.Alikes.{alike_self, alike_pick, picked_alike, alike_back}
use Rattle.ic_theory.specs.Starts.{Start, start_agents, IsProper}
use Rattle.ic_path.specs.Orders.{IsIn}
use Rattle.ic_theory.specs.Active.{IsActive}
use Rattle.ic_theory.specs.Firings.{IsFired, nothing, fired, AreAfterCauses}
use Rattle.ic_theory.specs.Causes.{IsCause}
use Rattle.ic_theory.specs.Sound.{IsSound}
use Rattle.ic_theory.specs.Sets.{consumed_times}
use Rattle.ic_theory.specs.Letters.{Letter, Fire, Undo, HasNoDependent, Runs, stops, fires, undoes, IsLegal, AreConcurrent, swaps, fire_undo, AreEquivalent, same, forth, back}
use Rattle.ic_theory.proofs.Future.{includes_self, includes_more, in_alike, consumed_in, loose_agent, present_included, path_included}
use Rattle.ic_theory.proofs.Sound.{fired_sound}
use Rattle.ic_theory.proofs.Ranks.{cause_included, same_set, cause_in, first_or_in, sound_union, consumed-alike}
use Rattle.ic_theory.proofs.Closed.{cause_stays}
use Rattle.ic_theory.proofs.Swaps.{fired_swap}

-- the firings of a set, the latest event first in the set, the earliest first in the list
abbrev firings : List Event → List Letter
firings [] = []
firings (e ∷ es) = firings es ++ Fire e ∷ []

module _ (s : Start) where
  -- two equivalences make one
  then_same : {ls ms ns : List Letter} → AreEquivalent s ls ms → AreEquivalent s ms ns → AreEquivalent s ls ns
  then_same same q = q
  then_same (forth m a b p) q = forth m a b (then_same p q)
  then_same (back m a b p) q = back m a b (then_same p q)

  -- letters, and then more
  runs_on : {es fs gs : List Event} {ls ms : List Letter} → Runs s es ls fs → Runs s fs ms gs → Runs s es (ls ++ ms) gs
  runs_on stops q = q
  runs_on (fires a p) q = fires a (runs_on p q)
  runs_on (undoes k n p) q = undoes k n (runs_on p q)

  -- the firings of a set lead to it
  firing_runs : {es : List Event} → IsFired s es → Runs s [] (firings es) es
  firing_runs nothing = stops
  firing_runs (fired f a) = runs_on (firing_runs f) (fires a stops)

  -- the firings of a set and what it accepts then are legal
  legal_on : {es fs : List Event} {ms : List Letter} → IsFired s es → Runs s es ms fs → IsLegal s (firings es ++ ms)
  legal_on {fs = fs} f r = (fs, runs_on (firing_runs f) r)

  -- an active event is active in any order of the set
  pub active-alike : {e : Event} {es es' : List Event} → Alike es es' → IsActive s es e → IsActive s es' e
  active-alike {e} {es} {es'} a h =
      let l = h.wire.from_loose in
      let o = h.wire.to_loose in
      let i = same_set a in
      record {
        present = present_included s i h.present;
        wire = record {
          path = path_included s i h.wire.path;
          from_loose = (l.0, in_included born_agents (start_agents s) i l.1, l.2, sym (consumed-alike e.lead a) ∙ l.3);
          to_loose = (o.0, in_included born_agents (start_agents s) i o.1, o.2, sym (consumed-alike e.other a) ∙ o.3);
        };
      }

  -- what a set accepts it accepts in any order
  runs-alike : {es es' fs : List Event} {ls : List Letter} → Runs s es ls fs → Alike es es' → (fs' : List Event) × Runs s es' ls fs' × Alike fs fs'
  runs-alike stops a = (_, stops, a)
  runs-alike (fires h r) a = let q = runs-alike r (more here a) in (q.0, fires (active-alike a h) q.1, q.2)
  runs-alike (undoes k n r) a =
      let p = alike_pick a k in
      let q = runs-alike r p.2 in
      (q.0, undoes p.1 (λ f i c. n f (in_alike i (alike_back a)) (cause_included s (same_set (alike_back a)) c)) q.1, q.2)

  -- the last two letters, written apart
  two_last : (xs ms : List Letter) (x y : Letter) → ((xs ++ x ∷ []) ++ y ∷ []) ++ ms ≡ xs ++ x ∷ y ∷ ms
  two_last xs ms x y = append_assoc (xs ++ x ∷ []) (y ∷ []) ms ∙ append_assoc xs (x ∷ []) (y ∷ ms)

  -- two concurrent firings at the end change places
  exchange : {e f : Event} {es fs gs : List Event} {ms : List Letter} → IsFired s (f ∷ e ∷ es) → IsFired s (e ∷ f ∷ es) → AreConcurrent s e f → Runs s (f ∷ e ∷ es) ms fs → Runs s (e ∷ f ∷ es) ms gs
      → AreEquivalent s (firings (f ∷ e ∷ es) ++ ms) (firings (e ∷ f ∷ es) ++ ms)
  exchange {e} {f} {es} {ms = ms} h k c r q =
      let i : IsLegal s (firings es ++ Fire e ∷ Fire f ∷ ms) = subst (λ z. IsLegal s z) (two_last (firings es) ms (Fire e) (Fire f)) (legal_on h r) in
      let j : IsLegal s (firings es ++ Fire f ∷ Fire e ∷ ms) = subst (λ z. IsLegal s z) (two_last (firings es) ms (Fire f) (Fire e)) (legal_on k q) in
      let m : AreEquivalent s (firings es ++ Fire e ∷ Fire f ∷ ms) (firings es ++ Fire f ∷ Fire e ∷ ms) = forth (swaps (firings es) ms (Fire e) (Fire f) c) i j same in
      rw (two_last (firings es) ms (Fire e) (Fire f), two_last (firings es) ms (Fire f) (Fire e)) m

  module _ (ok : IsProper s) where
    -- an event without dependents and the one that was fired last
    concurrent : {e a : Event} {es rest : List Event} → IsFired s (a ∷ es) → Pick e es rest → HasNoDependent s (a ∷ es) e → AreConcurrent s e a
    concurrent {e} {a} {es} f k n = record { different = differ; no_cause = none_of }
      where
        fresh : IsIn a es → ⊥
        fresh i = let z : consumed_times a.lead es ≡ 0 = loose_agent s es a.lead (last_active f).wire.from_loose in let x = consumed_in i.1 in absurd (omega arith)

        differ : e ≡ a → ⊥
        differ h = fresh (subst (λ x. IsIn x es) h (_, k))

        none_of : (all : List Event) → IsSound s all → IsIn e all → IsIn a all → (IsCause s all e a → ⊥) × (IsCause s all a e → ⊥)
        none_of all h i j =
            let now = fired_sound s ok (a ∷ es) f in
            let before = fired_sound s ok es (earlier f) in
            let u = sound_union s ok all (a ∷ es) h now.0 in (
              λ c. let x = cause_stays s ok u.1.apart u.3 now.0 (_, there k) (cause_included s u.2 c) in
                  let y = cause_stays s ok now.0.apart (includes_more a (includes_self es)) before.0 (_, k) x in
                  fresh (cause_in s y),
              λ c. n a (es, here) (cause_stays s ok u.1.apart u.3 now.0 (es, here) (cause_included s u.2 c)),
            )

    -- an event without dependents may be fired last
    fired_last : {e : Event} {es rest : List Event} → IsFired s es → Pick e es rest → HasNoDependent s es e → IsFired s (e ∷ rest)
    fired_last f here n = f
    fired_last {e} (fired {e = a} {es = es} f h) (there {rest = rest} k) n =
        let ih = fired_last f k (λ x i c. n x (_, there i.1) (cause_included s (includes_more a (includes_self es)) c)) in
        let now : IsFired s (a ∷ e ∷ rest) = fired ih (active-alike (picked_alike k) h) in
        fired_swap s ok e a rest now (λ c. n a (es, here) (cause_included s (same_set (more here (alike_back (picked_alike k)))) c))

    -- and moving it there keeps what the list is equivalent to
    moved_last : {e : Event} {es rest gs : List Event} {ms : List Letter} → IsFired s es → Pick e es rest → HasNoDependent s es e → Runs s es ms gs → AreEquivalent s (firings es ++ ms) (firings (e ∷ rest) ++ ms)
    moved_last f here n r = same
    moved_last {e} {ms = ms} (fired {e = a} {es = es} f h) (there {rest = rest} k) n r =
        let n' : HasNoDependent s es e = λ x i c. n x (_, there i.1) (cause_included s (includes_more a (includes_self es)) c) in
        let inner : AreEquivalent s (firings es ++ Fire a ∷ ms) (firings (e ∷ rest) ++ Fire a ∷ ms) = moved_last f k n' (fires h r) in
        let now : IsFired s (a ∷ e ∷ rest) = fired (fired_last f k n') (active-alike (picked_alike k) h) in
        let last : IsFired s (e ∷ a ∷ rest) = fired_last (fired f h) (there k) n in
        let q = runs-alike r (more here (picked_alike k)) in
        let p = runs-alike q.1 (more (there here) (more here (alike_self rest))) in
        let swap = exchange now last (concurrent (fired f h) k n) q.1 p.1 in
        let e1 : (firings es ++ Fire a ∷ []) ++ ms ≡ firings es ++ Fire a ∷ ms = append_assoc (firings es) (Fire a ∷ []) ms in
        let e2 : firings (e ∷ rest) ++ Fire a ∷ ms ≡ (firings (e ∷ rest) ++ Fire a ∷ []) ++ ms = sym (append_assoc (firings (e ∷ rest)) (Fire a ∷ []) ms) in
        rw e1 (then_same (rw e2 at inner) swap)

    -- a list from a fired set is equivalent to the firings of the set that it leads to
    pub normal : {es fs : List Event} {ls : List Letter} → IsFired s es → Runs s es ls fs → IsFired s fs × AreEquivalent s (firings es ++ ls) (firings fs)
    normal {es} f stops = (f, rw (append-nil (firings es)) same)
    normal {es} {fs} f (fires {e = e} {ls = ls} h r) = let ih = normal (fired f h) r in (ih.0, rw (← append_assoc (firings es) (Fire e ∷ []) ls) ih.1)
    normal {es} {fs} f (undoes {e = e} {rest = rest} {ls = ls} k n r) =
        let last = fired_last f k n in
        let rest_fired = earlier last in
        let ih = normal rest_fired r in
        let m = moved_last f k n (undoes k n r) in
        let e1 : (firings rest ++ Fire e ∷ []) ++ Undo e ∷ ls ≡ firings rest ++ Fire e ∷ Undo e ∷ ls = append_assoc (firings rest) (Fire e ∷ []) (Undo e ∷ ls) in
        let before : IsLegal s (firings rest ++ Fire e ∷ Undo e ∷ ls) = subst (λ z. IsLegal s z) e1 (legal_on last (undoes here (λ x i c. n x (in_alike i (alike_back (picked_alike k))) (cause_included s (same_set (alike_back (picked_alike k))) c)) r)) in
        let cancel : AreEquivalent s (firings rest ++ Fire e ∷ Undo e ∷ ls) (firings rest ++ ls) = forth (fire_undo (firings rest) ls e) before (legal_on rest_fired r) same in
        (ih.0, then_same (rw e1 at m) (then_same cancel ih.1))

    -- an equivalence goes both ways
    turned : {ls ms : List Letter} → AreEquivalent s ls ms → AreEquivalent s ms ls
    turned same = same
    turned (forth m a b p) = then_same (turned p) (back m b a same)
    turned (back m a b p) = then_same (turned p) (forth m b a same)

    -- the event that was fired last has no dependents
    pub last_free : {e : Event} {es : List Event} → IsFired s (e ∷ es) → HasNoDependent s (e ∷ es) e
    last_free {e} {es} f x i c = go (first_or_in i.1)
      where
        now : IsSound s (e ∷ es) × AreAfterCauses s (e ∷ es) (e ∷ es)
        now = fired_sound s ok (e ∷ es) f

        before : IsSound s es × AreAfterCauses s es es
        before = fired_sound s ok es (earlier f)

        fresh : IsIn e es → ⊥
        fresh j = let z : consumed_times e.lead es ≡ 0 = loose_agent s es e.lead (last_active f).wire.from_loose in let y = consumed_in j.1 in absurd (omega arith)

        own : x ≡ e → IsCause s (e ∷ es) e e
        own h = subst (λ y. IsCause s (e ∷ es) y e) h c

        go : (x ≡ e) ⊎ IsIn x es → ⊥
        go (inl h) = fresh (now.1.0 e (own h))
        go (inr j) = fresh (cause_in s (cause_stays s ok now.0.apart (includes_more e (includes_self es)) before.0 j c))

    -- two firings of one set are equivalent
    one_set : {es fs gs : List Event} {ms : List Letter} → IsFired s es → IsFired s fs → Alike es fs → Runs s es ms gs → AreEquivalent s (firings es ++ ms) (firings fs ++ ms)
    one_set nothing nothing a r = same
    one_set nothing (fired f h) a r = absurd (no_more a)
      where
        no_more : {X : Type 0} {x : X} {xs : List X} → Alike [] (x ∷ xs) → ⊥
        no_more a = elim (alike_pick (alike_back a) here).1 [ ]
    one_set {fs = fs} {ms = ms} (fired {e = e} {es = es} f h) g a r =
        let p = alike_pick a here in
        let n : HasNoDependent s fs e = λ x i c. last_free (fired f h) x (in_alike i (alike_back a)) (cause_included s (same_set (alike_back a)) c) in
        let last : IsFired s (e ∷ p.0) = fired_last g p.1 n in
        let q = runs-alike r a in
        let m : AreEquivalent s (firings fs ++ ms) (firings (e ∷ p.0) ++ ms) = moved_last g p.1 n q.1 in
        let ih : AreEquivalent s (firings es ++ Fire e ∷ ms) (firings p.0 ++ Fire e ∷ ms) = one_set f (earlier last) p.2 (fires h r) in
        let e1 : (firings es ++ Fire e ∷ []) ++ ms ≡ firings es ++ Fire e ∷ ms = append_assoc (firings es) (Fire e ∷ []) ms in
        let e2 : (firings p.0 ++ Fire e ∷ []) ++ ms ≡ firings p.0 ++ Fire e ∷ ms = append_assoc (firings p.0) (Fire e ∷ []) ms in
        rw e1 (then_same ih (turned (rw e2 at m)))

    -- legal lists that lead to one standing set are equivalent
    pub consistent : {fs gs : List Event} {ls ms : List Letter} → Runs s [] ls fs → Runs s [] ms gs → Alike fs gs → AreEquivalent s ls ms
    consistent {fs} {gs} r q a =
        let x = normal nothing r in
        let y = normal nothing q in
        let e : Runs s fs [] fs = stops in
        let o = one_set x.0 y.0 a e in
        let o' : AreEquivalent s (firings fs) (firings gs) = rw (append-nil (firings fs), append-nil (firings gs)) at o in
        then_same x.1 (then_same o' (turned y.1))
