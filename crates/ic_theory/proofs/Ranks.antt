-- A sound set has a causal order: by rank.
use Rattle.std.proofs.Common.{◌≡◌, ℕ, suc, zero, ◌+◌, ◌≤◌, ◌<◌, Bool, true, false, List, [], ◌∷◌, ◌++◌, ◌⊎◌, inl, inr, refl, ap, arith, append_assoc}
use Rattle.std.specs.Prelude.{if◌then◌else◌, leb}
use Rattle.std.proofs.lemmas.Bool.{leb-true, leb-false}
use Rattle.ic_name.specs.Names.{Name}
use Rattle.ic_name.specs.Events.{Event}
use Rattle.ic_path.specs.Orders.{Pick, here, there, Alike, none, more}
use Rattle.ic_path.proofs.Alikes.{alike_self, alike_then, alike_back, alike_more}
use Rattle.ic_name.specs.Same.{same_name}
use Rattle.ic_theory.specs.Future.{Includes}
use Rattle.ic_theory.specs.Starts.{Start, IsProper}
use Rattle.ic_theory.specs.Sets.{consumed_times}
use Rattle.ic_path.specs.Orders.{IsIn}
use Rattle.ic_theory.specs.Firings.{IsFired, AreAfterCauses}
use Rattle.ic_theory.specs.Causes.{IsCause, IsRank}
use Rattle.ic_theory.specs.Sound.{IsSound}
use Rattle.ic_theory.proofs.Future.{union, path_included, present_included, trail_included, pick_part, in_alike}
use Rattle.ic_theory.proofs.Sound.{maker_in, sound_fired, fired_sound, trail_link}

-- a set includes another order of itself
pub same_set : {es fs : List Event} → Alike es fs → Includes fs es
same_set a = record { others = []; alike = a }

-- a cause is a cause in a set that includes the first
pub cause_included : (s : Start) {all es : List Event} {e c : Event} → Includes all es → IsCause s es e c → IsCause s all e c
cause_included s i k = let t = trail_included s i k.path.trail in
    record { path = record { first = k.path.first; others = k.path.others; left_over = t.0; trail = t.1 }; link = k.link; on_path = k.on_path; made = k.made }

-- the consumptions of a list are those of one event and of the others
pick_times : (n : Name) {e : Event} {es rest : List Event} → Pick e es rest → consumed_times n es ≡ (if same_name n e.lead then 1 else 0) + (if same_name n e.other then 1 else 0) + consumed_times n rest
pick_times n here = refl
pick_times n (there k) = let ih = pick_times n k in omega arith

-- and the same in any order
pub consumed-alike : (n : Name) {es fs : List Event} → Alike es fs → consumed_times n es ≡ consumed_times n fs
consumed-alike n none = refl
consumed-alike n (more k a) = let e = pick_times n k in let f = consumed-alike n a in omega arith

-- a sound set is sound in any order
pub sound-alike : (s : Start) {es fs : List Event} → Alike es fs → IsSound s es → IsSound s fs
sound-alike s {es} {fs} a h = record {
  apart = λ n. rw (← consumed-alike n a) (h.apart n);
  present = λ e i. present_included s (same_set a) (h.present e (in_alike i (alike_back a)));
  joined = λ e i. path_included s (same_set a) (h.joined e (in_alike i (alike_back a)));
  rank = h.rank;
  ranked = record {
    above = λ e c i k. h.ranked.above e c (in_alike i (alike_back a)) (cause_included s (same_set (alike_back a)) k);
    least = λ e i. go e (h.ranked.least e (in_alike i (alike_back a)));
  };
}
  where
    go : (e : Event) → (h.rank e ≡ 0) ⊎ ((c : Event) × IsCause s es e c × (h.rank e ≡ h.rank c + 1)) → (h.rank e ≡ 0) ⊎ ((c : Event) × IsCause s fs e c × (h.rank e ≡ h.rank c + 1))
    go e (inl z) = inl z
    go e (inr r) = inr (r.0, cause_included s (same_set a) r.1, r.2)

-- sorting by rank, the greatest first
put : (Event → ℕ) → Event → List Event → List Event
put r e [] = e ∷ []
put r e (x ∷ xs) = if leb (r x) (r e) then e ∷ x ∷ xs else x ∷ put r e xs

-- no rank of the list is above this one
AllBelow : (Event → ℕ) → ℕ → List Event → Type 0
AllBelow r k [] = Unit {0}
AllBelow r k (x ∷ xs) = (r x ≤ k) × AllBelow r k xs

-- the ranks of the list never rise
Falls : (Event → ℕ) → List Event → Type 0
Falls r [] = Unit {0}
Falls r (x ∷ xs) = AllBelow r (r x) xs × Falls r xs

-- what is below a number is below a greater one
below_more : (r : Event → ℕ) (k m : ℕ) (xs : List Event) → k ≤ m → AllBelow r k xs → AllBelow r m xs
unfolding AllBelow
below_more r k m [] h b = tt
below_more r k m (x ∷ xs) h b = (let i = b.0 in omega arith, below_more r k m xs h b.1)

-- an event put in its place stays below what it is below
put_below : (r : Event → ℕ) (k : ℕ) (e : Event) (xs : List Event) → r e ≤ k → AllBelow r k xs → AllBelow r k (put r e xs)
unfolding AllBelow put
put_below r k e [] h b = (h, tt)
put_below r k e (x ∷ xs) h b = go (leb (r x) (r e)) (put_below r k e xs h b.1)
  where
    go : (t : Bool) → AllBelow r k (put r e xs) → AllBelow r k (if t then e ∷ x ∷ xs else x ∷ put r e xs)
    go true i = (h, b)
    go false i = (b.0, i)

-- and the ranks fall still
put_falls : (r : Event → ℕ) (e : Event) (xs : List Event) → Falls r xs → Falls r (put r e xs)
unfolding AllBelow put Falls
put_falls r e [] f = (tt, tt)
put_falls r e (x ∷ xs) f = go (leb (r x) (r e)) refl (put_falls r e xs f.1)
  where
    go : (t : Bool) → leb (r x) (r e) ≡ t → Falls r (put r e xs) → Falls r (if t then e ∷ x ∷ xs else x ∷ put r e xs)
    go true h i = let l = leb-true (r x) (r e) h in ((l, below_more r (r x) (r e) xs l f.0), f)
    go false h i = let l = leb-false (r x) (r e) h in (put_below r (r x) e xs (omega arith) f.0, i)

-- the events are those of before and it
put_alike : (r : Event → ℕ) (e : Event) (xs : List Event) → Alike (e ∷ xs) (put r e xs)
unfolding put
put_alike r e [] = alike_self _
put_alike r e (x ∷ xs) = go (leb (r x) (r e)) (put_alike r e xs)
  where
    go : (t : Bool) → Alike (e ∷ xs) (put r e xs) → Alike (e ∷ x ∷ xs) (if t then e ∷ x ∷ xs else x ∷ put r e xs)
    go true a = alike_self _
    go false a = alike_then (more (there here) (alike_self _)) (more here a)

-- the list by rank, the greatest first
sorted : (Event → ℕ) → List Event → List Event
sorted r [] = []
sorted r (e ∷ es) = put r e (sorted r es)

-- its ranks fall
sorted_falls : (r : Event → ℕ) (es : List Event) → Falls r (sorted r es)
unfolding sorted Falls
sorted_falls r [] = tt
sorted_falls r (e ∷ es) = put_falls r e (sorted r es) (sorted_falls r es)

-- its events are the same
sorted_alike : (r : Event → ℕ) (es : List Event) → Alike es (sorted r es)
unfolding sorted
sorted_alike r [] = none
sorted_alike r (e ∷ es) = alike_then (more here (sorted_alike r es)) (put_alike r e (sorted r es))

-- a cause is in the set
pub cause_in : (s : Start) {es : List Event} {e c : Event} → IsCause s es e c → IsIn c es
cause_in s {es} k = maker_in s es (trail_link k.path.trail k.on_path.1) k.made

-- an element of a list of one is that one
only_one : {X : Type 0} {x e : X} {rest : List X} → Pick x (e ∷ []) rest → x ≡ e
only_one here = refl
only_one (there k) = elim k [ ]

-- an element is the first or behind it
pub first_or_in : {X : Type 0} {x e : X} {es rest : List X} → Pick x (e ∷ es) rest → (x ≡ e) ⊎ IsIn x es
first_or_in here = inl refl
first_or_in (there k) = inr (_, k)

module _ (s : Start) (all : List Event) (rank : Event → ℕ) (above : (e c : Event) → IsIn e all → IsCause s all e c → rank c < rank e) where
  -- an event between two parts is in the whole
  in_all : (others : List Event) (e : Event) (es : List Event) → all ≡ others ++ e ∷ es → IsIn e all
  in_all others e es h = rw h (in_middle others)
    where
      in_middle : (xs : List Event) → IsIn e (xs ++ e ∷ es)
      in_middle [] = (es, here)
      in_middle (x ∷ xs) = let r = in_middle xs in (_, there r.1)

  -- a list whose ranks fall is a causal order
  by_rank : (others es : List Event) → all ≡ others ++ es → Falls rank es → ((x : Event) → IsIn x others → AllBelow rank (rank x) es) → AreAfterCauses s all es
  unfolding Falls AllBelow
  by_rank others [] h f b = tt
  by_rank others (e ∷ es) h f b = (after, by_rank (others ++ e ∷ []) es (rw (append_assoc others (e ∷ []) es) h) f.1 (λ x i. low x (pick_part others (e ∷ []) i.1)))
    where
      low : (x : Event) → IsIn x others ⊎ IsIn x (e ∷ []) → AllBelow rank (rank x) es
      low x (inl i) = (b x i).1
      low x (inr i) = rw (only_one i.1) f.0

      after : (c : Event) → IsCause s all e c → IsIn c es
      after c k = found (parted (cause_in s k))
        where
          less : rank c < rank e
          less = above e c (in_all others e es h) k

          parted : IsIn c all → IsIn c others ⊎ IsIn c (e ∷ es)
          parted i = let j : IsIn c (others ++ e ∷ es) = rw (← h) i in pick_part others (e ∷ es) j.1

          behind_e : (c ≡ e) ⊎ IsIn c es → rank c < rank e → IsIn c es
          behind_e (inl j) l = let i : rank c ≡ rank e = ap rank j in absurd (omega arith)
          behind_e (inr j) l = j

          found : IsIn c others ⊎ IsIn c (e ∷ es) → IsIn c es
          found (inl i) = let u : rank e ≤ rank c = (b c i).0 in let l = less in absurd (omega arith)
          found (inr i) = behind_e (first_or_in i.1) less

-- a sound set is fired in some order
pub sound_order : (s : Start) → IsProper s → (es : List Event) → IsSound s es → (order : List Event) × Alike es order × IsFired s order
sound_order s ok es h =
    let a = sorted_alike h.rank es in (
      sorted h.rank es,
      a,
      sound_fired s ok (sorted h.rank es) (sound-alike s a h)
          (by_rank s (sorted h.rank es) h.rank (λ e c i k. h.ranked.above e c (in_alike i (alike_back a)) (cause_included s (same_set (alike_back a)) k))
          [] (sorted h.rank es) refl (sorted_falls h.rank es) (λ x i. elim i.1 [ ])),
    )

-- of two sound sets the union is sound: there is a sound set that has both, and no other events
pub sound_union : (s : Start) → IsProper s → (es fs : List Event) → IsSound s es → IsSound s fs → (all : List Event) × IsSound s all × Includes all es × Includes all fs × ((e : Event) → IsIn e all → IsIn e es ⊎ IsIn e fs)
sound_union s ok es fs h k =
    let o = sound_order s ok es h in
    let p = sound_order s ok fs k in
    let u = union s ok o.2 p.2 in
    (u.all, (fired_sound s ok u.all u.firing).0, regroup u.left o.1, regroup u.right p.1, λ e i. from o.1 p.1 (u.only e i))
  where
    from : {x : Event} {xs ys xs' ys' : List Event} → Alike xs xs' → Alike ys ys' → IsIn x xs' ⊎ IsIn x ys' → IsIn x xs ⊎ IsIn x ys
    from a b (inl i) = inl (in_alike i (alike_back a))
    from a b (inr i) = inr (in_alike i (alike_back b))

    regroup : {all xs ys : List Event} → Includes all ys → Alike xs ys → Includes all xs
    regroup i a = record { others = i.others; alike = alike_then (alike_more i.others a) i.alike }

-- ranks are determined
rank_le : (s : Start) (es : List Event) (r r' : Event → ℕ) → IsRank s es r → IsRank s es r' → (n : ℕ) (e : Event) → IsIn e es → r e ≤ n → r e ≤ r' e
rank_le s es r r' h h' zero e i l = omega arith
rank_le s es r r' h h' (suc n) e i l = go (h.least e i) (λ c k m. rank_le s es r r' h h' n c (cause_in s k) m)
  where
    go : (r e ≡ 0) ⊎ ((c : Event) × IsCause s es e c × (r e ≡ r c + 1)) → ((c : Event) → IsCause s es e c → r c ≤ n → r c ≤ r' c) → r e ≤ r' e
    go (inl z) f = omega arith
    go (inr w) f = let e1 = w.2 in let x = f w.0 w.1 (omega arith) in let y = h'.above e w.0 i w.1 in omega arith

-- of two ranks of a set each gives an event the same
pub rank_one : (s : Start) (es : List Event) (r r' : Event → ℕ) → IsRank s es r → IsRank s es r' → (e : Event) → IsIn e es → r e ≡ r' e
rank_one s es r r' h h' e i = let x = rank_le s es r r' h h' (r e) e i (omega arith) in let y = rank_le s es r' r h' h (r' e) e i (omega arith) in omega arith
