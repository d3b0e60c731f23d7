-- A causal order of a sound set is a firing, and a firing is a causal order of a sound set.
use Rattle.std.proofs.Common.{◌≡◌, ℕ, ◌+◌, ◌≤◌, ◌<◌, Bool, true, false, List, [], ◌∷◌, ◌++◌, ◌⊎◌, inl, inr, refl, sym, ap, arith, ◌∙◌, Option, Some, None, append_assoc}
use Rattle.std.specs.Prelude.{if◌then◌else◌, max}
use Rattle.std.proofs.lemmas.Bool.{cases_lt}
use Rattle.ic_name.specs.Names.{Name}
use Rattle.ic_name.specs.declared.kinds.Kind.{Kind}
use Rattle.ic_name.specs.declared.rules.Profile.{Profile}
use Rattle.ic_name.specs.declared.ports.Port.{Port}
use Rattle.ic_name.specs.declared.ports.Port.TheVariants.{Of}
use Rattle.ic_name.specs.Events.{Event}
use Rattle.ic_path.specs.Orders.{Pick, here, there}
use Rattle.ic_path.specs.Trails.{Trail, stays, goes}
use Rattle.ic_path.specs.Links.{degree}
use Rattle.ic_path.proofs.Ends.{degree-trail, starts, arrives}
use Rattle.ic_path.proofs.Alikes.{alike_self}
use Rattle.ic_name.specs.Same.{same_name}
use Rattle.ic_name.proofs.SameFacts.{same_name_true, same_name_self}
use Rattle.ic_theory.specs.Born.{Link, placed, born_agents, born_links}
use Rattle.ic_theory.specs.Future.{Includes}
use Rattle.ic_theory.specs.Starts.{Start, start_agents, net_shape, IsProper}
use Rattle.ic_theory.specs.Sets.{agents, links, named_times, consumed_times}
use Rattle.ic_path.specs.Orders.{IsIn}
use Rattle.ic_theory.specs.Wires.{Path}
use Rattle.ic_theory.specs.Active.{ArePresent, IsActive}
use Rattle.ic_theory.specs.Firings.{IsFired, nothing, fired, AreAfterCauses}
use Rattle.ic_theory.specs.Causes.{IsCause}
use Rattle.ic_theory.specs.Sound.{IsSound}
use Rattle.ic_theory.proofs.Counts.{port_degree, names_once}
use Rattle.ic_theory.proofs.Future.{in_rest, fired_apart, loose_agent, unequal, was_fired, same_links, trail_included, in_included, consumed_in, pick_part, includes_self, kind_once}

-- the makers of links
pub placed_maker : (m : Option Event) (k : ℕ) (ps : List (Port × Port)) {l : Link} {rest : List Link} → Pick l (placed m k ps) rest → l.maker ≡ m
placed_maker m k [] i = elim i [ ]
placed_maker m k (p ∷ ps) here = refl
placed_maker m k (p ∷ ps) (there i) = placed_maker m (k + 1) ps i

-- the maker of a link of the set is in the set
pub maker_in : (s : Start) (es : List Event) {l : Link} {c : Event} → IsIn l (links s es) → l.maker ≡ Some c → IsIn c es
maker_in s [] {l = l} {c = c} i h = let e : l.maker ≡ None = placed_maker None 0 s.joins i.1 in cc
maker_in s (e ∷ es) {l = l} {c = c} i h = go (pick_part (born_links s.profile e) (links s es) i.1) (λ j. maker_in s es j h)
  where
    go : IsIn l (born_links s.profile e) ⊎ IsIn l (links s es) → (IsIn l (links s es) → IsIn c es) → IsIn c (e ∷ es)
    go (inl j) f = let m : l.maker ≡ Some e = placed_maker (Some e) 0 _ j.1 in let same : e ≡ c = cc in (es, rw (← same) here)
    go (inr j) f = let r = f j in (_, there r.1)

-- a link of a trail is one of the list
pub trail_link : {ls ss rest left : List Link} {p q : Port} {l : Link} → Trail net_shape ls p ss q rest → Pick l ss left → IsIn l ls
trail_link stays k = elim k [ ]
trail_link (goes i w t) here = (_, i)
trail_link (goes i w t) (there k) = let r = trail_link t k in in_rest i r.1

-- the rank above those of the makers
maker_rank : (Event → ℕ) → Option Event → ℕ
maker_rank r None = 0
maker_rank r (Some c) = r c + 1

-- one more than the greatest rank of the makers, 0 where there are none
above : (Event → ℕ) → List Link → ℕ
above r [] = 0
above r (l ∷ ls) = max (maker_rank r l.maker) (above r ls)

-- a maker's rank is below that
above_maker : (r : Event → ℕ) {l : Link} {ls rest : List Link} (c : Event) → Pick l ls rest → l.maker ≡ Some c → r c < above r ls
unfolding above maker_rank
above_maker r {l = l} c here h = rw h (omega arith)
above_maker r c (there k) h = let ih = above_maker r c k h in omega arith

-- the greatest is one's
record Greatest (r : Event → ℕ) (ls : List Link) : Type 0 where
  link : Link
  among : IsIn link ls
  cause : Event
  made : link.maker ≡ Some cause
  is : above r ls ≡ r cause + 1

-- and it is one more than some maker's, or 0
above_least : (r : Event → ℕ) (ls : List Link) → (above r ls ≡ 0) ⊎ Greatest r ls
unfolding above maker_rank
above_least r [] = inl refl
above_least r (l ∷ ls) = go l.maker refl (above_least r ls)
  where
    kept : Greatest r ls → maker_rank r l.maker ≤ above r ls → Greatest r (l ∷ ls)
    kept g h = let i = g.is in record { link = g.link; among = (_, there g.among.1); cause = g.cause; made = g.made; is = omega arith }

    go : (m : Option Event) → l.maker ≡ m → (above r ls ≡ 0) ⊎ Greatest r ls → (max (maker_rank r l.maker) (above r ls) ≡ 0) ⊎ Greatest r (l ∷ ls)
    go None h (inl z) = inl (rw h (omega arith))
    go None h (inr g) = inr (kept g (rw h (omega arith)))
    go (Some c) h (inl z) = inr (record { link = l; among = (ls, here); cause = c; made = h; is = rw h (omega arith) })
    go (Some c) h (inr g) = by_order (cases_lt (r c + 1) (above r ls))
      where
        by_order : (r c + 1 < above r ls) ⊎ (above r ls ≤ r c + 1) → (max (maker_rank r l.maker) (above r ls) ≡ 0) ⊎ Greatest r (l ∷ ls)
        by_order (inr i) = inr (record { link = l; among = (ls, here); cause = c; made = h; is = rw h (omega arith) })
        by_order (inl i) = inr (kept g (rw h (omega arith)))

-- what includes a set includes it without its first event
includes_tail : {e : Event} {all es : List Event} → Includes all (e ∷ es) → Includes all es
includes_tail {e} {all} {es} c = record { others = c.others ++ e ∷ []; alike = rw (append_assoc c.others (e ∷ []) es) c.alike }

-- of an event behind, and the lead of the one before
other_lead : (s : Start) {e c : Event} {es rest : List Event} → IsActive s es e → Pick c es rest → same_name c.lead e.lead ≡ false
other_lead s {e} {c} {es} a k = go (same_name c.lead e.lead) refl
  where
    go : (b : Bool) → same_name c.lead e.lead ≡ b → same_name c.lead e.lead ≡ false
    go true h =
        let l : c.lead ≡ e.lead = same_name_true c.lead e.lead h in
        let i : 1 ≤ consumed_times c.lead es = consumed_in k in
        let z : consumed_times c.lead es ≡ 0 = rw l (loose_agent s es e.lead a.wire.from_loose) in
        absurd (omega arith)
    go false h = h

-- the rank of each event of a firing: above the makers on the path that it had
rank_of : {s : Start} {es : List Event} → IsFired s es → Event → ℕ
rank_of nothing x = 0
rank_of (fired {e = e} f a) x = if same_name x.lead e.lead then above (rank_of f) (a.wire.path.first ∷ a.wire.path.others) else rank_of f x

-- the last event's
rank_here : {s : Start} {e : Event} {es : List Event} (f : IsFired s es) (a : IsActive s es e) → rank_of (fired f a) e ≡ above (rank_of f) (a.wire.path.first ∷ a.wire.path.others)
unfolding rank_of
rank_here {e = e} f a = rw (same_name_self e.lead) refl

-- and an earlier one's
rank_there : {s : Start} {e c : Event} {es rest : List Event} (f : IsFired s es) (a : IsActive s es e) → Pick c es rest → rank_of (fired f a) c ≡ rank_of f c
unfolding rank_of
rank_there {s} f a k = rw (other_lead s a k) refl

module _ (s : Start) (ok : IsProper s) (all : List Event) (apart : (n : Name) → consumed_times n all ≤ 1) where
  -- a cause made a link of the path that the event had when it was fired
  on_old_path : {e c : Event} {es : List Event} → Includes all es → (a : IsActive s es e) → (k : IsCause s all e c) → IsIn k.link (a.wire.path.first ∷ a.wire.path.others)
  on_old_path {e} {c} {es} i a k =
      let t = trail_included s i a.wire.path.trail in
      let same : k.path.first ∷ k.path.others ≡ a.wire.path.first ∷ a.wire.path.others = same_links s ok all apart e.lead e.other (λ i. unequal a.present.ordered (sym i)) k.path.trail t.1 in
      rw same at k.on_path

  -- a cause was fired earlier
  is_behind : {e c : Event} {es : List Event} → Includes all es → IsActive s es e → IsCause s all e c → IsIn c es
  is_behind i a k = let o = on_old_path i a k in maker_in s _ (trail_link a.wire.path.trail o.1) k.made

  -- each cause of an event stands behind it and has a lesser rank
  behind : {e c : Event} {es rest : List Event} (f : IsFired s es) → Includes all es → Pick e es rest → IsCause s all e c → IsIn c es × (rank_of f c < rank_of f e)
  behind nothing i k q = elim k [ ]
  behind {c = c} (fired {e = e} f a) i here q =
      let j = includes_tail i in
      let b = is_behind j a q in
      let o = on_old_path j a q in
      let m = above_maker (rank_of f) c o.1 q.made in
      ((_, there b.1), rw (rank_here f a, rank_there f a b.1) m)
  behind {c = c} (fired {e = e} f a) i (there k) q =
      let r = behind f (includes_tail i) k q in
      ((_, there r.0.1), rw (rank_there f a k, rank_there f a r.0.1) r.1)

  -- a rank is that of a cause and one more, or 0
  least : {e : Event} {es rest : List Event} (f : IsFired s es) → Includes all es → Pick e es rest → (rank_of f e ≡ 0) ⊎ ((c : Event) × IsCause s all e c × (rank_of f e ≡ rank_of f c + 1))
  least nothing i k = elim k [ ]
  least (fired {e = e} {es = es} f a) i here = go (above_least (rank_of f) (a.wire.path.first ∷ a.wire.path.others))
    where
      go : (above (rank_of f) (a.wire.path.first ∷ a.wire.path.others) ≡ 0) ⊎ Greatest (rank_of f) (a.wire.path.first ∷ a.wire.path.others)
          → (rank_of (fired f a) e ≡ 0) ⊎ ((c : Event) × IsCause s all e c × (rank_of (fired f a) e ≡ rank_of (fired f a) c + 1))
      go (inl z) = inl (rank_here f a ∙ z)
      go (inr g) =
          let t = trail_included s (includes_tail i) a.wire.path.trail in
          let b = maker_in s es (trail_link a.wire.path.trail g.among.1) g.made in
          inr (g.cause, record { path = record { first = a.wire.path.first; others = a.wire.path.others; left_over = t.0; trail = t.1 }; link = g.link; on_path = g.among; made = g.made }, rw (rank_there f a b.1) (rank_here f a ∙ g.is))
  least {e = x} (fired {e = e} f a) i (there k) = go (least f (includes_tail i) k)
    where
      go : (rank_of f x ≡ 0) ⊎ ((c : Event) × IsCause s all x c × (rank_of f x ≡ rank_of f c + 1)) → (rank_of (fired f a) x ≡ 0) ⊎ ((c : Event) × IsCause s all x c × (rank_of (fired f a) x ≡ rank_of (fired f a) c + 1))
      go (inl z) = inl (rank_there f a k ∙ z)
      go (inr r) = let b = behind f (includes_tail i) k r.1 in inr (r.0, r.1, rw (rank_there f a k, rank_there f a b.0.1) r.2)

  -- so a firing is a causal order
  after_causes : {es : List Event} → IsFired s es → Includes all es → AreAfterCauses s all es
  after_causes nothing i = tt
  after_causes (fired f a) i = (λ c k. is_behind (includes_tail i) a k, after_causes f (includes_tail i))

module _ (s : Start) (ok : IsProper s) where
  -- a firing is a causal order of a sound set
  pub fired_sound : (es : List Event) → IsFired s es → IsSound s es × AreAfterCauses s es es
  fired_sound es f =
      let apart = fired_apart s f in (
        record {
          apart = apart;
          present = λ e i. (was_fired s f i.1).present;
          joined = λ e i. (was_fired s f i.1).path;
          rank = rank_of f;
          ranked = record { above = λ e c i k. (behind s ok es apart f (includes_self es) i.1 k).1; least = λ e i. least s ok es apart f (includes_self es) i.1 };
        },
        after_causes s ok es apart f (includes_self es),
      )

-- an element of a joined list is in the first part, or is taken out of the second
data Part {X : Type 0} (x : X) (xs ys rest : List X) : Type 0 where
  in_first : IsIn x xs → Part x xs ys rest
  in_second : (left : List X) → Pick x ys left → rest ≡ xs ++ left → Part x xs ys rest

-- one of the two
part_of : {X : Type 0} {x : X} (xs ys : List X) {rest : List X} → Pick x (xs ++ ys) rest → Part x xs ys rest
part_of [] ys k = in_second _ k refl
part_of (y ∷ xs) ys here = in_first (xs, here)
part_of (y ∷ xs) ys (there k) = elim (part_of xs ys k) [ in_first i ↦ in_first (_, there i.1) | in_second left j e ↦ in_second left j (ap (λ z. y ∷ z) e) ]

-- a trail that uses no link of the first part runs in the second
narrowed : {ss rest : List Link} {p q : Port} (xs ys all : List Link) → all ≡ xs ++ ys → ((l : Link) → IsIn l ss → IsIn l xs → ⊥) → Trail net_shape all p ss q rest → (left : List Link) × Trail net_shape ys p ss q left
narrowed xs ys all e n stays = (ys, stays)
narrowed {q = q} xs ys all e n (goes {l = l} {mid = mid} {ss = ss} {p = p} {m = m} k w t) = go (part_of xs ys (moved k)) (λ zs f. narrowed xs zs mid f (λ m i j. n m (_, there i.1) j) t)
  where
    moved : Pick l all mid → Pick l (xs ++ ys) mid
    moved k = rw (← e) k

    go : Part l xs ys mid → ((zs : List Link) → mid ≡ xs ++ zs → (left : List Link) × Trail net_shape zs m ss q left) → (left : List Link) × Trail net_shape ys p (l ∷ ss) q left
    go (in_first i) f = absurd (n l (ss, here) i)
    go (in_second zs j g) f = let r = f zs g in (r.0, goes j w r.1)

-- an event's links have it as their maker
born_maker : (v : Profile) (o : Event) {l : Link} → IsIn l (born_links v o) → l.maker ≡ Some o
born_maker v o i = placed_maker (Some o) 0 _ i.1

-- a trail whose makers are all in a part runs in the part
pub narrow_all : (s : Start) (others es : List Event) {ss rest : List Link} {p q : Port} → Trail net_shape (links s (others ++ es)) p ss q rest
    → ((l : Link) → IsIn l ss → (c : Event) → l.maker ≡ Some c → IsIn c es) → ((c : Event) → IsIn c others → IsIn c es → ⊥) → (left : List Link) × Trail net_shape (links s es) p ss q left
narrow_all s [] es {rest = rest} t m d = (rest, t)
narrow_all s (o ∷ os) es t m d =
    let r = narrowed (born_links s.profile o) (links s (os ++ es)) _ refl (λ l i j. d o (os, here) (m l i o (born_maker s.profile o j))) t in
    narrow_all s os es r.1 m (λ c i j. d c (_, there i.1) j)

-- the consumptions are those of both parts of a list
pub consumed-append : (n : Name) (xs ys : List Event) → consumed_times n (xs ++ ys) ≡ consumed_times n xs + consumed_times n ys
consumed-append n [] ys = omega arith
consumed-append n (x ∷ xs) ys = let ih = consumed-append n xs ys in omega arith

-- a name that is counted is some agent's
pub agent_in : (n : Name) (xs : List (Name × Kind)) → 1 ≤ named_times n xs → (x : Name × Kind) × IsIn x xs × (n ≡ x.0)
agent_in n [] h = absurd (omega arith)
agent_in n (x ∷ xs) h = go (same_name n x.0) refl (agent_in n xs)
  where
    go : (b : Bool) → same_name n x.0 ≡ b → (1 ≤ named_times n xs → (x : Name × Kind) × IsIn x xs × (n ≡ x.0)) → (y : Name × Kind) × IsIn y (x ∷ xs) × (n ≡ y.0)
    go true e f = (x, (xs, here), same_name_true n x.0 e)
    go false e f = let h' = rw e at h in let r = f (omega (arith, h')) in (r.0, (_, there r.1.1), r.2)

module _ (s : Start) (ok : IsProper s) (all : List Event) (sound : IsSound s all) where
  -- no event is in two parts
  part_apart : (others es : List Event) → all ≡ others ++ es → (c : Event) → IsIn c others → IsIn c es → ⊥
  part_apart others es e c i j =
      let a : consumed_times c.lead (others ++ es) ≤ 1 = rw (← e) (sound.apart c.lead) in
      let d = consumed-append c.lead others es in
      let x = consumed_in i.1 in
      let y = consumed_in j.1 in
      omega arith

  -- an event behind which its causes are was active there
  pub active_there : (others : List Event) (e : Event) (es : List Event) → all ≡ others ++ e ∷ es → ((c : Event) → IsCause s all e c → IsIn c es) → IsActive s es e
  active_there others e es h after = record {
    present = record { lead = is_there e.lead e.lead_kind in_all.lead at_lead; other = is_there e.other e.other_kind in_all.other at_other; ordered = in_all.ordered };
    wire = record { path = way; from_loose = (e.lead_kind, is_there e.lead e.lead_kind in_all.lead at_lead, omega arith, loose_lead); to_loose = (e.other_kind, is_there e.other e.other_kind in_all.other at_other, omega arith, loose_other) };
  }
    where
      split : all ≡ others ++ e ∷ [] ++ es
      split = rw (append_assoc others (e ∷ []) es) h

      in_split : IsIn e all
      in_split = rw h (in_middle others)
        where
          in_middle : (xs : List Event) → IsIn e (xs ++ e ∷ es)
          in_middle [] = (es, here)
          in_middle (x ∷ xs) = let r = in_middle xs in (_, there r.1)

      in_all : ArePresent s all e
      in_all = sound.present e in_split

      path : Path (links s all) (Of e.lead 0) (Of e.other 0)
      path = sound.joined e in_split

      moved : Trail net_shape (links s (others ++ e ∷ [] ++ es)) (Of e.lead 0) (path.first ∷ path.others) (Of e.other 0) path.left_over
      moved = rw (← split) path.trail

      short : (left : List Link) × Trail net_shape (links s es) (Of e.lead 0) (path.first ∷ path.others) (Of e.other 0) left
      short = narrow_all s (others ++ e ∷ []) es moved (λ l i c m. after c (record { path = path; link = l; on_path = i; made = m })) (part_apart (others ++ e ∷ []) es split)

      way : Path (links s es) (Of e.lead 0) (Of e.other 0)
      way = record { first = path.first; others = path.others; left_over = short.0; trail = short.1 }

      total : (n : Name) → consumed_times n (others ++ e ∷ es) ≤ 1
      total n = rw (← h) (sound.apart n)

      loose_lead : consumed_times e.lead es ≡ 0
      loose_lead = let t = total e.lead in let d = consumed-append e.lead others (e ∷ es) in let k = same_name_self e.lead in let t' : consumed_times e.lead (e ∷ es) ≡ 1 + (if same_name e.lead e.other then 1 else 0) + consumed_times e.lead es = rw k refl in omega arith

      loose_other : consumed_times e.other es ≡ 0
      loose_other = let t = total e.other in let d = consumed-append e.other others (e ∷ es) in let k = same_name_self e.other in let t' : consumed_times e.other (e ∷ es) ≡ ((if same_name e.other e.lead then 1 else 0) + 1) + consumed_times e.other es = rw k refl in omega arith

      at_lead : 1 ≤ degree net_shape (links s es) (Of e.lead 0)
      at_lead = let i = starts net_shape path.first short.1 in let d = degree-trail net_shape short.1 (Of e.lead 0) in omega arith

      at_other : 1 ≤ degree net_shape (links s es) (Of e.other 0)
      at_other = let i = arrives net_shape short.1 in let d = degree-trail net_shape short.1 (Of e.other 0) in omega arith

      is_there : (n : Name) (k : Kind) → IsIn (n, k) (agents s all) → 1 ≤ degree net_shape (links s es) (Of n 0) → IsIn (n, k) (agents s es)
      is_there n k i d =
          let p = port_degree s ok es n 0 in
          let w = agent_in n (agents s es) (omega arith) in
          let c : Includes all es = record { others = others ++ e ∷ []; alike = rw (← split) (alike_self all) } in
          let j : IsIn w.0 (agents s all) = in_included born_agents (start_agents s) c w.1 in
          let same : k ≡ w.0.1 = kind_once n refl w.2 (names_once s all sound.apart n) i.1 j.1 in
          let both : ◌≡◌ {A = Name × Kind} (n, k) w.0 = λ t. (w.2 t, same t) in
          rw both w.1

  -- a causal order's end is a firing
  ordered_fired : (others es : List Event) → all ≡ others ++ es → AreAfterCauses s all es → IsFired s es
  ordered_fired others [] h o = nothing
  ordered_fired others (e ∷ es) h o = fired (ordered_fired (others ++ e ∷ []) es (rw (append_assoc others (e ∷ []) es) h) o.1) (active_there others e es h o.0)

-- a causal order of a sound set is a firing
pub sound_fired : (s : Start) → IsProper s → (es : List Event) → IsSound s es → AreAfterCauses s es es → IsFired s es
sound_fired s ok es sound o = ordered_fired s ok es sound [] es refl o
