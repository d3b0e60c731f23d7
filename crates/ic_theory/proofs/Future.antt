-- Two firings over one start have a common one.
use Rattle.std.proofs.Common.{◌≡◌, ℕ, suc, zero, ◌≤◌, Bool, true, false, List, [], ◌∷◌, ◌++◌, ◌⊎◌, inl, inr, refl, sym, ap, arith, ◌∙◌, append-nil}
use Rattle.std.specs.declared.cmp.Ordering.TheVariants.{Less, Equal, Greater}
use Rattle.std.specs.Ordering.{ordering_reverse}
use Rattle.ic_name.proofs.NameOrder.{name_cmp_total}
use Rattle.std.proofs.lemmas.Cmp.{tied_itself}
use Rattle.ic_name.specs.Names.{Name}
use Rattle.ic_name.specs.declared.kinds.Kind.{Kind}
use Rattle.ic_name.specs.declared.ports.Port.{Port}
use Rattle.ic_name.specs.declared.ports.Port.TheVariants.{Of}
use Rattle.ic_name.specs.Events.{Event}
use Rattle.ic_path.specs.Links.{Shape, degree, IsSlim}
use Rattle.ic_path.specs.Orders.{Pick, here, there, Alike, none, more}
use Rattle.ic_path.specs.Trails.{Trail, Reaches}
use Rattle.ic_path.specs.FarEnds.{far}
use Rattle.ic_path.proofs.Walks.{widened, determined}
use Rattle.ic_path.proofs.Ends.{reversed, hit, hit_self, even-trail, degree-trail, reaches_far, reaches_one}
use Rattle.ic_path.proofs.Alikes.{alike_self, alike_pick, picked_alike, alike_then, alike_back, alike_more, alike_past}
use Rattle.ic_path.proofs.Orders.{trail-alike}
use Rattle.ic_name.specs.Same.{same_name}
use Rattle.ic_name.proofs.SameFacts.{same_name_true, same_name_self}
use Rattle.ic_name.specs.Names.{name_cmp}
use Rattle.ic_theory.specs.Born.{Link, born_agents, born_links}
use Rattle.ic_theory.specs.Starts.{Start, start_agents, start_links, net_shape, IsProper}
use Rattle.ic_theory.specs.Sets.{agents, links, with_made, named_times, consumed_times}
use Rattle.ic_path.specs.Orders.{IsIn}
use Rattle.ic_theory.specs.Wires.{IsLoose, Path}
use Rattle.ic_theory.specs.Active.{ArePresent, IsActive}
use Rattle.ic_theory.specs.Firings.{IsFired, nothing, fired}
use Rattle.ic_theory.specs.Future.{Includes, Union}
use Rattle.ic_theory.proofs.Counts.{names_once, slim, principal}
use Rattle.ic_path.proofs.Picks.{pick_behind, pick_before}

-- what a set of events makes doesn't depend on their order
made_pick : {X : Type 0} (made : Event → List X) (first : List X) {e : Event} {es rest : List Event} → Pick e es rest → Alike (made e ++ with_made made first rest) (with_made made first es)
made_pick made first here = alike_self _
made_pick made first {e = e} (there {y = y} {rest = rest} k) = alike_then (alike_past (made e) (made y) (with_made made first rest)) (alike_more (made y) (made_pick made first k))

-- what a set makes is the same in any order
pub made_alike : {X : Type 0} (made : Event → List X) (first : List X) {es fs : List Event} → Alike es fs → Alike (with_made made first es) (with_made made first fs)
made_alike made first none = alike_self first
made_alike made first (more {x = e} k a) = alike_then (alike_more (made e) (made_alike made first a)) (made_pick made first k)

-- an element stands in any order of the list
pub in_alike : {X : Type 0} {x : X} {xs ys : List X} → IsIn x xs → Alike xs ys → IsIn x ys
in_alike i a = let r = alike_pick a i.1 in (r.0, r.1)

-- what stands in a list without one element stands in the list
pub in_rest : {X : Type 0} {x y : X} {xs rest left : List X} → Pick x xs rest → Pick y rest left → IsIn y xs
in_rest here j = (_, there j)
in_rest (there k) here = (_, here)
in_rest (there k) (there j) = let r = in_rest k j in (_, there r.1)

-- what a part makes the whole makes
in_made : {X : Type 0} {x : X} (made : Event → List X) (first : List X) (others es : List Event) → IsIn x (with_made made first es) → IsIn x (with_made made first (others ++ es))
in_made made first [] es i = i
in_made made first (o ∷ os) es i = let r = in_made made first os es i in (_, pick_behind (made o) r.1)

-- and what an included set makes
pub in_included : {X : Type 0} {x : X} (made : Event → List X) (first : List X) {all es : List Event} → Includes all es → IsIn x (with_made made first es) → IsIn x (with_made made first all)
in_included made first c i = in_alike (in_made made first c.others _ i) (made_alike made first c.alike)

-- a trail runs where there are more links
trail_more : {ls ss rest : List Link} {p q : Port} (xs : List Link) → Trail net_shape ls p ss q rest → (left : List Link) × Trail net_shape (xs ++ ls) p ss q left
trail_more {rest = rest} [] t = (rest, t)
trail_more (x ∷ xs) t = let r = trail_more xs t in let w = widened net_shape r.1 (here {x = x}) in (w.0, w.1)

-- so it does where there are more events
trail_made : {ss rest : List Link} {p q : Port} (s : Start) (others es : List Event) → Trail net_shape (links s es) p ss q rest → (left : List Link) × Trail net_shape (links s (others ++ es)) p ss q left
trail_made {rest = rest} s [] es t = (rest, t)
trail_made s (o ∷ os) es t = let r = trail_made s os es t in trail_more (born_links s.profile o) r.1

-- and in a set that includes the first
pub trail_included : {ss rest : List Link} {p q : Port} (s : Start) {all es : List Event} → Includes all es → Trail net_shape (links s es) p ss q rest → (left : List Link) × Trail net_shape (links s all) p ss q left
trail_included s c t = let r = trail_made s c.others _ t in let u = trail-alike net_shape r.1 (made_alike (born_links s.profile) (start_links s) c.alike) in (u.0, u.1)

-- so does a path
pub path_included : {p q : Port} (s : Start) {all es : List Event} → Includes all es → Path (links s es) p q → Path (links s all) p q
path_included s c p = let t = trail_included s c p.trail in record { first = p.first; others = p.others; left_over = t.0; trail = t.1 }

-- and agents that are there are there in a set that includes the first
pub present_included : (s : Start) {all es : List Event} {e : Event} → Includes all es → ArePresent s es e → ArePresent s all e
present_included s c p = record {
  lead = in_included born_agents (start_agents s) c p.lead;
  other = in_included born_agents (start_agents s) c p.other;
  ordered = p.ordered;
}

-- no name is before itself
pub not_before_self : (n : Name) → name_cmp n n ≡ Less → ⊥
not_before_self n h = let e : name_cmp n n ≡ Equal = tied_itself name_cmp_total n in cc

-- no two names are before one another
not_both_before : (m n : Name) → name_cmp m n ≡ Less → name_cmp n m ≡ Less → ⊥
not_both_before m n h i = let e : name_cmp m n ≡ ordering_reverse (name_cmp n m) = name_cmp_total.antisymm m n in let f : name_cmp m n ≡ Greater = rw i at e in cc

-- in a firing no agent is in two events
pub loose_agent : (s : Start) (es : List Event) (n : Name) → IsLoose s es (Of n 0) → consumed_times n es ≡ 0
loose_agent s es n l = l.3

-- each agent is consumed once at most
pub fired_apart : (s : Start) {es : List Event} → IsFired s es → (n : Name) → consumed_times n es ≤ 1
fired_apart s nothing n = omega arith
fired_apart s (fired {e = e} {es = es} f a) n = go (same_name n e.lead) (same_name n e.other) refl refl (fired_apart s f n)
  where
    zero_lead : consumed_times e.lead es ≡ 0
    zero_lead = loose_agent s es e.lead a.wire.from_loose

    zero_other : consumed_times e.other es ≡ 0
    zero_other = loose_agent s es e.other a.wire.to_loose

    go : (x y : Bool) → same_name n e.lead ≡ x → same_name n e.other ≡ y → consumed_times n es ≤ 1 → consumed_times n (e ∷ es) ≤ 1
    go true true h i c =
        let l : n ≡ e.lead = same_name_true n e.lead h in
        let o : n ≡ e.other = same_name_true n e.other i in
        let b : name_cmp e.other e.other ≡ Less = rw (sym l ∙ o) at a.present.ordered in
        absurd (not_before_self e.other b)
    go true false h i c = let l : n ≡ e.lead = same_name_true n e.lead h in let z : consumed_times n es ≡ 0 = rw l zero_lead in rw (h, i) (omega arith)
    go false true h i c = let l : n ≡ e.other = same_name_true n e.other i in let z : consumed_times n es ≡ 0 = rw l zero_other in rw (h, i) (omega arith)
    go false false h i c = rw (h, i) (omega arith)

-- the last event of a firing was active, and the others are a firing
pub last_active : {s : Start} {e : Event} {es : List Event} → IsFired s (e ∷ es) → IsActive s es e
last_active (fired f a) = a

-- the events before the last are a firing
pub earlier : {s : Start} {e : Event} {es : List Event} → IsFired s (e ∷ es) → IsFired s es
earlier (fired f a) = f

-- what each event of a firing had before it, it has still
pub record WasFired (s : Start) (es : List Event) (e : Event) : Type 0 where
  pub present : ArePresent s es e
  pub path : Path (links s es) (Of e.lead 0) (Of e.other 0)

-- what an event had it has with one event more
was_more : (s : Start) {es : List Event} {e : Event} (f : Event) → WasFired s es e → WasFired s (f ∷ es) e
was_more s {es = es} f w = let c : Includes (f ∷ es) es = record { others = f ∷ []; alike = alike_self (f ∷ es) } in record { present = present_included s c w.present; path = path_included s c w.path }

-- each event of a firing had its agents and its path
pub was_fired : (s : Start) {es rest : List Event} {e : Event} → IsFired s es → Pick e es rest → WasFired s es e
was_fired s nothing k = elim k [ ]
was_fired s (fired {e = e} f a) here = was_more s e (record { present = a.present; path = a.wire.path })
was_fired s (fired {e = e} f a) (there k) = was_more s e (was_fired s f k)

-- the test is false where the ports differ
pub test_off : {P L : Type 0} (g : Shape P L) (p q : P) → (p ≡ q → ⊥) → g.same p q ≡ false
test_off g p q n = go (g.same p q) refl
  where
    go : (b : Bool) → g.same p q ≡ b → g.same p q ≡ false
    go true e = absurd (n (g.same_true p q e))
    go false e = e

-- a loose end of a trail is where it can't go on
pub stops_at : {P L : Type 0} (g : Shape P L) {ls ss rest : List L} (p q : P) → IsSlim g ls → degree g ls q ≤ 1 → (q ≡ p → ⊥) → Trail g ls p ss q rest → degree g rest q ≡ 0
stops_at g {ls} {ss} {rest} p q slim d n t =
    let k = even-trail g t q in
    let k2 = k.1 in
    let d' = degree-trail g t q in
    let z : hit g q p ≡ 0 = rw (test_off g q p n) refl in
    let o : hit g q q ≡ 1 = hit_self g q in
    omega arith

-- a trail to such an end can't go on there
pub loose_end : {P L : Type 0} (g : Shape P L) {ls ss rest : List L} (p q : P) → IsSlim g ls → degree g ls q ≤ 1 → (q ≡ p → ⊥) → Trail g ls p ss q rest → Reaches g ls p q
loose_end g {ls} {ss} {rest} p q slim d n t = record { links = ss; rest = rest; trail = t; stops = stops_at g p q slim d n t }

-- equal names pass the test
pub is_named : {n m : Name} → n ≡ m → same_name n m ≡ true
is_named {n} {m} e = rw e (same_name_self m)

-- an agent of the list is counted by its name
pub named_in : (n : Name) {x : Name × Kind} {xs rest : List (Name × Kind)} → n ≡ x.0 → Pick x xs rest → 1 ≤ named_times n xs
named_in n e here = rw (is_named e) (omega arith)
named_in n e (there k) = let ih = named_in n e k in omega arith

-- one agent has one kind
pub kind_once : (n : Name) {x y : Name × Kind} {xs rest rest' : List (Name × Kind)} → n ≡ x.0 → n ≡ y.0 → named_times n xs ≤ 1 → Pick x xs rest → Pick y xs rest' → x.1 ≡ y.1
kind_once n e f h here here = refl
kind_once n {x = x} e f h here (there k) = let i = named_in n f k in let t : same_name n x.0 ≡ true = is_named e in absurd (let h' = rw t at h in omega (arith, h'))
kind_once n {y = y} e f h (there k) here = let i = named_in n e k in let t : same_name n y.0 ≡ true = is_named f in absurd (let h' = rw t at h in omega (arith, h'))
kind_once n e f h (there k) (there k') = kind_once n e f (omega arith) k k'

-- an event that consumes the agent
pub record Consumer (n : Name) (es : List Event) : Type 0 where
  pub event : Event
  pub among : IsIn event es
  pub consumes : (n ≡ event.lead) ⊎ (n ≡ event.other)

-- a name that is consumed has an event that consumes it
pub consumer : (n : Name) (es : List Event) → 1 ≤ consumed_times n es → Consumer n es
consumer n [] h = absurd (omega arith)
consumer n (e ∷ es) h = go (same_name n e.lead) (same_name n e.other) refl refl (consumer n es)
  where
    go : (x y : Bool) → same_name n e.lead ≡ x → same_name n e.other ≡ y → (1 ≤ consumed_times n es → Consumer n es) → Consumer n (e ∷ es)
    go true y i j f = record { event = e; among = (es, here); consumes = inl (same_name_true n e.lead i) }
    go false true i j f = record { event = e; among = (es, here); consumes = inr (same_name_true n e.other j) }
    go false false i j f = let h' = rw (i, j) at h in let c = f (omega (arith, h')) in record { event = c.event; among = (_, there c.among.1); consumes = c.consumes }

-- principal ports are equal only where their agents are
pub port_agent : {m n : Name} → ◌≡◌ {A = Port} (Of m 0) (Of n 0) → m ≡ n
port_agent e = cc

-- names in order are two
pub unequal : {m n : Name} → name_cmp m n ≡ Less → m ≡ n → ⊥
unequal {m} {n} o e = not_before_self n (rw e at o)

-- in a set where no agent is in two events, the partner of a principal port
module _ (s : Start) (ok : IsProper s) (es : List Event) (apart : (n : Name) → consumed_times n es ≤ 1) where
  -- where a trail joins two principal ports the second is the far end of the first
  pub far_by : {ss rest : List Link} (m n : Name) → (n ≡ m → ⊥) → Trail net_shape (links s es) (Of m 0) ss (Of n 0) rest → far net_shape (links s es) (Of m 0) ≡ Of n 0
  far_by m n o t =
      let slim' = slim s ok es apart in
      let h = principal s ok es apart m in
      let away : Of n 0 ≡ Of m 0 → ⊥ = λ e. o (port_agent e) in
      reaches_one net_shape slim' h (reaches_far net_shape (links s es) (Of m 0) slim' h) (loose_end net_shape (Of m 0) (Of n 0) slim' (principal s ok es apart n) away t)

  -- the links on the trail between two principal ports are determined
  pub same_links : {ss ss' rest rest' : List Link} (m n : Name) → (n ≡ m → ⊥) → Trail net_shape (links s es) (Of m 0) ss (Of n 0) rest → Trail net_shape (links s es) (Of m 0) ss' (Of n 0) rest' → ss ≡ ss'
  same_links m n o t t' =
      let slim' = slim s ok es apart in
      let d = principal s ok es apart n in
      let away : Of n 0 ≡ Of m 0 → ⊥ = λ e. o (port_agent e) in
      (determined net_shape slim' (principal s ok es apart m) t (stops_at net_shape (Of m 0) (Of n 0) slim' d away t) t' (stops_at net_shape (Of m 0) (Of n 0) slim' d away t')).0

  -- the partner of an event's lead is its other agent, and back
  pub lead_far : (e : Event) → WasFired s es e → far net_shape (links s es) (Of e.lead 0) ≡ Of e.other 0
  lead_far e w = far_by e.lead e.other (λ i. unequal w.present.ordered (sym i)) w.path.trail

  -- the partner of an event's other agent is its lead
  pub other_far : (e : Event) → WasFired s es e → far net_shape (links s es) (Of e.other 0) ≡ Of e.lead 0
  other_far e w = let r = reversed net_shape w.path.trail in far_by e.other e.lead (λ i. unequal w.present.ordered i) r.1

  -- an agent's kind is one
  pub same_kind : (n : Name) {x y : Name × Kind} → n ≡ x.0 → n ≡ y.0 → IsIn x (agents s es) → IsIn y (agents s es) → x.1 ≡ y.1
  same_kind n e f i j = kind_once n e f (names_once s es apart n) i.1 j.1

  -- two events that share an agent are one
  one_event : (e f : Event) → WasFired s es e → WasFired s es f → e.lead ≡ f.lead → e ≡ f
  one_event e f w v l =
      let o : e.other ≡ f.other = port_agent (sym (lead_far e w) ∙ (ap (λ n. far net_shape (links s es) (Of n 0)) l ∙ lead_far f v)) in
      let k : e.lead_kind ≡ f.lead_kind = same_kind e.lead refl l w.present.lead v.present.lead in
      let k' : e.other_kind ≡ f.other_kind = same_kind e.other refl o w.present.other v.present.other in
      λ i. record { lead = l i; lead_kind = k i; other = o i; other_kind = k' i }

  -- the lead of an event is no other event's other agent
  not_turned : (e f : Event) → WasFired s es e → WasFired s es f → e.lead ≡ f.other → ⊥
  not_turned e f w v l =
      let o : e.other ≡ f.lead = port_agent (sym (lead_far e w) ∙ (ap (λ n. far net_shape (links s es) (Of n 0)) l ∙ other_far f v)) in
      let a : name_cmp e.lead e.other ≡ Less = w.present.ordered in
      let b : name_cmp f.lead f.other ≡ Less = v.present.ordered in
      not_both_before e.lead e.other a (rw (o, l) b)

  -- two events that share an agent are one, whichever it is
  meets_once : (e f : Event) → WasFired s es e → WasFired s es f → (n : Name) → (n ≡ e.lead) ⊎ (n ≡ e.other) → (n ≡ f.lead) ⊎ (n ≡ f.other) → e ≡ f
  meets_once e f w v n (inl a) (inl b) = one_event e f w v (sym a ∙ b)
  meets_once e f w v n (inl a) (inr b) = absurd (not_turned e f w v (sym a ∙ b))
  meets_once e f w v n (inr a) (inl b) = absurd (not_turned f e v w (sym b ∙ a))
  meets_once e f w v n (inr a) (inr b) =
      let l : e.lead ≡ f.lead = port_agent (sym (other_far e w) ∙ (ap (λ n. far net_shape (links s es) (Of n 0)) (sym a ∙ b) ∙ other_far f v)) in
      one_event e f w v l

-- which of two parts of a list has the element
pub pick_part : {X : Type 0} {x : X} (xs ys : List X) {rest : List X} → Pick x (xs ++ ys) rest → IsIn x xs ⊎ IsIn x ys
pick_part [] ys k = inr (_, k)
pick_part (y ∷ xs) ys here = inl (xs, here)
pick_part (y ∷ xs) ys (there k) = elim (pick_part xs ys k) [ inl i ↦ inl (_, there i.1) | inr i ↦ inr i ]

-- the lead of an event of the list is consumed
pub consumed_in : {e : Event} {es rest : List Event} → Pick e es rest → 1 ≤ consumed_times e.lead es
consumed_in {e = e} here = rw (same_name_self e.lead) (omega arith)
consumed_in (there k) = let ih = consumed_in k in omega arith

-- a set includes itself
pub includes_self : (es : List Event) → Includes es es
includes_self es = record { others = []; alike = alike_self es }

-- and the empty one
pub includes_none : (es : List Event) → Includes es []
includes_none es = record { others = es; alike = rw (append-nil es) (alike_self es) }

-- with one event more it includes what it did
pub includes_more : (e : Event) {all es : List Event} → Includes all es → Includes (e ∷ all) es
includes_more e c = record { others = e ∷ c.others; alike = more here c.alike }

-- one event more on both sides
includes_both : (e : Event) {all es : List Event} → Includes all es → Includes (e ∷ all) (e ∷ es)
includes_both e {all} {es} c = record { others = c.others; alike = alike_then (alike_past c.others (e ∷ []) es) (more here c.alike) }

-- an event of the whole that isn't in the part is among the others
includes_event : {e : Event} {all es : List Event} → Includes all es → IsIn e all → (IsIn e es → ⊥) → Includes all (e ∷ es)
includes_event {e} {all} {es} c i n =
    let r = alike_pick (alike_back c.alike) i.1 in
    elim (pick_part c.others es r.1) [
      | inr j ↦ absurd (n j)
      | inl j ↦
          record { others = j.0; alike = alike_then (alike_then (alike_past j.0 (e ∷ []) es) (pulled j.1)) c.alike }
    ]
  where
    pulled : {rest : List Event} → Pick e c.others rest → Alike (e ∷ (rest ++ es)) (c.others ++ es)
    pulled k = alike_back (picked_alike (pick_before es k))

module _ (s : Start) (ok : IsProper s) where
  -- an event that was active in a part is in the whole, or active there
  pub there_or_active : {all es : List Event} (e : Event) → IsFired s all → Includes all es → IsActive s es e → Includes all (e ∷ es) ⊎ IsActive s all e
  there_or_active {all} {es} e firing part a = go (consumed_times e.lead all) (consumed_times e.other all) refl refl
    where
      apart : (n : Name) → consumed_times n all ≤ 1
      apart = fired_apart s firing

      here_now : WasFired s all e
      here_now = record { present = present_included s part a.present; path = path_included s part a.wire.path }

      new : IsIn e es → ⊥
      new i = let h = consumed_in i.1 in let z : consumed_times e.lead es ≡ 0 = loose_agent s es e.lead a.wire.from_loose in absurd (omega arith)

      by_consumer : (n : Name) → (n ≡ e.lead) ⊎ (n ≡ e.other) → Consumer n all → Includes all (e ∷ es)
      by_consumer n m c =
          let w = was_fired s firing c.among.1 in
          let same : c.event ≡ e = meets_once s ok all apart c.event e w here_now n c.consumes m in
          let i : IsIn e all = rw (← same) c.among in
          includes_event part i new

      loose : (n : Name) (k : Kind) → IsIn (n, k) (agents s all) → consumed_times n all ≡ 0 → IsLoose s all (Of n 0)
      loose n k i z = (k, i, omega arith, z)

      go : (m n : ℕ) → consumed_times e.lead all ≡ m → consumed_times e.other all ≡ n → Includes all (e ∷ es) ⊎ IsActive s all e
      go (suc m) n h i = inl (by_consumer e.lead (inl refl) (consumer e.lead all (omega arith)))
      go zero (suc n) h i = inl (by_consumer e.other (inr refl) (consumer e.other all (omega arith)))
      go zero zero h i =
          let p = here_now.present in
          inr (record { present = p; wire = record { path = here_now.path; from_loose = loose e.lead e.lead_kind p.lead h; to_loose = loose e.other e.other_kind p.other i } })

  -- so the whole has it too, or takes it in
  union_step : {es fs : List Event} (e : Event) (u : Union s es fs) → IsActive s es e → Union s (e ∷ es) fs
  union_step {es} {fs} e u a = elim (there_or_active e u.firing u.left a) [ inl i ↦ there_now i | inr h ↦ taken h ]
    where
      wider : (x : Event) → IsIn x es ⊎ IsIn x fs → IsIn x (e ∷ es) ⊎ IsIn x fs
      wider x (inl i) = inl (_, there i.1)
      wider x (inr i) = inr i

      there_now : Includes u.all (e ∷ es) → Union s (e ∷ es) fs
      there_now i = record { all = u.all; firing = u.firing; left = i; right = u.right; only = λ x j. wider x (u.only x j) }

      only_now : (x : Event) {rest : List Event} → Pick x (e ∷ u.all) rest → IsIn x (e ∷ es) ⊎ IsIn x fs
      only_now x here = inl (es, here)
      only_now x (there k) = wider x (u.only x (_, k))

      taken : IsActive s u.all e → Union s (e ∷ es) fs
      taken h = record { all = e ∷ u.all; firing = fired u.firing h; left = includes_both e u.left; right = includes_more e u.right; only = λ x j. only_now x j.1 }

  -- two firings over one start have a common one
  pub union : {es fs : List Event} → IsFired s es → IsFired s fs → Union s es fs
  union {fs = fs} nothing g = record { all = fs; firing = g; left = includes_none fs; right = includes_self fs; only = λ x i. inr i }
  union (fired {e = e} f a) g = union_step e (union f g) a

  -- no agent meets two partners: events of two firings that share an agent are one
  pub one_partner : {es fs rest rest' : List Event} (e f : Event) → IsFired s es → IsFired s fs → Pick e es rest → Pick f fs rest' → (n : Name) → (n ≡ e.lead) ⊎ (n ≡ e.other) → (n ≡ f.lead) ⊎ (n ≡ f.other) → e ≡ f
  one_partner e f a b i j n m m' =
      let u = union a b in
      let we = was_fired s a i in
      let wf = was_fired s b j in
      let we' : WasFired s u.all e = record { present = present_included s u.left we.present; path = path_included s u.left we.path } in
      let wf' : WasFired s u.all f = record { present = present_included s u.right wf.present; path = path_included s u.right wf.path } in
      meets_once s ok u.all (fired_apart s u.firing) e f we' wf' n m m'
