-- A plain step of the net of a set is the net of the set with the event.
use Rattle.std.proofs.Common.{◌≡◌, ℕ, suc, zero, ◌+◌, ◌≤◌, Bool, true, false, List, [], ◌∷◌, ◌++◌, refl, sym, ap, arith, ◌∙◌, Option, Some, None}
use Rattle.std.specs.Prelude.{if◌then◌else◌, eqb, leb, is_some, unwrap_or}
use Rattle.std.proofs.lemmas.Bool.{eqb-true, eqb-false, ne_eqb}
use Rattle.ic_name.specs.Names.{Name}
use Rattle.ic_name.specs.declared.kinds.Kind.{Kind}
use Rattle.ic_name.specs.declared.kinds.Kind.TheVariants.{Gamma, Delta, Eps}
use Rattle.ic_name.specs.declared.rules.Profile.{Profile}
use Rattle.ic_name.specs.declared.rules.Profile.TheVariants.{Classic, Straight}
use Rattle.ic_name.specs.declared.ports.Port.{Port}
use Rattle.ic_name.specs.declared.ports.Port.TheVariants.{Of}
use Rattle.ic_name.specs.declared.ports.Port.TheVariants as port
use Rattle.ic_name.specs.Events.{Event}
use Rattle.ic_path.specs.Orders.{here, there, Alike, more}
use Rattle.ic_path.specs.Links.{degree, IsSlim}
use Rattle.ic_path.specs.FarEnds.{far, splice}
use Rattle.ic_path.specs.Rings.{rings}
use Rattle.ic_path.proofs.Alikes.{alike_self, alike_then, alike_back}
use Rattle.ic_path.proofs.Orders.{far-alike, rings-alike, slim-alike, degree-alike, far_bare}
use Rattle.ic_name.specs.Same.{same_name}
use Rattle.ic_name.specs.Names.{child_name}
use Rattle.ic_name.specs.Kinds.{arity}
use Rattle.ic_theory.specs.Born.{Link, placed, born_agents}
use Rattle.ic_theory.specs.Rules.{born_ends}
use Rattle.ic_theory.specs.Starts.{Start, net_shape, IsProper}
use Rattle.ic_theory.specs.Sets.{agents, links, named_times, consumed_times}
use Rattle.ic_theory.specs.Active.{IsActive}
use Rattle.ic_theory.specs.Firings.{IsFired, fired}
use Rattle.ic_theory.specs.Nets.{kind_among, kind_of, has_port, is_loose, net_of, IsSameNet}
use Rattle.ic_theory.proofs.Splices.{Ends, join, join_all, spliced_step}
use Rattle.ic_theory.specs.Steps.{kind_after}
use Rattle.ic_theory.proofs.Counts.{names_once, slim, port_degree, free_degree, named_times-append, children_bound, rule_ports}
use Rattle.ic_theory.proofs.Future.{fired_apart, loose_agent}
use Rattle.ic_theory.proofs.NameKinds.{none_among, among-append, some_times, consumed_there, kind_there}

-- links that come one by one
abbrev rev_onto : {X : Type 0} → List X → List X → List X
rev_onto [] ls = ls
rev_onto (b ∷ bs) ls = rev_onto bs (b ∷ ls)

-- the far ends and the rings of a list of links
abbrev ends_of : List Link → Ends
ends_of ls = record { far = far net_shape ls; rings = rings net_shape ls }

-- splicing in links one by one gives the far ends of all
joined_links : (m : Option Event) (k : ℕ) (ps : List (Port × Port)) (ls : List Link) → join_all (ends_of ls) ps ≡ ends_of (rev_onto (placed m k ps) ls)
joined_links m k [] ls = refl
joined_links m k (p ∷ ps) ls = joined_links m (k + 1) ps (record { maker = m; place = k; a = p.0; b = p.1 } ∷ ls)

-- in whatever order they came
rev_alike : {X : Type 0} (bs ls : List X) → Alike (rev_onto bs ls) (bs ++ ls)
rev_alike [] ls = alike_self ls
rev_alike (b ∷ bs) ls = alike_then (rev_alike bs (b ∷ ls)) (middle bs b ls)
  where
    middle : {X : Type 0} (bs : List X) (b : X) (ls : List X) → Alike (bs ++ b ∷ ls) (b ∷ (bs ++ ls))
    middle [] b ls = alike_self _
    middle (c ∷ bs) b ls = more (there here) (middle bs b ls)

-- partners are read at the ends of the links alone
abbrev Agree : (Port → Port) → (Port → Port) → List (Port × Port) → Type 0
Agree f h [] = Unit {0}
Agree f h (p ∷ ps) = (f p.0 ≡ h p.0) × (f p.1 ≡ h p.1) × Agree f h ps

-- a splice says the same where its ends do
splice_agrees : (f h : Port → Port) (a b p : Port) → f a ≡ h a → f b ≡ h b → f p ≡ h p → splice net_shape f a b p ≡ splice net_shape h a b p
splice_agrees f h a b p x y z = rw (x, y, z) refl

-- at the later links' ends too
still_agree : (f h : Port → Port) (a b : Port) (ps : List (Port × Port)) → f a ≡ h a → f b ≡ h b → Agree f h ps → Agree (splice net_shape f a b) (splice net_shape h a b) ps
still_agree f h a b [] x y z = tt
still_agree f h a b (p ∷ ps) x y z = (splice_agrees f h a b p.0 x y z.0, splice_agrees f h a b p.1 x y z.1, still_agree f h a b ps x y z.2)

-- so far ends that agree there agree at the end
far_agrees : (w v : Ends) (ps : List (Port × Port)) (p : Port) → Agree w.far v.far ps → w.far p ≡ v.far p → (join_all w ps).far p ≡ (join_all v ps).far p
far_agrees w v [] p a h = h
far_agrees w v (l ∷ ls) p a h = far_agrees (join w l) (join v l) ls p (still_agree w.far v.far l.0 l.1 ls a.0 a.1 a.2) (splice_agrees w.far v.far l.0 l.1 p a.0 a.1 h)

-- and so do the rings
rings_agree : (w v : Ends) (ps : List (Port × Port)) → Agree w.far v.far ps → w.rings ≡ v.rings → (join_all w ps).rings ≡ (join_all v ps).rings
rings_agree w v [] a h = h
rings_agree w v (l ∷ ls) a h = rings_agree (join w l) (join v l) ls (still_agree w.far v.far l.0 l.1 ls a.0 a.1 a.2) (rw (a.0, h) refl)

-- they agree at a rule's ends where they agree at the children's ports and the pair's
agree_rule : (f h : Port → Port) (v : Profile) (ka kb : Kind) (e : Event)
    → ((i j : ℕ) → f (Of (child_name e.lead i) j) ≡ h (Of (child_name e.lead i) j))
    → ((j : ℕ) → leb j (arity ka) ≡ true → f (Of e.lead j) ≡ h (Of e.lead j))
    → ((j : ℕ) → leb j (arity kb) ≡ true → f (Of e.other j) ≡ h (Of e.other j))
    → Agree f h (rule_ports e (born_ends v ka kb))
agree_rule f h v Gamma Delta e c l o = (c 0 0, l 1 refl, (c 1 0, l 2 refl, (c 2 0, o 1 refl, (c 3 0, o 2 refl, (c 0 1, c 2 1, (c 0 2, c 3 1, (c 1 1, c 2 2, (c 1 2, c 3 2, tt))))))))
agree_rule f h v Delta Gamma e c l o = (c 0 0, o 1 refl, (c 1 0, o 2 refl, (c 2 0, l 1 refl, (c 3 0, l 2 refl, (c 0 1, c 2 1, (c 0 2, c 3 1, (c 1 1, c 2 2, (c 1 2, c 3 2, tt))))))))
agree_rule f h v Gamma Eps e c l o = (c 0 0, l 1 refl, (c 1 0, l 2 refl, tt))
agree_rule f h v Delta Eps e c l o = (c 0 0, l 1 refl, (c 1 0, l 2 refl, tt))
agree_rule f h v Eps Gamma e c l o = (c 0 0, o 1 refl, (c 1 0, o 2 refl, tt))
agree_rule f h v Eps Delta e c l o = (c 0 0, o 1 refl, (c 1 0, o 2 refl, tt))
agree_rule f h Classic Gamma Gamma e c l o = (l 1 refl, o 2 refl, (l 2 refl, o 1 refl, tt))
agree_rule f h Straight Gamma Gamma e c l o = (l 1 refl, o 1 refl, (l 2 refl, o 2 refl, tt))
agree_rule f h v Delta Delta e c l o = (l 1 refl, o 1 refl, (l 2 refl, o 2 refl, tt))
agree_rule f h v Eps Eps e c l o = tt

-- a value is given where the test is true
pub some_if : {X : Type 0} (b : Bool) (x : X) → is_some (if b then Some x else None) ≡ b
some_if true x = refl
some_if false x = refl

module _ (s : Start) (ok : IsProper s) (e : Event) (es : List Event) (f : IsFired s es) (a : IsActive s es e) where
  -- each agent is consumed once at most
  apart : (n : Name) → consumed_times n es ≤ 1
  apart = fired_apart s f

  -- and so with the event
  apart' : (n : Name) → consumed_times n (e ∷ es) ≤ 1
  apart' = fired_apart s (fired f a)

  -- each agent has the kind that the step gives it
  kinds_step : (n : Name) → kind_after (kind_of s es) e n ≡ kind_of s (e ∷ es) n
  kinds_step n = go (same_name n e.lead) (same_name n e.other) refl refl
    where
      eq0 : (m : ℕ) → eqb (suc m) 0 ≡ false
      eq0 m = ne_eqb (suc m) 0 (λ i. omega arith)

      more_than : (m : ℕ) → 1 ≤ m → eqb m 0 ≡ false
      more_than m h = ne_eqb m 0 (λ i. omega arith)

      gone : 1 ≤ consumed_times n (e ∷ es) → kind_of s (e ∷ es) n ≡ None
      gone h = ap (λ b. if b then kind_among n (agents s (e ∷ es)) else None) (more_than (consumed_times n (e ∷ es)) h)

      other_kinds : (b c : Bool) → is_some (kind_among n (born_agents e)) ≡ b → eqb (consumed_times n es) 0 ≡ c
          → (if b then kind_among n (born_agents e) else kind_of s es n) ≡ (if c then kind_among n (born_agents e ++ agents s es) else None)
      other_kinds true true i j = rw (among-append n (born_agents e) (agents s es), i) refl
      other_kinds false true i j = rw (among-append n (born_agents e) (agents s es), i, j) refl
      other_kinds false false i j = rw j refl
      other_kinds true false i j =
          let t = some_times n (born_agents e) i in
          let h = names_once s (e ∷ es) apart' n in
          let d = named_times-append n (born_agents e) (agents s es) in
          let c = consumed_there s es f n in
          let z : consumed_times n es ≡ 0 = omega arith in
          absurd (eqb-false (consumed_times n es) 0 j z)

      go : (x y : Bool) → same_name n e.lead ≡ x → same_name n e.other ≡ y → kind_after (kind_of s es) e n ≡ kind_of s (e ∷ es) n
      go true y i j =
          let h : 1 ≤ consumed_times n (e ∷ es) = rw i (omega arith) in
          let k : kind_after (kind_of s es) e n ≡ None = rw i refl in
          k ∙ sym (gone h)
      go false true i j =
          let h : 1 ≤ consumed_times n (e ∷ es) = rw (i, j) (omega arith) in
          let k : kind_after (kind_of s es) e n ≡ None = rw (i, j) refl in
          k ∙ sym (gone h)
      go false false i j =
          let z : consumed_times n (e ∷ es) ≡ consumed_times n es = rw (i, j) (omega arith) in
          let k : kind_after (kind_of s es) e n ≡ (if is_some (kind_among n (born_agents e)) then kind_among n (born_agents e) else kind_of s es n) = rw (i, j) refl in
          k ∙ (other_kinds (is_some (kind_among n (born_agents e))) (eqb (consumed_times n es) 0) refl refl ∙ sym (ap (λ m. if eqb m 0 then kind_among n (agents s (e ∷ es)) else None) z))

  -- the far ends that the net's partners say
  ends_before : Ends
  ends_before = record { far = λ p. unwrap_or ((net_of s es).partner p) p; rings = rings net_shape (links s es) }

  -- the port is loose before the event
  loose_before : Port → Bool
  loose_before p = is_loose (kind_of s es) (λ j. eqb (degree net_shape (links s es) (port.Name j)) 1) p

  -- the port is loose after it
  loose_after : Port → Bool
  loose_after p = is_loose (kind_of s (e ∷ es)) (λ j. eqb (degree net_shape (links s (e ∷ es)) (port.Name j)) 1) p

  -- at a loose port they are the links' far ends
  at_loose : (p : Port) → loose_before p ≡ true → ends_before.far p ≡ far net_shape (links s es) p
  unfolding ends_before loose_before
  at_loose p h = rw h refl

  -- at a port without links too
  at_bare : (p : Port) → loose_before p ≡ false → degree net_shape (links s es) p ≡ 0 → ends_before.far p ≡ far net_shape (links s es) p
  unfolding ends_before loose_before
  at_bare p h d = rw (h, far_bare net_shape (links s es) (slim s ok es apart) p d) refl

  -- at a port of an agent that isn't there too
  at_absent : (n : Name) (i : ℕ) → named_times n (agents s es) ≡ 0 → ends_before.far (Of n i) ≡ far net_shape (links s es) (Of n i)
  unfolding loose_before
  at_absent n i z = at_bare (Of n i) not_loose (no_links (eqb i 0) (port_degree s ok es n i))
    where
      gone : (b : Bool) → has_port (if b then kind_among n (agents s es) else None) i ≡ false
      gone true = rw (none_among n (agents s es) z) refl
      gone false = refl

      not_loose : loose_before (Of n i) ≡ false
      not_loose = gone (eqb (consumed_times n es) 0)

      no_links : (b : Bool) → degree net_shape (links s es) (Of n i) ≤ named_times n (agents s es) + (if b then 0 else consumed_times n es) → degree net_shape (links s es) (Of n i) ≡ 0
      no_links true d = omega arith
      no_links false d = let c = consumed_there s es f n in omega arith

  -- so at a child's port
  at_child : (i j : ℕ) → ends_before.far (Of (child_name e.lead i) j) ≡ far net_shape (links s es) (Of (child_name e.lead i) j)
  at_child i j = let b = children_bound s es e.lead i in let z = loose_agent s es e.lead a.wire.from_loose in at_absent (child_name e.lead i) j (omega arith)

  -- at the lead's ports
  at_lead : (j : ℕ) → leb j (arity e.lead_kind) ≡ true → ends_before.far (Of e.lead j) ≡ far net_shape (links s es) (Of e.lead j)
  unfolding loose_before
  at_lead j h = at_loose (Of e.lead j) (let k = kind_there s ok es f e.lead e.lead_kind a.present.lead (loose_agent s es e.lead a.wire.from_loose) in rw k h)

  -- and at the other agent's
  at_other : (j : ℕ) → leb j (arity e.other_kind) ≡ true → ends_before.far (Of e.other j) ≡ far net_shape (links s es) (Of e.other j)
  unfolding loose_before
  at_other j h = at_loose (Of e.other j) (let k = kind_there s ok es f e.other e.other_kind a.present.other (loose_agent s es e.other a.wire.to_loose) in rw k h)

  -- events make no link ends at names
  free_same : (j : ℕ) → degree net_shape (links s (e ∷ es)) (port.Name j) ≡ degree net_shape (links s es) (port.Name j)
  free_same j = free_degree s ok (e ∷ es) j ∙ sym (free_degree s ok es j)

  -- a port that is loose after the event is loose or bare before it, and has one link end at most after it
  unconsumed : (n : Name) (i : ℕ) → has_port (kind_of s (e ∷ es) n) i ≡ true → consumed_times n (e ∷ es) ≡ 0
  unconsumed n i h = go (eqb (consumed_times n (e ∷ es)) 0) refl h
    where
      go : (b : Bool) → eqb (consumed_times n (e ∷ es)) 0 ≡ b → has_port (if b then kind_among n (agents s (e ∷ es)) else None) i ≡ true → consumed_times n (e ∷ es) ≡ 0
      go true t h = eqb-true (consumed_times n (e ∷ es)) 0 t
      go false t h = cc

  -- at a port that is loose after the event too
  at_after : (p : Port) → loose_after p ≡ true → ends_before.far p ≡ far net_shape (links s es) p
  unfolding loose_before loose_after
  at_after (port.Name j) h = at_loose (port.Name j) (rw (← free_same j) h)
  at_after (Of n i) h = go (named_times n (agents s es)) refl
    where
      go : (m : ℕ) → named_times n (agents s es) ≡ m → ends_before.far (Of n i) ≡ far net_shape (links s es) (Of n i)
      go zero z = at_absent n i z
      go (suc m) z = at_loose (Of n i) (rw same h)
        where
          after : consumed_times n (e ∷ es) ≡ 0
          after = unconsumed n i h

          before : consumed_times n es ≡ 0
          before = let x = after in omega arith

          not_born : (b : Bool) → is_some (kind_among n (born_agents e)) ≡ b → is_some (kind_among n (born_agents e)) ≡ false
          not_born true t = let k = some_times n (born_agents e) t in let o = names_once s (e ∷ es) apart' n in let d = named_times-append n (born_agents e) (agents s es) in absurd (omega arith)
          not_born false t = t

          same_kinds : kind_among n (agents s (e ∷ es)) ≡ kind_among n (agents s es)
          same_kinds = among-append n (born_agents e) (agents s es) ∙ ap (λ b. if b then kind_among n (born_agents e) else kind_among n (agents s es)) (not_born (is_some (kind_among n (born_agents e))) refl)

          same : kind_of s es n ≡ kind_of s (e ∷ es) n
          same = ap (λ k. if eqb k 0 then kind_among n (agents s es) else None) (before ∙ sym after) ∙ ap (λ x. if eqb (consumed_times n (e ∷ es)) 0 then x else None) (sym same_kinds)

  -- such a port has one link end at most
  free_after : (p : Port) → loose_after p ≡ true → degree net_shape (links s (e ∷ es)) p ≤ 1
  unfolding loose_after
  free_after (port.Name j) h = let d = eqb-true (degree net_shape (links s (e ∷ es)) (port.Name j)) 1 h in omega arith
  free_after (Of n i) h = go (eqb i 0) (port_degree s ok (e ∷ es) n i)
    where
      go : (b : Bool) → degree net_shape (links s (e ∷ es)) (Of n i) ≤ named_times n (agents s (e ∷ es)) + (if b then 0 else consumed_times n (e ∷ es)) → degree net_shape (links s (e ∷ es)) (Of n i) ≤ 1
      go true d = let o = names_once s (e ∷ es) apart' n in omega arith
      go false d = let o = names_once s (e ∷ es) apart' n in let u = unconsumed n i h in omega arith

  -- the ports of the rule's links
  the_ports : List (Port × Port)
  the_ports = rule_ports e (born_ends s.profile e.lead_kind e.other_kind)

  -- the far ends after the splices
  ends_after : Ends
  unfolding the_ports
  ends_after = join_all ends_before the_ports

  -- the links with the new ones put on one by one
  turned : List Link
  unfolding the_ports
  turned = rev_onto (placed (Some e) 0 the_ports) (links s es)

  -- they are those of the set with the event
  turned_alike : Alike turned (links s (e ∷ es))
  unfolding turned the_ports
  turned_alike = rev_alike (placed (Some e) 0 the_ports) (links s es)

  -- the far ends agree at the rule's ports
  agree : Agree ends_before.far (far net_shape (links s es)) the_ports
  unfolding the_ports
  agree = agree_rule ends_before.far (far net_shape (links s es)) s.profile e.lead_kind e.other_kind e at_child at_lead at_other

  -- no port has more than two link ends after the event
  slim_after : IsSlim net_shape (links s (e ∷ es))
  slim_after = slim s ok (e ∷ es) apart'

  -- the splices give the far ends of the set with the event
  far_step : (p : Port) → loose_after p ≡ true → ends_after.far p ≡ far net_shape (links s (e ∷ es)) p
  unfolding ends_after turned the_ports
  far_step p h =
      let x = far_agrees ends_before (ends_of (links s es)) the_ports p agree (at_after p h) in
      let y : (join_all (ends_of (links s es)) the_ports).far p ≡ far net_shape turned p = ap (λ (w : Ends). w.far p) (joined_links (Some e) 0 the_ports (links s es)) in
      let d : degree net_shape turned p ≤ 1 = rw (degree-alike net_shape turned_alike p) (free_after p h) in
      let z = far-alike net_shape turned_alike (slim-alike net_shape (alike_back turned_alike) slim_after) p d in
      x ∙ (y ∙ z)

  -- and its rings
  rings_step : ends_after.rings ≡ rings net_shape (links s (e ∷ es))
  unfolding ends_after turned the_ports ends_before
  rings_step =
      let x = rings_agree ends_before (ends_of (links s es)) the_ports agree refl in
      let y : (join_all (ends_of (links s es)) the_ports).rings ≡ rings net_shape turned = ap (λ (w : Ends). w.rings) (joined_links (Some e) 0 the_ports (links s es)) in
      let z = rings-alike net_shape turned_alike (slim-alike net_shape (alike_back turned_alike) slim_after) in
      x ∙ (y ∙ z)

  -- the same ports are loose
  loose_step : (p : Port) → is_loose (kind_after (kind_of s es) e) (λ j. is_some ((net_of s es).partner (port.Name j))) p ≡ loose_after p
  unfolding loose_after
  loose_step (Of n i) = ap (λ k. has_port k i) (kinds_step n)
  loose_step (port.Name j) = some_if (eqb (degree net_shape (links s es) (port.Name j)) 1) (far net_shape (links s es) (port.Name j)) ∙ ap (λ d. eqb d 1) (sym (free_same j))

  -- so each port has the same partner
  partner_step : (p : Port) → (spliced_step (net_of s es) e).partner p ≡ (net_of s (e ∷ es)).partner p
  unfolding ends_after the_ports ends_before loose_after
  partner_step p = ap (λ b. if b then Some (ends_after.far p) else None) (loose_step p) ∙ go (loose_after p) refl
    where
      go : (b : Bool) → loose_after p ≡ b → (if b then Some (ends_after.far p) else None) ≡ (if b then Some (far net_shape (links s (e ∷ es)) p) else None)
      go true h = ap Some (far_step p h)
      go false h = refl

  -- the net of a set with an active event more is the net of the set, stepped
  pub step_is : IsSameNet (spliced_step (net_of s es) e) (net_of s (e ∷ es))
  unfolding ends_after the_ports ends_before
  step_is = record { kinds = kinds_step; partners = partner_step; rings = rings_step; profile = refl }
