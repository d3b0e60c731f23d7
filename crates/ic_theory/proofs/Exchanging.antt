-- Any firing reaches the canonical order by exchanges of neighbours.
use Rattle.std.proofs.Common.{◌≡◌, ℕ, ◌<◌, ◌≤◌, List, [], ◌∷◌, ◌⊎◌, inl, inr, refl, sym, ap, arith, ◌∙◌}
use Rattle.std.specs.declared.cmp.Ordering.{Ordering}
use Rattle.std.specs.declared.cmp.Ordering.TheVariants.{Less, Equal, Greater}
use Rattle.std.specs.Ordering.{nat_cmp, ordering_then, ordering_reverse}
use Rattle.std.proofs.lemmas.Cmp.{ranked}
use Rattle.ic_name.specs.Events.{Event}
use Rattle.ic_path.specs.Orders.{here, there, IsIn, Alike, none, more}
use Rattle.ic_path.proofs.Alikes.{alike_self, alike_then, alike_back}
use Rattle.ic_theory.specs.Starts.{Start, IsProper}
use Rattle.ic_theory.specs.Sets.{consumed_times}
use Rattle.ic_theory.specs.Firings.{IsFired, nothing, fired}
use Rattle.ic_theory.specs.Causes.{IsCause, canonical_cmp}
use Rattle.ic_theory.specs.Exchanges.{Exchanges, done, exchanged, IsCanonical}
use Rattle.ic_theory.proofs.Closed.{cause_stays}
use Rattle.ic_theory.proofs.Future.{in_alike, consumed_in, loose_agent, earlier, last_active, includes_self, includes_more}
use Rattle.ic_theory.proofs.Normal.{active-alike}
use Rattle.ic_theory.proofs.Ranks.{cause_included, cause_in, first_or_in, same_set}
use Rattle.ic_theory.proofs.Replies.{canonical_total, canonical_tied}
use Rattle.ic_theory.proofs.Sound.{fired_sound}
use Rattle.ic_theory.proofs.Swaps.{fired_swap}

-- exchanges among the earlier events are exchanges
behind_one : {s : Start} (x : Event) {es fs : List Event} → Exchanges s es fs → Exchanges s (x ∷ es) (x ∷ fs)
behind_one x done = done
behind_one x (exchanged later n m r) = exchanged (x ∷ later) n m (behind_one x r)

-- exchanges go on
then_on : {s : Start} {es fs gs : List Event} → Exchanges s es fs → Exchanges s fs gs → Exchanges s es gs
then_on done q = q
then_on (exchanged later n m r) q = exchanged later n m (then_on r q)

-- causes have lesser ranks
abbrev RisesBy : Start → (Event → ℕ) → List Event → Type 0
RisesBy s rank all = (e c : Event) → IsIn e all → IsCause s all e c → rank c < rank e

-- an event that isn't greater has no greater rank
pub not_above : (rank : Event → ℕ) (x y : Event) → canonical_cmp rank x y ≡ Less → rank x ≤ rank y
not_above rank x y h = go _ (nat_cmp (rank x) (rank y)) refl h
  where
    go : (o r : Ordering) → nat_cmp (rank x) (rank y) ≡ r → ordering_then r o ≡ Less → rank x ≤ rank y
    go o Less e k = let l = ranked (rank x) (rank y) Less (sym e) in omega arith
    go o Equal e k = let l = ranked (rank x) (rank y) Equal (sym e) in omega arith
    go o Greater e k = cc

-- what is greater than a greater event is greater
greater_on : (rank : Event → ℕ) (x y g : Event) → canonical_cmp rank x y ≡ Greater → canonical_cmp rank y g ≡ Greater → canonical_cmp rank x g ≡ Greater
greater_on rank x y g h k =
    let total = canonical_total rank in
    let low : canonical_cmp rank g y ≡ Less = total.antisymm g y ∙ ap ordering_reverse k in
    let high : canonical_cmp rank y x ≡ Less = total.antisymm y x ∙ ap ordering_reverse h in
    total.antisymm x g ∙ ap ordering_reverse (total.trans g y x low high)

module _ (s : Start) (ok : IsProper s) (rank : Event → ℕ) where
  -- what is known of the canonical order of a firing
  pub record Ordered (es : List Event) : Type 0 where
    pub order : List Event
    pub exchanges : Exchanges s es order
    pub firing : IsFired s order
    pub canonical : IsCanonical rank order
    pub alike : Alike es order

  -- an event doesn't stand before it is fired
  fresh : (e : Event) (es : List Event) → IsFired s (e ∷ es) → IsIn e es → ⊥
  fresh e es f i = let z = loose_agent s es e.lead (last_active f).wire.from_loose in let y = consumed_in i.1 in absurd (omega arith)

  -- two neighbours have different leads
  other_lead : (x y : Event) (ys : List Event) → IsFired s (x ∷ y ∷ ys) → x.lead ≡ y.lead → ⊥
  other_lead x y ys f e =
      let z : consumed_times x.lead (y ∷ ys) ≡ 0 = loose_agent s (y ∷ ys) x.lead (last_active f).wire.from_loose in
      let w = consumed_in {e = y} {es = y ∷ ys} here in
      let same : consumed_times x.lead (y ∷ ys) ≡ consumed_times y.lead (y ∷ ys) = ap (λ n. consumed_times n (y ∷ ys)) e in
      absurd (omega arith)

  -- an earlier event doesn't rest on a later one
  not_back : (x y : Event) (ys : List Event) → IsFired s (x ∷ y ∷ ys) → IsCause s (x ∷ y ∷ ys) y x → ⊥
  not_back x y ys f c =
      let all = (fired_sound s ok (x ∷ y ∷ ys) f).0 in
      let part = (fired_sound s ok (y ∷ ys) (earlier f)).0 in
      fresh x (y ∷ ys) f (cause_in s (cause_stays s ok all.apart (includes_more x (includes_self (y ∷ ys))) part (ys, here) c))

  -- ranks of a firing are ranks of what is left of it, and in any order of it
  rises_earlier : (x : Event) (es : List Event) → RisesBy s rank (x ∷ es) → RisesBy s rank es
  rises_earlier x es h e c i k = h e c (_, there i.1) (cause_included s (includes_more x (includes_self es)) k)

  rises-alike : {es fs : List Event} → Alike es fs → RisesBy s rank es → RisesBy s rank fs
  rises-alike a h e c i k = h e c (in_alike i (alike_back a)) (cause_included s (same_set (alike_back a)) k)

  -- the latest event goes to its place among events in order
  placed : (x : Event) (ys : List Event) → IsFired s (x ∷ ys) → RisesBy s rank (x ∷ ys) → IsCanonical rank ys → Ordered (x ∷ ys)
  placed x [] f h c = record { order = x ∷ []; exchanges = done; firing = f; canonical = (λ g i. elim i.1 [ ], tt); alike = alike_self (x ∷ []) }
  placed x (y ∷ ys) f h c = go (canonical_cmp rank x y) refl (placed x ys)
    where
      swapped : Alike (x ∷ y ∷ ys) (y ∷ x ∷ ys)
      swapped = more (there here) (more here (alike_self ys))

      go : (o : Ordering) → canonical_cmp rank x y ≡ o → (IsFired s (x ∷ ys) → RisesBy s rank (x ∷ ys) → IsCanonical rank ys → Ordered (x ∷ ys)) → Ordered (x ∷ y ∷ ys)
      go Greater e rest = record {
        order = x ∷ y ∷ ys;
        exchanges = done;
        firing = f;
        canonical = (λ g i. above g (first_or_in i.1), c);
        alike = alike_self (x ∷ y ∷ ys);
      }
        where
          above : (g : Event) → (g ≡ y) ⊎ IsIn g ys → canonical_cmp rank x g ≡ Greater
          above g (inl i) = ap (canonical_cmp rank x) i ∙ e
          above g (inr i) = greater_on rank x y g e (c.0 g i)
      go Equal e rest = absurd (other_lead x y ys f (canonical_tied rank x y e))
      go Less e rest =
          let apart : IsCause s (x ∷ y ∷ ys) x y → ⊥ = (λ k. let l = h x y (_, here) k in let m = not_above rank x y e in absurd (omega arith)) in
          let now : IsFired s (y ∷ x ∷ ys) = fired_swap s ok y x ys f apart in
          let r = rest (earlier now) (rises_earlier y (x ∷ ys) (rises-alike swapped h)) c.1 in
          record {
            order = y ∷ r.order;
            exchanges = exchanged [] apart (not_back x y ys f) (behind_one y r.exchanges);
            firing = fired r.firing (active-alike s r.alike (last_active now));
            canonical = (λ g i. above g (first_or_in (in_alike i (alike_back r.alike)).1), r.canonical);
            alike = alike_then swapped (more here r.alike);
          }
        where
          turned : canonical_cmp rank y x ≡ Greater
          turned = (canonical_total rank).antisymm y x ∙ ap ordering_reverse e

          above : (g : Event) → (g ≡ x) ⊎ IsIn g ys → canonical_cmp rank y g ≡ Greater
          above g (inl i) = ap (canonical_cmp rank y) i ∙ turned
          above g (inr i) = c.0 g i

  -- any firing reaches the canonical order
  pub ordered : (es : List Event) → IsFired s es → RisesBy s rank es → Ordered es
  ordered [] nothing h = record { order = []; exchanges = done; firing = nothing; canonical = tt; alike = none }
  ordered (x ∷ es) (fired f a) h =
      let r = ordered es f (rises_earlier x es h) in
      let now : IsFired s (x ∷ r.order) = fired r.firing (active-alike s r.alike a) in
      let p = placed x r.order now (rises-alike (more here r.alike) h) r.canonical in
      record { order = p.order; exchanges = then_on (behind_one x r.exchanges) p.exchanges; firing = p.firing; canonical = p.canonical; alike = alike_then (more here r.alike) p.alike }
