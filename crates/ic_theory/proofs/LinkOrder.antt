-- The stated order of links orders those of a sound set.
use Rattle.std.proofs.Common.{◌≡◌, ℕ, ◌+◌, ◌≤◌, true, List, [], ◌∷◌, ◌⊎◌, inl, inr, refl, sym, ap, arith, ◌∙◌, Option, Some, None}
use Rattle.std.proofs.lemmas.Cmp.{ranked, tied_itself, then_total, on_total, nat_cmp_total}
use Rattle.std.specs.declared.cmp.Ordering.{Ordering}
use Rattle.std.specs.declared.cmp.Ordering.TheVariants.{Less, Equal, Greater}
use Rattle.std.specs.Cmp.{IsTotalOrder}
use Rattle.std.specs.Cmp.Lexicographic.{options_total}
use Rattle.std.specs.Option.{option_cmp}
use Rattle.std.specs.Ordering.{is_lt, nat_cmp}
use Rattle.ic_name.specs.Names.{Name}
use Rattle.ic_name.specs.Events.{Event}
use Rattle.ic_name.specs.Same.{same_name}
use Rattle.ic_name.specs.declared.ports.Port.{Port}
use Rattle.ic_name.proofs.NameOrder.{name_cmp_total, name_tied}
use Rattle.ic_path.specs.Orders.{Pick, here, there, IsIn}
use Rattle.ic_path.specs.Rings.{IsOrder}
use Rattle.ic_theory.specs.Born.{Link, placed, born_links, born_joins}
use Rattle.ic_theory.specs.Starts.{Start, start_links}
use Rattle.ic_theory.specs.Sets.{links, consumed_times}
use Rattle.ic_theory.specs.Sound.{IsSound}
use Rattle.ic_theory.specs.Seals.{event_cmp, link_cmp, comes_before}
use Rattle.ic_theory.proofs.Future.{is_named, pick_part}
use Rattle.ic_theory.proofs.Sound.{maker_in, placed_maker}
use Rattle.ic_name.proofs.Orderings.{then_tied, neither_less}

-- the order of links is total up to ties
link_cmp_total : IsTotalOrder link_cmp
link_cmp_total =
    let events : IsTotalOrder event_cmp = then_total (on_total (λ (e : Event). e.lead) name_cmp_total) (on_total (λ (e : Event). e.other) name_cmp_total) in
    then_total (on_total (λ (l : Link). l.maker) (options_total events)) (on_total (λ (l : Link). l.place) nat_cmp_total)

-- what comes before is less
less_if : (a : Ordering) → is_lt a ≡ true → a ≡ Less
less_if Less h = refl
less_if Equal h = cc
less_if Greater h = cc

-- an event that leads with the agent consumes it
led_in : (n : Name) {e : Event} {es rest : List Event} → n ≡ e.lead → Pick e es rest → 1 ≤ consumed_times n es
led_in n h here = rw (is_named h) (omega arith)
led_in n h (there k) = let ih = led_in n h k in omega arith

-- an agent that is in one event at most leads one at most
one_lead : (n : Name) {e f : Event} {es rest rest' : List Event} → n ≡ e.lead → n ≡ f.lead → consumed_times n es ≤ 1 → Pick e es rest → Pick f es rest' → e ≡ f
one_lead n h i o here here = refl
one_lead n {e = e} h i o here (there k) = let c = led_in n i k in let t : same_name n e.lead ≡ true = is_named h in absurd (let o' = rw t at o in omega (arith, o'))
one_lead n {f = f} h i o (there k) here = let c = led_in n h k in let t : same_name n f.lead ≡ true = is_named i in absurd (let o' = rw t at o in omega (arith, o'))
one_lead n h i o (there k) (there k') = one_lead n h i (omega arith) k k'

-- places are counted from the first one on
placed_from : (m : Option Event) (k : ℕ) (ps : List (Port × Port)) {l : Link} {rest : List Link} → Pick l (placed m k ps) rest → k ≤ l.place
placed_from m k [] i = elim i [ ]
placed_from m k (p ∷ ps) here = omega arith
placed_from m k (p ∷ ps) (there i) = let ih = placed_from m (k + 1) ps i in omega arith

-- and each is one link's
placed_once : (m : Option Event) (k : ℕ) (ps : List (Port × Port)) {l l' : Link} {rest rest' : List Link} → Pick l (placed m k ps) rest → Pick l' (placed m k ps) rest' → l.place ≡ l'.place → l ≡ l'
placed_once m k [] i j h = elim i [ ]
placed_once m k (p ∷ ps) here here h = refl
placed_once m k (p ∷ ps) here (there j) h = let f = placed_from m (k + 1) ps j in absurd (omega arith)
placed_once m k (p ∷ ps) (there i) here h = let f = placed_from m (k + 1) ps i in absurd (omega arith)
placed_once m k (p ∷ ps) (there i) (there j) h = placed_once m (k + 1) ps i j h

-- a link of the set with no maker is the start's
of_start : (s : Start) (es : List Event) {l : Link} → IsIn l (links s es) → l.maker ≡ None → IsIn l (start_links s)
of_start s [] i h = i
of_start s (e ∷ es) {l = l} i h = go (pick_part (born_links s.profile e) (links s es) i.1) (λ j. of_start s es j h)
  where
    go : IsIn l (born_links s.profile e) ⊎ IsIn l (links s es) → (IsIn l (links s es) → IsIn l (start_links s)) → IsIn l (start_links s)
    go (inl j) f = let m : l.maker ≡ Some e = placed_maker (Some e) 0 (born_joins s.profile e) j.1 in cc
    go (inr j) f = f j

-- a link of the set that an event made is among those of the event
pub made_by_maker : (s : Start) (es : List Event) {l : Link} {c : Event} → IsIn l (links s es) → l.maker ≡ Some c → IsIn l (born_links s.profile c)
made_by_maker s [] {l = l} i h = let m : l.maker ≡ None = placed_maker None 0 s.joins i.1 in cc
made_by_maker s (e ∷ es) {l = l} {c = c} i h = go (pick_part (born_links s.profile e) (links s es) i.1) (λ j. made_by_maker s es j h)
  where
    go : IsIn l (born_links s.profile e) ⊎ IsIn l (links s es) → (IsIn l (links s es) → IsIn l (born_links s.profile c)) → IsIn l (born_links s.profile c)
    go (inl j) f = let m : l.maker ≡ Some e = placed_maker (Some e) 0 (born_joins s.profile e) j.1 in let same : e ≡ c = cc in rw (← same) j
    go (inr j) f = f j

module _ (s : Start) (es : List Event) (sound : IsSound s es) where
  -- two links of the set that the order ties are one
  one_link : (l m : Link) → IsIn l (links s es) → IsIn m (links s es) → link_cmp l m ≡ Equal → l ≡ m
  one_link l m i j h = let parts = then_tied (option_cmp event_cmp l.maker m.maker) (nat_cmp l.place m.place) h in go l.maker m.maker refl refl parts.0 (ranked l.place m.place Equal (sym parts.1))
    where
      go : (a b : Option Event) → l.maker ≡ a → m.maker ≡ b → option_cmp event_cmp a b ≡ Equal → l.place ≡ m.place → l ≡ m
      go None None p q t e = placed_once None 0 s.joins (of_start s es i p).1 (of_start s es j q).1 e
      go None (Some f) p q t e = cc
      go (Some c) None p q t e = cc
      go (Some c) (Some f) p q t e =
          let lead : c.lead ≡ f.lead = name_tied c.lead f.lead (then_tied _ _ t).0 in
          let same : c ≡ f = one_lead c.lead refl lead (sound.apart c.lead) (maker_in s es i p).1 (maker_in s es j q).1 in
          let q' : m.maker ≡ Some c = q ∙ ap Some (sym same) in
          placed_once (Some c) 0 (born_joins s.profile c) (made_by_maker s es i p).1 (made_by_maker s es j q').1 e

  -- the links of a sound set stand in one order
  pub ordered : IsOrder comes_before (links s es)
  ordered = record {
    not_below_itself = λ l. ap is_lt (tied_itself link_cmp_total l);
    passes_on = λ k l m h i. ap is_lt (link_cmp_total.trans k l m (less_if (link_cmp k l) h) (less_if (link_cmp l m) i));
    equal_if_neither = λ l m i j h k. one_link l m i j (neither_less (link_cmp l m) (link_cmp m l) (link_cmp_total.antisymm l m) h k);
  }
