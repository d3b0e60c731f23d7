-- Numbers of wires stay right as wires are entered.
use Rattle.std.proofs.Common.{◌≡◌, ◌≢◌, ℕ, zero, suc, ◌+◌, ◌<◌, ◌≤◌, Bool, true, false, List, [], ◌∷◌, ◌++◌, length, length-append, ◌⊎◌, inl, inr, refl, ap, ◌∙◌, sym, subst, arith}
use Rattle.std.specs.Prelude.{Option, Some, None, is_some, if◌then◌else◌, ◌==◌, ◌&&◌, position, map, get_or, slice_get, replicate, All}
use Rattle.std.specs.List.{list_any, filter_map, cons_option, fold}
use Rattle.std.proofs.lemmas.Bool.{false_from_ne_true}
use Rattle.std.proofs.lemmas.Bool.Decides.{nat_tests}
use Rattle.std.proofs.lemmas.List.{length-map, length-replicate, get_or-map, get_or-replicate, get_or_past}
use Rattle.std.proofs.lemmas.List.Sums.{fold-append}
use Rattle.std.proofs.lemmas.List.Elements.{filter_map-append, All-get_or}
use Rattle.std.proofs.lemmas.Option.{same_Some}
use Rattle.ic_name.specs.Names.{Name}
use Rattle.ic_name.specs.Kinds.{arity}
use Rattle.ic_name.specs.declared.kinds.Kind.{Kind}
use Rattle.ic_name.specs.declared.kinds.Kind.TheVariants.{Gamma, Delta}
use Rattle.ic_name.specs.Same.{same_port}
use Rattle.ic_name.specs.declared.ports.Port.{Port}
use Rattle.ic_name.specs.declared.ports.Port.TheVariants.{Of}
use Rattle.ic_name.specs.declared.ports.Port.TheVariants as port
use Rattle.ic_name.proofs.SameFacts.{same_port_true, same_port_self}
use Rattle.ic_theory.specs.Listed.{NetAgent, agent_among, partner_at}
use Rattle.ic_net.specs.Placed.{listed_at, placed_list, port_at}
use Rattle.ic_net.specs.declared.sheet.placed.PlacedAgent.{PlacedAgent}
use Rattle.ic_text.specs.NetText.{add, wire_of, partner_of, shown_ports, line_wires}
use Rattle.ic_text.specs.Numbers.{bare, port_number, AreWired, IsNumbering, Enters, GivesNumber, number_at, port_wire, port_wires, wire_place}
use Rattle.ic_text.specs.declared.print.numbers.WireNumbers.{WireNumbers}
use Rattle.ic_text.specs.declared.print.port_numbers.PortNumbers.{PortNumbers}
use Rattle.ic_text.proofs.Places.{one_place}
use Rattle.ic_text.proofs.Positions.{place_then, position_more, position_any}
use Rattle.ic_text.proofs.Wired.{FarEnd, far_end, port_partner}
use Rattle.ic_text.proofs.Wires.{wire_both, wire_between}
use Rattle.ic_net.proofs.StepTables.{none_by}

-- the wire of a port and a port of an agent is one of the two
wire_named : (p : Port) (n : Name) (j : ℕ) (v : Port) → wire_of p (Of n j) ≡ Some v → (v ≡ p) ⊎ (v ≡ Of n j)
wire_named p n j v is =
    let w = wire_between p n j in
    let e : v ≡ w.wire = same_Some v w.wire (sym is ∙ w.is) in
    elim w.named [ inl h ↦ inl (e ∙ h) | inr h ↦ inr (e ∙ h) ]

-- the places of the wires stay as w, which is none of them, is added
kept : (ws : List Port) (w : Port) (o : Option Port) → ((v : Port) → o ≡ Some v → v ≢ w) → wire_place ws o ≡ wire_place (ws ++ w ∷ []) o
kept ws w None h = refl
kept ws w (Some v) h =
    let other : same_port v w ≡ false = false_from_ne_true _ (λ t. h v refl (same_port_true v w t)) in
    sym (position_more (same_port v) ws w ∙ rw other (first (position (same_port v) ws))) where
      first : (o : Option ℕ) → place_then o false (length ws) ≡ o
      first None = refl
      first (Some i) = refl

-- and w has the next
next : (ws : List Port) (w : Port) → position (same_port w) ws ≡ None → position (same_port w) (ws ++ w ∷ []) ≡ Some (length ws)
next ws w none = position_more (same_port w) ws w ∙ rw (none, same_port_self w) refl

-- two tests of numbers pass where both are equal
both_are : (k l i j : ℕ) → ((k == l) && (i == j)) ≡ true → (k ≡ l) × (i ≡ j)
both_are k l i j h = grind (arith, nat_tests)

both_same : (k l i j : ℕ) → k ≡ l → i ≡ j → ((k == l) && (i == j)) ≡ true
both_same k l i j e f = grind (arith, nat_tests)

-- a test has one answer
absurd_by : {b : Bool} → b ≡ true → b ≡ false → ⊥
absurd_by h k = cc

module _ (as' : List NetAgent) (wired : AreWired as') (k i : ℕ) (a : NetAgent) (at_k : slice_get as' k ≡ Some a) (within : i < length a.partners) (n : Name) (j : ℕ) (is : partner_of a i ≡ Of n j) where
  -- the wire at the port
  abbrev wire : Port
  wire = (wire_between (Of a.name i) n j).wire

  wire_is : port_wire a i ≡ Some wire
  wire_is = ap (wire_of (Of a.name i)) is ∙ (wire_between (Of a.name i) n j).is

  far : FarEnd as' a i n j
  far = far_end as' wired k i a at_k within n j is

  -- it is the wire at its other end, too
  far_wire : port_wire far.agent j ≡ Some wire
  far_wire =
      let back : port_wire far.agent j ≡ wire_of (Of n j) (Of a.name i) = ap (λ m. wire_of (Of m j) (partner_of far.agent j)) far.name ∙ ap (wire_of (Of n j)) far.back in
      back ∙ sym (wire_both a.name n i j far.apart) ∙ (wire_between (Of a.name i) n j).is

  -- the partner of a port of an agent
  abbrev partner_in : Port → Option Port
  partner_in (Of m i) = partner_at i (agent_among m as')
  partner_in (port.Name x) = None

  -- and at no other port
  ends : (l h : ℕ) (b : NetAgent) → slice_get as' l ≡ Some b → h < length b.partners → port_wire b h ≡ Some wire → (Of b.name h ≡ Of n j) ⊎ (Of b.name h ≡ Of a.name i)
  ends l h b at_l inside same = go (partner_of b h) refl
    where
      here : partner_in (Of a.name i) ≡ Some (Of n j)
      here = port_partner as' wired k i a at_k within ∙ ap Some is

      there : partner_in (Of n j) ≡ Some (Of a.name i)
      there = (wired.both_ways a.name n i j here).1

      through : (x : Name) (y : ℕ) → partner_in (Of x y) ≡ Some (Of b.name h) → (wire ≡ Of a.name i) ⊎ (wire ≡ Of n j) → (wire ≡ Of b.name h) ⊎ (wire ≡ Of x y) → (Of b.name h ≡ Of n j) ⊎ (Of b.name h ≡ Of a.name i)
      through x y back (inl e) (inl f) = inr (sym f ∙ e)
      through x y back (inr e) (inl f) = inl (sym f ∙ e)
      through x y back (inl e) (inr f) = inl (same_Some (Of b.name h) (Of n j) (sym back ∙ ap partner_in (sym f ∙ e) ∙ here))
      through x y back (inr e) (inr f) = inr (same_Some (Of b.name h) (Of a.name i) (sym back ∙ ap partner_in (sym f ∙ e) ∙ there))

      go : (q : Port) → partner_of b h ≡ q → (Of b.name h ≡ Of n j) ⊎ (Of b.name h ≡ Of a.name i)
      go (port.Name x) e = let none : port_wire b h ≡ None = ap (wire_of (Of b.name h)) e in cc
      go (Of x y) e =
          let back = wired.both_ways b.name x h y (port_partner as' wired l h b at_l inside ∙ ap Some e) in
          let wire_b : wire_of (Of b.name h) (Of x y) ≡ Some wire = sym (ap (wire_of (Of b.name h)) e) ∙ same in
          through x y back.1 (wire_between (Of a.name i) n j).named (wire_named (Of b.name h) x y wire wire_b)

  -- the two ends have places
  module _ (l : ℕ) (at_l : slice_get as' l ≡ agent_among n as') where
    far_at : slice_get as' l ≡ Some far.agent
    far_at = at_l ∙ far.found

    -- where a port has the wire, its place and its number are those of one of the ends
    placed : (x h : ℕ) (b : NetAgent) → slice_get as' x ≡ Some b → (Of b.name h ≡ Of n j) ⊎ (Of b.name h ≡ Of a.name i) → (((l == x) && (j == h)) ≡ true) ⊎ (((k == x) && (i == h)) ≡ true)
    placed x h b at_x (inl e) =
        let name : far.agent.name ≡ b.name = let s : b.name ≡ n = cc in far.name ∙ sym s in
        let place : l ≡ x = one_place as' l x far.agent b wired.in_order far_at at_x name in
        let port : j ≡ h = cc in
        inl (both_same l x j h place port)
    placed x h b at_x (inr e) =
        let name : a.name ≡ b.name = cc in
        let place : k ≡ x = one_place as' k x a b wired.in_order at_k at_x name in
        let port : i ≡ h = cc in
        inr (both_same k x i h place port)

    -- a wire that has no number is entered at both its ends
    pub enters_new : (m h o : WireNumbers) → is_some (number_at m k i) ≡ false → GivesNumber k i m.count m h → GivesNumber l j m.count h o → o.count ≡ m.count + 1 → Enters as' m o (port_wires a i)
    enters_new m halfway o bare here there one_more ws numbering = subst (λ xs. IsNumbering as' o (fold add ws xs)) (sym entered) (subst (IsNumbering as' o) (sym added) after)
      where
        entered : port_wires a i ≡ wire ∷ []
        entered = ap (λ o. cons_option o []) wire_is

        none : position (same_port wire) ws ≡ None
        none = sym (ap (wire_place ws) wire_is) ∙ sym (numbering.places k i a at_k within) ∙ none_by (number_at m k i) bare

        added : add ws wire ≡ ws ++ wire ∷ []
        added = let new : list_any (same_port wire) ws ≡ false = sym (position_any (same_port wire) ws) ∙ ap is_some none in rw new refl

        last : (b : NetAgent) (h : ℕ) → port_wire b h ≡ Some wire → Some m.count ≡ wire_place (ws ++ wire ∷ []) (port_wire b h)
        last b h e = ap Some numbering.count ∙ sym (next ws wire none) ∙ sym (ap (wire_place (ws ++ wire ∷ [])) e)

        -- each port, whether it is an end of the wire or not
        by_end : (x h : ℕ) (b : NetAgent) → slice_get as' x ≡ Some b → h < length b.partners → (s t : Bool) → ((l == x) && (j == h)) ≡ s → ((k == x) && (i == h)) ≡ t
            → (if s then Some m.count else if t then Some m.count else number_at m x h) ≡ wire_place (ws ++ wire ∷ []) (port_wire b h)
        by_end x h b at_x inside true t e f =
            let same = both_are l x j h e in
            let agent : far.agent ≡ b = same_Some far.agent b (sym far_at ∙ ap (slice_get as') same.0 ∙ at_x) in
            last b h (sym (λ u. port_wire (agent u) (same.1 u)) ∙ far_wire)
        by_end x h b at_x inside false true e f =
            let same = both_are k x i h f in
            let agent : a ≡ b = same_Some a b (sym at_k ∙ ap (slice_get as') same.0 ∙ at_x) in
            last b h (sym (λ u. port_wire (agent u) (same.1 u)) ∙ wire_is)
        by_end x h b at_x inside false false e f =
            numbering.places x h b at_x inside ∙ kept ws wire (port_wire b h) (λ v has one. elim (placed x h b at_x (ends x h b at_x inside (has ∙ ap Some one))) [ inl p ↦ absurd_by p e | inr p ↦ absurd_by p f ])

        after : IsNumbering as' o (ws ++ wire ∷ [])
        after = record {
          count = one_more ∙ ap (λ c. c + 1) numbering.count ∙ sym (length-append ws (wire ∷ []));
          places = λ x h b at_x inside. there x h ∙ ap (λ u. if (l == x) && (j == h) then Some m.count else u) (here x h) ∙ by_end x h b at_x inside ((l == x) && (j == h)) ((k == x) && (i == h)) refl refl;
        }

  -- a wire that has a number is not entered again
  pub enters_again : (m : WireNumbers) → is_some (number_at m k i) ≡ true → Enters as' m m (port_wires a i)
  enters_again m has ws numbering =
      let place : number_at m k i ≡ position (same_port wire) ws = numbering.places k i a at_k within ∙ ap (wire_place ws) wire_is in
      let there : list_any (same_port wire) ws ≡ true = sym (position_any (same_port wire) ws) ∙ sym (ap is_some place) ∙ has in
      let stays : add ws wire ≡ ws = rw there refl in
      let entered : port_wires a i ≡ wire ∷ [] = ap (λ o. cons_option o []) wire_is in
      subst (λ xs. IsNumbering as' m (fold add ws xs)) (sym entered) (subst (IsNumbering as' m) (sym stays) numbering)

-- some wires and then others are all of them in turn
pub enters_both : (as' : List NetAgent) (m n o : WireNumbers) (xs ys : List Port) → Enters as' m n xs → Enters as' n o ys → Enters as' m o (xs ++ ys)
enters_both as' m n o xs ys one two ws is = rw (fold-append add ws xs ys) (two _ (one ws is))

-- the wires of the three ports of a gamma or delta, one after the other
pub enters_three : (as' : List NetAgent) (a : NetAgent) (m n o p : WireNumbers) → (a.kind ≡ Gamma) ⊎ (a.kind ≡ Delta) → Enters as' m n (port_wires a 1) → Enters as' n o (port_wires a 2) → Enters as' o p (port_wires a 0) → Enters as' m p (line_wires a)
enters_three as' a m n o p kind one two three =
    let wire = port_wire a in
    let later = enters_both as' n o p (port_wires a 2) (port_wires a 0) two three in
    let all = enters_both as' m n p (port_wires a 1) (port_wires a 2 ++ port_wires a 0) one later in
    let e : port_wires a 1 ++ (port_wires a 2 ++ port_wires a 0) ≡ filter_map wire (1 ∷ 2 ∷ 0 ∷ []) = sym (filter_map-append wire (1 ∷ []) (2 ∷ 0 ∷ []) ∙ ap (λ r. port_wires a 1 ++ r) (filter_map-append wire (2 ∷ []) (0 ∷ []))) in
    let ports : shown_ports a.kind ≡ 1 ∷ 2 ∷ 0 ∷ [] = three_ports a.kind kind in
    subst (Enters as' m p) (e ∙ ap (filter_map wire) (sym ports)) all where
      three_ports : (k : Kind) → (k ≡ Gamma) ⊎ (k ≡ Delta) → shown_ports k ≡ 1 ∷ 2 ∷ 0 ∷ []
      three_ports k (inl h) = rw h refl
      three_ports k (inr h) = rw h refl

-- each agent has as many partners as its kind has ports
pub whole_placed : (ns : List Name) (as' : List PlacedAgent) (i : ℕ) (d : PlacedAgent) → i < length as' → All (λ (n : NetAgent). length n.partners ≡ arity n.kind + 1) (map (listed_at ns) as')
    → length (placed_list (get_or as' i d).partners) ≡ arity (get_or as' i d).kind + 1
whole_placed ns as' i d within all =
    let a = get_or as' i d in
    let inside : i < length (map (listed_at ns) as') = rw (length-map as' (listed_at ns)) within in
    let here = All-get_or (λ (n : NetAgent). length n.partners ≡ arity n.kind + 1) (map (listed_at ns) as') i (listed_at ns a) inside all in
    let whole = subst (λ (n : NetAgent). length n.partners ≡ arity n.kind + 1) (get_or-map (listed_at ns) as' i d (listed_at ns a) within) here in
    sym (length-map (placed_list a.partners) (port_at ns)) ∙ whole

-- where no agent has numbers, no port has one
pub bare_rows : (rows : List PortNumbers) (n k i : ℕ) → rows ≡ replicate n bare → port_number (get_or rows k bare) i ≡ None
bare_rows rows n k i is = ap (λ r. port_number r i) row ∙ none i
  where
    beyond : n ≤ k → get_or (replicate n bare) k bare ≡ bare
    beyond le = get_or_past (replicate n bare) k bare (omega (arith, le, length-replicate n bare))

    row : get_or rows k bare ≡ bare
    row = ap (λ xs. get_or xs k bare) is ∙ grind (arith, get_or-replicate n k bare bare, beyond)

    none : (i : ℕ) → port_number bare i ≡ None
    none zero = refl
    none (suc zero) = refl
    none (suc (suc zero)) = refl
    none (suc (suc (suc i))) = refl
