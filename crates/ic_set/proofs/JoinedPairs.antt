-- Which pairs become active once an event is put in: those between agents whose principal ports its links join.
use Rattle.std.proofs.Common.{◌≡◌, ◌≢◌, ◌+◌, ◌<◌, ◌≤◌, ◌⊎◌, inl, inr, ℕ, zero, suc, Bool, true, false, List, [], ◌∷◌, ◌++◌, length, length-append, map, ap, refl, sym, arith, subst, ◌∙◌, Option, Some}
use Rattle.std.specs.Prelude.{slice_index_or, leb}
use Rattle.std.proofs.lemmas.Bool.{leb-true, leb-false}
use Rattle.std.proofs.lemmas.List.{get_or-map, length-map}
use Rattle.ic_name.specs.Names.{Name}
use Rattle.ic_name.specs.Events.{Event}
use Rattle.ic_name.specs.declared.ids.AgentId.{AgentId}
use Rattle.ic_name.specs.declared.ids.EventId.{EventId}
use Rattle.ic_name.specs.declared.ids.Link.{Link}
use Rattle.ic_name.specs.declared.ids.Spot.{Spot}
use Rattle.ic_name.specs.declared.ids.Spot.TheVariants.{Agent}
use Rattle.ic_name.specs.declared.rules.RuleEnd.{RuleEnd}
use Rattle.ic_name.specs.declared.rules.RuleEnd.TheVariants.{Child, Lead, Other}
use Rattle.ic_path.specs.FarEnds.{far}
use Rattle.ic_path.specs.Links.{degree, IsSlim}
use Rattle.ic_path.specs.Orders.{IsIn, Alike}
use Rattle.ic_path.proofs.Alikes.{alike_back, alike-in}
use Rattle.ic_path.proofs.InLists.{in-append_cases, in-map, map_cases}
use Rattle.ic_path.proofs.Orders.{degree-alike, far-alike, far-far, far_bare, slim-alike}
use Rattle.ic_path.proofs.Picks.{in_first, in_more, in-cons_cases, none_in, pick_before}
use Rattle.ic_link.specs.Links.{shape}
use Rattle.ic_link.specs.Made.{no_id, no_spots, spot_of, spots_of, HasDigit, HaveDigits, AreJoins}
use Rattle.ic_link.specs.declared.principals.Principals.{Principals}
use Rattle.ic_link.proofs.FirstJoins.{one_agent}
use Rattle.ic_link.proofs.InPlace.{in_at, at_seam}
use Rattle.ic_link.proofs.MadeLinks.{made_at, length_made}
use Rattle.ic_theory.specs.Rules.{born_ends}
use Rattle.ic_theory.proofs.Counts.{degree-append}
use Rattle.ic_roster.specs.Rosters.{Member, Stander}
use Rattle.ic_cause.proofs.SameEnds.{degree_is}
use Rattle.ic_set.specs.declared.pairs.ActivePair.{ActivePair}
use Rattle.ic_set.specs.Joining.{made_links}
use Rattle.ic_set.specs.Pairs.{AreJoined, IsPairOf, IsBetween, AreActiveJoins, Awakes}
use Rattle.ic_set.specs.Sets.{IsKept}
use Rattle.ic_set.specs.Views.{SetView, standing, agent_of}
use Rattle.ic_set.proofs.ActivePairs.{joined_pair, one_id}
use Rattle.ic_set.proofs.BornPorts.{born_once}
use Rattle.ic_set.proofs.Children.{length-born, nth_child}
use Rattle.ic_set.proofs.GrownSets.{Grows, up, no_child}
use Rattle.ic_set.proofs.JoinedInTurn.{Meets, joined_since, not_met, bare_first}
use Rattle.ic_set.proofs.JoinsRead.{kept_slim, joined_reads, reads_joined, absent_bare}
use Rattle.ic_set.proofs.Partners.{LeadsNone, joined_apart, joined_back, joined_unled}
use Rattle.ic_set.proofs.RuleDigits.{rule_digits}
use Rattle.ic_set.proofs.RuleEnds.{IsOuter, rule_outer, rule_inner}

-- each link that an event makes comes of the ends of one
made_ends : (d : EventId) (p : ActivePair) (born : List AgentId) (k : ℕ) (xs : List (RuleEnd × RuleEnd)) (l : Link) → IsIn l (made_links d p born k xs)
    → (x : RuleEnd × RuleEnd) × IsIn x xs × (l.a ≡ spot_of p.lead p.other born x.0) × (l.b ≡ spot_of p.lead p.other born x.1)
made_ends d p born k [] l i = absurd (none_in i)
made_ends d p born k (x ∷ xs) l i = elim (in-cons_cases i) [
  | inl e ↦ (x, in_first x xs, ap (λ (m : Link). m.a) e, ap (λ (m : Link). m.b) e)
  | inr j ↦ (let r = made_ends d p born (k + 1) xs l j in (r.0, in_more x r.1, r.2, r.3))
]

-- an agent's principal port is no auxiliary one
no_inner : {a b : AgentId} {j : ℕ} → Agent a (suc j) ≡ Agent b 0 → ⊥
no_inner e = cc

port_none : {a b : AgentId} {j : ℕ} → Agent a j ≡ Agent b 0 → j ≡ 0
port_none e = cc

module _ (v w : SetView) (ls ls' : List Link) (k : IsKept v ls) (k' : IsKept w ls') (e : Event) (born : List AgentId) (g : Grows v w e born)
    (p : ActivePair) (pair : IsPairOf v e p) (d : EventId) (links : Alike (made_links d p born 0 (born_ends v.start.profile e.lead_kind e.other_kind) ++ ls) ls') where
  -- the ends of the links
  abbrev ends : List (RuleEnd × RuleEnd)
  ends = born_ends v.start.profile e.lead_kind e.other_kind

  -- and the links
  abbrev made : List Link
  made = made_links d p born 0 ends

  -- no spot has more than two of their ends
  slim : IsSlim shape (made ++ ls)
  slim = slim_alike' (kept_slim w ls' k')
    where
      slim_alike' : IsSlim shape ls' → IsSlim shape (made ++ ls)
      slim_alike' = slim-alike shape (alike_back links)

  -- an agent was there, or is a child
  old_or_child : (m : Member) → IsIn m w.agents → IsIn m v.agents ⊎ IsIn m g.children
  old_or_child m i = elim (in-append_cases g.children (alike-in g.agents i)) [ inl c ↦ inr c | inr j ↦ inl j ]

  -- a child has one of the children's ids
  born_id : (m : Member) → IsIn m g.children → IsIn m.id born
  born_id m c = subst (IsIn m.id) g.are.under (in-map (λ (y : Member). y.id) c)

  -- no link of before ends at a child's port
  child_bare : (m : Member) → IsIn m g.children → (i : ℕ) → degree shape ls (Agent m.id i) ≡ 0
  child_bare m c i = absent_bare v ls k m.id i (λ x there q. no_child v w k.set k'.set e born g x there (subst (λ y. IsIn y born) (sym q) (born_id m c)))

  -- two agents that are joined are two
  apart : (a b : AgentId) → AreJoined w a b → a ≢ b
  apart a b j same = joined_apart w k'.set j (ap (λ (m : Member). m.name) (one_id w k'.set j.left j.right j.left_there j.right_there (j.left_id ∙ same ∙ sym j.right_id)))

  -- an agent that leads no event led none before
  led_none : (n : Name) → LeadsNone w n → LeadsNone v n
  led_none n none x i q =
      let y = map_cases (λ (y : Stander). y.event) w.events (alike-in (alike_back g.events) (in_more e (in-map (λ (y : Stander). y.event) i))) in
      none y.0 y.1 (ap (λ (f : Event). f.lead) y.2 ∙ q)

  -- the principal port of an agent that is joined has one link end, and had no more
  one_end : (a b : AgentId) → AreJoined w a b → degree shape (made ++ ls) (Agent a 0) ≤ 1
  one_end a b j = let same = degree-alike shape links (Agent a 0) in let one = (joined_reads w ls' k' a b j).0 in omega arith

  few_before : (a b : AgentId) → AreJoined w a b → degree shape ls (Agent a 0) ≤ 1
  few_before a b j = let few = one_end a b j in let sum = degree-append shape made ls (Agent a 0) in omega arith

  -- where it was bare, its path ended there
  not_bare : (a b : AgentId) → AreJoined w a b → far shape ls (Agent a 0) ≡ Agent b 0 → degree shape ls (Agent a 0) ≢ 0
  not_bare a b j h none = apart a b j (one_agent (sym (far_bare shape ls (kept_slim v ls k) (Agent a 0) none) ∙ h))

  -- the path leads back
  led_back : (a b : AgentId) → AreJoined w a b → far shape ls (Agent a 0) ≡ Agent b 0 → far shape ls (Agent b 0) ≡ Agent a 0
  led_back a b j h = subst (λ q. far shape ls q ≡ Agent a 0) h (far-far shape ls (kept_slim v ls k) (Agent a 0) (few_before a b j))

  -- an agent whose port had an end was there
  was_there : (m : Member) → IsIn m w.agents → degree shape ls (Agent m.id 0) ≢ 0 → IsIn m v.agents
  was_there m i some = elim (old_or_child m i) [ inl old ↦ old | inr c ↦ absurd (some (child_bare m c 0)) ]

  -- agents that are joined by a path of before were joined before
  was_joined : (a b : AgentId) → AreJoined w a b → far shape ls (Agent a 0) ≡ Agent b 0 → AreJoined v a b
  was_joined a b j h =
      let back = joined_back w k'.set j in
      let some = not_bare a b j h in
      let some' = not_bare b a back (led_back a b j h) in
      let m = was_there j.left j.left_there (subst (λ x. degree shape ls (Agent x 0) ≢ 0) (sym j.left_id) some) in
      let n = was_there j.right j.right_there (subst (λ x. degree shape ls (Agent x 0) ≢ 0) (sym j.right_id) some') in
      let free = led_none j.left.name (joined_unled w k'.set j j.left j.left_there j.left_id) in
      let there = led_none j.right.name (joined_unled w k'.set back j.right j.right_there j.right_id) in
      let one = one_of (degree shape ls (Agent a 0)) some (few_before a b j) in
      let found = reads_joined v ls k j.left j.right m n free there (subst (λ x. degree shape ls (Agent x 0) ≡ 1) (sym j.left_id) one) (rw (j.left_id, j.right_id) h) in
      rw (j.left_id, j.right_id) at found
    where
      one_of : (n : ℕ) → n ≢ 0 → n ≤ 1 → n ≡ 1
      one_of zero some few = absurd (some refl)
      one_of (suc n) some few = omega arith

  -- and an active pair of such agents was active
  pair_before : (f : Event) (q : ActivePair) → IsPairOf w f q → AreJoined v q.lead q.other → IsPairOf v f q
  pair_before f q h j =
      let m = one_id w k'.set j.left _ (up v w k.set k'.set e born g j.left j.left_there) h.lead j.left_id in
      let n = one_id w k'.set j.right _ (up v w k.set k'.set e born g j.right j.right_there) h.other j.right_id in
      let lead : IsIn (record { id = q.lead; name = f.lead; kind = f.lead_kind }) v.agents = subst (λ x. IsIn x v.agents) m j.left_there in
      let other : IsIn (record { id = q.other; name = f.other; kind = f.other_kind }) v.agents = subst (λ x. IsIn x v.agents) n j.right_there in
      record {
        active = record {
          present = record { lead = alike-in k.set.agents (in-map agent_of lead); other = alike-in k.set.agents (in-map agent_of other); ordered = h.active.present.ordered };
          wire = rw (ap (λ (x : Member). x.name) m, ap (λ (x : Member). x.name) n) at j.wire;
        };
        lead = lead;
        other = other;
      }

  -- the ends of the pair's links that aren't a child's are at auxiliary ports, so no link ends at the principal port of an agent of before
  end_off : (n : Member) → IsIn n v.agents → (x : RuleEnd) → HasDigit born x → IsOuter x → spot_of p.lead p.other born x ≢ Agent n.id 0
  end_off n there (Child i j) h o q = no_child v w k.set k'.set e born g n there (subst (λ a. IsIn a born) (one_agent q) (in_at born i no_id h))
  end_off n there (Lead j) h o q = o (port_none q)
  end_off n there (Other j) h o q = o (port_none q)

  its_digits : HaveDigits born ends
  its_digits = rule_digits born v.start.profile e.lead_kind e.other_kind (length-born e born g.children g.are)

  links_off : (n : Member) → IsIn n v.agents → (l : Link) → IsIn l made → (l.a ≢ Agent n.id 0) × (l.b ≢ Agent n.id 0)
  links_off n there l i =
      let x = made_ends d p born 0 ends l i in
      let digits = its_digits x.0 x.1 in
      let out = rule_outer v.start.profile e.lead_kind e.other_kind x.0 x.1 in
      (λ q. end_off n there x.0.0 digits.0 out.0 (sym x.2 ∙ q), λ q. end_off n there x.0.1 digits.1 out.1 (sym x.3 ∙ q))

  -- a port of a child is one end of one link
  child_once : (m : Member) → IsIn m g.children → (i : ℕ) → degree shape (made ++ ls) (Agent m.id i) ≤ 1
  child_once m c i =
      let there = alike-in (alike_back g.agents) (_, pick_before v.agents c.1) in
      let named = k'.named.agents m there in
      let held = degree_is k'.naming w.start (standing w) ls' k'.shows (Agent m.id i) named.0 in
      let born = born_once v.start k.set.proper e (standing w) (standing v) k.set.sound pair.active g.events m.name m.kind (subst (IsIn (m.name, m.kind)) g.are.named (in-map agent_of c)) i in
      let same = degree-alike shape links (Agent m.id i) in
      let held' = rw (named.1, g.start) at held in
      omega arith

  -- a link from the fifth on begins at an auxiliary port of a child, and joins no principal ports
  late : (front back : List Link) (l : Link) → made ≡ front ++ l ∷ back → 4 ≤ length front → (a : AgentId) → far shape (front ++ ls) l.a ≡ Agent a 0 → ⊥
  late front back l split far_on a q =
      let no_ends : RuleEnd × RuleEnd = (Child 0 0, Child 0 0) in
      let i = length front in
      let long = length_made d 0 (map (spots_of p.lead p.other born) ends) ∙ length-map ends (spots_of p.lead p.other born) in
      let whole = ap length split in
      let parts = length-append front (l ∷ back) in
      let here : i < length ends = omega (arith, long, whole, parts) in
      let its : slice_index_or made i l ≡ l = ap (λ xs. slice_index_or xs i l) split ∙ at_seam front l back l in
      let is = made_at d (map (spots_of p.lead p.other born) ends) i l no_spots (omega (arith, length-map ends (spots_of p.lead p.other born), here)) in
      let inner = rule_inner v.start.profile e.lead_kind e.other_kind i far_on here in
      let digits = its_digits _ (in_at ends i no_ends here) in
      let first : l.a ≡ spot_of p.lead p.other born (slice_index_or ends i no_ends).0 = ap (λ (m : Link). m.a) (sym its ∙ is) ∙ ap (λ (x : Spot × Spot). x.0) (get_or-map (spots_of p.lead p.other born) ends i no_ends no_spots here) in
      let spot : l.a ≡ Agent (slice_index_or born inner.digit no_id) (suc inner.port) = first ∙ ap (spot_of p.lead p.other born) inner.child in
      let digit : HasDigit born (Child inner.digit (suc inner.port)) = subst (HasDigit born) inner.child digits.0 in
      let m = nth_child e born g.children g.are inner.digit digit in
      let once = subst (λ x. degree shape (made ++ ls) (Agent x (suc inner.port)) ≤ 1) {x = m.0.id} m.2 (child_once m.0 m.1 (suc inner.port)) in
      let bare = bare_first ls made slim front back l split (subst (λ s. degree shape (made ++ ls) s ≤ 1) (sym spot) once) in
      no_inner (sym spot ∙ sym bare ∙ q)

  module _ (joins : List (Option Principals)) (are : AreJoins ls made joins) where
    -- what met is among the joins
    met_join : (a b : AgentId) → Meets ls made (Agent a 0) (Agent b 0) → IsIn (Some (record { one = a; other = b })) joins ⊎ IsIn (Some (record { one = b; other = a })) joins
    met_join a b m = by (leb 4 (length m.front)) refl
      where
        by : (t : Bool) → leb 4 (length m.front) ≡ t → IsIn (Some (record { one = a; other = b })) joins ⊎ IsIn (Some (record { one = b; other = a })) joins
        by true t = absurd (elim m.sides [
          | inl s ↦ late m.front m.back m.link m.split (leb-true 4 (length m.front) t) a s.0
          | inr s ↦ late m.front m.back m.link m.split (leb-true 4 (length m.front) t) b s.0
        ])
        by false t =
            let low = leb-false 4 (length m.front) t in
            elim m.sides [
              | inl s ↦ inl (are.each m.front m.back m.link (record { one = a; other = b }) m.split low s)
              | inr s ↦ inr (are.each m.front m.back m.link (record { one = b; other = a }) m.split low s)
            ]

    -- an active pair was active before, or is between the agents of a join
    newly_joined : (f : Event) (q : ActivePair) → IsPairOf w f q → IsPairOf v f q ⊎ ((j : Option Principals) × IsIn j joins × IsBetween j q)
    newly_joined f q h =
        let j = joined_pair w k'.set f q h in
        let few = one_end q.lead q.other j in
        let end = far-alike shape links slim (Agent q.lead 0) few ∙ (joined_reads w ls' k' q.lead q.other j).1 in
        elim (joined_since ls [] made slim (Agent q.lead 0) (Agent q.other 0) few end) [
          | inl was ↦ inl (pair_before f q h (was_joined q.lead q.other j was))
          | inr m ↦ (elim (met_join q.lead q.other m) [ inl i ↦ inr (_, i, inl refl) | inr i ↦ inr (_, i, inr refl) ])
        ]

    -- and no pair between the agents of a join was active before
    not_before : (f : Event) (q : ActivePair) → IsPairOf v f q → (j : Option Principals) → IsIn j joins → IsBetween j q → ⊥
    not_before f q h j i between =
        let was = joined_pair v k.set f q h in
        elim between [
          | inl same ↦ (
              let o = are.only _ (subst (λ x. IsIn x joins) same i) in
              not_met ls made slim (Agent q.lead 0) (Agent q.other 0) (links_off _ h.other) (record { front = o.0; back = o.1; link = o.2; split = o.3; sides = inl o.4 }) (joined_reads v ls k q.lead q.other was).1)
          | inr same ↦ (
              let o = are.only _ (subst (λ x. IsIn x joins) same i) in
              not_met ls made slim (Agent q.lead 0) (Agent q.other 0) (links_off _ h.other) (record { front = o.0; back = o.1; link = o.2; split = o.3; sides = inr o.4 }) (joined_reads v ls k q.lead q.other was).1)
        ]

    -- so the active pairs between the agents of the joins are those that became active
    pub joins_awake : (pairs : List (Option ActivePair)) → AreActiveJoins w joins pairs → Awakes v w pairs
    joins_awake pairs act = record {
      each = λ f q h. elim (newly_joined f q h) [ inl was ↦ inl was | inr j ↦ inr (act.each f q j.0 h j.1 j.2) ];
      only = λ q i. (let r = act.only q i in (r.0, λ was. not_before was.0 q was.1 r.1.0 r.1.1 r.1.2));
    }
