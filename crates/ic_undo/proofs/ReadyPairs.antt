-- The pairs of the listed events that are active, by their names.
use Rattle.std.proofs.Common.{◌≡◌, ◌≢◌, ℕ, ◌+◌, ◌<◌, arith, length, Bool, true, false, cond, List, [], ◌∷◌, ◌++◌, ◌⊎◌, inl, inr, Option, Some, None, refl, sym, ap, subst, ◌∙◌}
use Rattle.std.specs.BTreeMap.{is_at}
use Rattle.std.specs.Prelude.{if◌then◌else◌}
use Rattle.std.specs.Ordering.{is_gt}
use Rattle.ic_name.specs.Events.{Event, Pair, pair, pair_cmp}
use Rattle.ic_name.specs.declared.ids.EventId.{EventId}
use Rattle.ic_path.specs.Orders.{IsIn, Alike}
use Rattle.ic_path.proofs.Alikes.{alike_back, alike-in, alike-map}
use Rattle.ic_path.proofs.Picks.{none_in, in_first, pick_before}
use Rattle.ic_theory.specs.Active.{IsActive}
use Rattle.ic_roster.specs.Rosters.{Member, Stander}
use Rattle.ic_set.specs.declared.pairs.ActivePair.{ActivePair}
use Rattle.ic_set.specs.Changes.{Admits}
use Rattle.ic_set.specs.Pairs.{IsPairOf, Awakes}
use Rattle.ic_set.specs.Sets.{IsStandingSet}
use Rattle.ic_set.specs.Views.{SetView, standing}
use Rattle.ic_set.proofs.ActivePairs.{one_name, one_pair, pair_of}
use Rattle.ic_set.proofs.GrownSets.{Grows, stays}
use Rattle.ic_journal.specs.Views.{BenchView, set_of}
use Rattle.ic_undo.specs.Absorbing.{IsLeastListed}
use Rattle.ic_undo.specs.Coming.{NoneListed}
use Rattle.ic_undo.specs.Ready.{TellsMissing, AreReady, AddsPairs}
use Rattle.ic_path.proofs.InLists.{in_behind}
use Rattle.ic_undo.proofs.MissingNames.{active_missing}
use Rattle.ic_undo.proofs.PairTests.{pair_only, pair_fails, pair_apart, lead_not_above}
use Rattle.ic_undo.proofs.Places.{parts}

-- one value is held
pub one_value : {X : Type 0} {x y : X} → Some x ≡ Some y → x ≡ y
one_value h = cc

-- a list without a first element is empty
pub no_elements : {X : Type 0} (xs : List X) → (0 < length xs → ⊥) → xs ≡ []
no_elements [] n = refl
no_elements (x ∷ xs) n = absurd (n (omega arith))

-- what was in a set and is taken out makes it one smaller
pub one_fewer : (b : Bool) (few many : ℕ) → b ≡ true → few + (if b then 1 else 0) ≡ many → few + 1 ≡ many
one_fewer true few many t h = h
one_fewer false few many t h = cc

-- active events of one name are one, and so are their pairs
pub one_named : (v : SetView) → IsStandingSet v → (e f : Event) (p q : ActivePair) → IsPairOf v e p → IsPairOf v f q → pair e ≡ pair f → (e ≡ f) × (p ≡ q)
one_named v set e f p q h k same =
    let lead = one_name v set _ _ h.lead k.lead (ap (λ (n : Pair). n.lead) same) in
    one_pair v set e f p q h k (ap (λ (m : Member). m.id) lead)

-- none of no names is ready
pub ready_none : (v : SetView) (at : Pair → Option ActivePair) → ((q : Pair) → at q ≡ None) → AreReady v [] at
ready_none v at none = record { each = λ e p h i. absurd (none_in i); only = λ q p h. (let n = none q in absurd cc) }

-- what is put in under a name
abbrev pub PutsIn : Pair → ActivePair → (Pair → Option ActivePair) → (Pair → Option ActivePair) → Type 0
PutsIn key p old new = (q : Pair) → new q ≡ cond (is_at (pair_cmp key) q) (Some p) (old q)

module _ (v : SetView) (set : IsStandingSet v) where
  module _ (key : Pair) (e : Event) (p : ActivePair) (h : IsPairOf v e p) (named : pair e ≡ key) (old new : Pair → Option ActivePair) (put : PutsIn key p old new) where
    -- its pair is there
    put_there : (f : Event) (q : ActivePair) → IsPairOf v f q → pair f ≡ key → new (pair f) ≡ Some q
    put_there f q k same = put (pair f) ∙ by (is_at (pair_cmp key) (pair f)) refl
      where
        by : (b : Bool) → is_at (pair_cmp key) (pair f) ≡ b → cond b (Some p) (old (pair f)) ≡ Some q
        by true t = ap Some (one_named v set e f p q h k (named ∙ sym same)).1
        by false t = absurd (pair_fails key (pair f) t same)

    -- what was there is there
    put_kept : (f : Event) (q : ActivePair) → IsPairOf v f q → old (pair f) ≡ Some q → new (pair f) ≡ Some q
    put_kept f q k was = put (pair f) ∙ by (is_at (pair_cmp key) (pair f)) refl
      where
        by : (b : Bool) → is_at (pair_cmp key) (pair f) ≡ b → cond b (Some p) (old (pair f)) ≡ Some q
        by true t = ap Some (one_named v set e f p q h k (named ∙ sym (pair_only key (pair f) t))).1
        by false t = was

    -- and nothing else
    put_only : (q : Pair) (r : ActivePair) → new q ≡ Some r → ((q ≡ key) × (r ≡ p)) ⊎ (old q ≡ Some r)
    put_only q r now = by (is_at (pair_cmp key) q) refl (sym (put q) ∙ now)
      where
        by : (b : Bool) → is_at (pair_cmp key) q ≡ b → cond b (Some p) (old q) ≡ Some r → ((q ≡ key) × (r ≡ p)) ⊎ (old q ≡ Some r)
        by true t k = inl (pair_only key q t, sym (one_value k))
        by false t k = inr k

  -- the pair of one name more
  pub ready_more : (names : List Pair) (old new : Pair → Option ActivePair) (n key : Pair) (p : ActivePair) → key ≡ n → (e : Event) × IsPairOf v e p × (pair e ≡ n) → PutsIn key p old new → AreReady v names old → AreReady v (names ++ n ∷ []) new
  ready_more names old new n key p is found put r = record {
    each = λ f q k i. elim (parts names i) [
      | inl j ↦ put_kept key found.0 p found.1 named old new put f q k (r.each f q k j)
      | inr t ↦ elim t [ inl same ↦ put_there key found.0 p found.1 named old new put f q k (same ∙ sym is) | inr j ↦ absurd (none_in j) ]
    ];
    only = λ q s now. elim (put_only key found.0 p found.1 named old new put q s now) [
      | inl t ↦ (subst (λ m. IsIn m (names ++ n ∷ [])) (sym is ∙ sym t.0) (in_behind names (in_first n [])), (found.0, subst (IsPairOf v found.0) (sym t.1) found.1, named ∙ sym t.0))
      | inr k ↦ (let o = r.only q s k in ((o.0.0 ++ n ∷ [], pick_before (n ∷ []) o.0.1), o.1))
    ];
  }
    where
      named : pair found.0 ≡ key
      named = found.2 ∙ sym is

  -- one name more of which no event is active
  pub ready_same : (names : List Pair) (at : Pair → Option ActivePair) (n : Pair) → ((e : Event) → IsActive v.start (standing v) e → pair e ≢ n) → AreReady v names at → AreReady v (names ++ n ∷ []) at
  ready_same names at n idle r = record {
    each = λ f q k i. elim (parts names i) [
      | inl j ↦ r.each f q k j
      | inr t ↦ elim t [ inl same ↦ absurd (idle f k.active same) | inr j ↦ absurd (none_in j) ]
    ];
    only = λ q s now. (let o = r.only q s now in ((o.0.0 ++ n ∷ [], pick_before (n ∷ []) o.0.1), o.1));
  }

  -- no pairs are added
  pub adds_none : (waits : Pair → Bool) (at : Pair → Option ActivePair) → AddsPairs v waits [] at at
  adds_none waits at = record { kept = λ e p h was. was; added = λ e p h i. absurd (none_in i); only = λ q p now. inl now }

  -- one pair more, if it is one, whose name waits
  pub adds_more : (waits : Pair → Bool) (pairs : List (Option ActivePair)) (old mid new : Pair → Option ActivePair) (x : Option ActivePair) (p : ActivePair) (key : Pair) → x ≡ Some p → (e : Event) × IsPairOf v e p × (key ≡ pair e) → waits key ≡ true
      → PutsIn key p mid new → AddsPairs v waits pairs old mid → AddsPairs v waits (pairs ++ x ∷ []) old new
  adds_more waits pairs old mid new x p key is found wait put a = record {
    kept = λ f q k was. put_kept key found.0 p found.1 (sym found.2) mid new put f q k (a.kept f q k was);
    added = λ f q k i w. elim (parts pairs i) [
      | inl j ↦ put_kept key found.0 p found.1 (sym found.2) mid new put f q k (a.added f q k j w)
      | inr t ↦ elim t [
        | inl same ↦ put_there key found.0 p found.1 (sym found.2) mid new put f q k (of_key f q k (one_value (same ∙ is)))
        | inr j ↦ absurd (none_in j)
      ]
    ];
    only = λ q r now. elim (put_only key found.0 p found.1 (sym found.2) mid new put q r now) [
      | inl t ↦ inr (
        subst (λ y. IsIn y (pairs ++ x ∷ [])) (is ∙ ap Some (sym t.1)) (in_behind pairs (in_first x [])),
        subst (λ m. waits m ≡ true) (sym t.0) wait,
        (found.0, subst (IsPairOf v found.0) (sym t.1) found.1, sym found.2 ∙ sym t.0),
      )
      | inr m ↦ elim (a.only q r m) [
        | inl o ↦ inl o
        | inr n ↦ inr ((n.0.0 ++ x ∷ [], pick_before (x ∷ []) n.0.1), n.1, n.2)
      ]
    ];
  }
    where
      of_key : (f : Event) (q : ActivePair) → IsPairOf v f q → q ≡ p → pair f ≡ key
      of_key f q k same = ap pair (one_pair v set f found.0 q p k found.1 (ap (λ (r : ActivePair). r.lead) same)).0 ∙ sym found.2

  -- one more that is none, or whose name doesn't wait
  pub adds_same : (waits : Pair → Bool) (pairs : List (Option ActivePair)) (old mid : Pair → Option ActivePair) (x : Option ActivePair) → ((e : Event) (p : ActivePair) → IsPairOf v e p → x ≡ Some p → waits (pair e) ≡ false)
      → AddsPairs v waits pairs old mid → AddsPairs v waits (pairs ++ x ∷ []) old mid
  adds_same waits pairs old mid x idle a = record {
    kept = a.kept;
    added = λ f q k i w. elim (parts pairs i) [
      | inl j ↦ a.added f q k j w
      | inr t ↦ elim t [ inl same ↦ (let no = idle f q k (sym same) in absurd cc) | inr j ↦ absurd (none_in j) ]
    ];
    only = λ q r now. elim (a.only q r now) [
      | inl o ↦ inl o
      | inr n ↦ inr ((n.0.0 ++ x ∷ [], pick_before (x ∷ []) n.0.1), n.1, n.2)
    ];
  }

-- where nothing is ready no listed event is active
pub none_ready : (v : BenchView) (names : List Pair) (at : Pair → Option ActivePair) → IsStandingSet (set_of v) → AreReady (set_of v) names at → ((q : Pair) → at q ≡ None) → NoneListed v names
none_ready v names at set r none e a i =
    let p = pair_of (set_of v) set e a in
    let there : at (pair e) ≡ Some p.0 = r.each e p.0 p.1 i in
    let no = none (pair e) in
    absurd cc

-- the least ready event is the one whose turn it is
pub least_ready : (v : BenchView) (names : List Pair) (at : Pair → Option ActivePair) → IsStandingSet (set_of v) → AreReady (set_of v) names at → (n : Pair) (e : Event) (p : ActivePair) → IsPairOf (set_of v) e p → pair e ≡ n → at n ≡ Some p
    → ((q : Pair) (r : ActivePair) → at q ≡ Some r → is_gt (pair_cmp n q) ≡ false) → IsLeastListed v.start (standing (set_of v)) names e
least_ready v names at set r n e p h named there least = record {
  active = h.active;
  listed = subst (λ m. IsIn m names) (sym named) (r.only n p there).0;
  least = λ f a i. (
      let q = pair_of (set_of v) set f a in
      lead_not_above (pair e) (pair f) (subst (λ m. is_gt (pair_cmp m (pair f)) ≡ false) (sym named) (least (pair f) q.0 (r.each f q.0 q.1 i))));
}

module _ (v w : SetView) (set : IsStandingSet v) (set' : IsStandingSet w) (names : List Pair) (e : Event) (p : ActivePair) (h : IsPairOf v e p) (line : ℕ) (d : EventId) (a : Admits v e line d w) where
  -- the set has grown by the event
  grown : Grows v w e a.entry.born
  grown = record {
    start = a.start;
    events = subst (λ x. Alike (standing w) (x ∷ standing v)) a.event (alike-map (λ (x : Stander). x.event) (alike_back a.events));
    children = a.children;
    are = a.born;
    agents = alike_back a.agents;
  }

  -- an event that is active then has another name
  other_name : (f : Event) → IsActive w.start (standing w) f → pair f ≢ pair e
  other_name f k same = active_missing w f k a.entry (alike-in a.events (in_first a.entry v.events)) (ap pair a.event ∙ sym same)

  -- once it is fired, the other ready pairs are ready still, and those that became active are
  pub ready_after : (waits : Pair → Bool) (awoken : List (Option ActivePair)) (old mid new : Pair → Option ActivePair) → Awakes v w awoken → AreReady v names old → ((q : Pair) → mid q ≡ cond (is_at (pair_cmp (pair e)) q) None (old q))
      → TellsMissing w names waits → AddsPairs w waits awoken mid new → AreReady w names new
  ready_after waits awoken old mid new awakes r gone tells adds = record { each = each; only = only }
    where
      left : (q : Pair) → q ≢ pair e → mid q ≡ old q
      left q other = gone q ∙ ap (λ b. cond b None (old q)) (pair_apart (pair e) q other)

      each : (f : Event) (q : ActivePair) → IsPairOf w f q → IsIn (pair f) names → new (pair f) ≡ Some q
      each f q k i = elim (awakes.each f q k) [
        | inl was ↦ adds.kept f q k (left (pair f) (other_name f k.active) ∙ r.each f q was i)
        | inr j ↦ adds.added f q k j ((tells (pair f)).1 (i, active_missing w f k.active))
      ]

      was_there : (q : Pair) (s : ActivePair) (b : Bool) → is_at (pair_cmp (pair e)) q ≡ b → cond b None (old q) ≡ Some s → (q ≢ pair e) × (old q ≡ Some s)
      was_there q s true t k = absurd cc
      was_there q s false t k = (pair_fails (pair e) q t, k)

      only : (q : Pair) (s : ActivePair) → new q ≡ Some s → IsIn q names × ((f : Event) × IsPairOf w f s × (pair f ≡ q))
      only q s now = elim (adds.only q s now) [
        | inl m ↦ (
            let o = was_there q s (is_at (pair_cmp (pair e)) q) refl (sym (gone q) ∙ m) in
            let f = r.only q s o.1 in
            let apart : s.lead ≢ p.lead = λ same. o.0 (sym f.1.2 ∙ ap pair (one_pair v set f.1.0 e s p f.1.1 h same).0) in
            (f.0, (f.1.0, stays v w set set' e a.entry.born grown p h f.1.0 s f.1.1 apart, f.1.2)))
        | inr n ↦ (((tells q).0 n.1).0, n.2)
      ]
