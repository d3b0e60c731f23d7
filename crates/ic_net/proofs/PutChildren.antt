-- Tables into which children come, and from which they are taken again.
use Rattle.std.proofs.Common.{◌≡◌, ◌≢◌, ℕ, suc, ◌+◌, ◌≤◌, Bool, true, false, List, [], ◌∷◌, ◌++◌, refl, sym, ap, arith, ◌∙◌, length, get_or, Some, None, cond}
use Rattle.std.specs.BTreeMap.{is_at}
use Rattle.std.specs.List.Sorted.{IsStrictlySortedBy}
use Rattle.std.specs.Map.{keys_of}
use Rattle.ic_name.specs.Names.{Name, name_cmp, child_name}
use Rattle.ic_name.specs.Kinds.{arity}
use Rattle.ic_name.specs.Same.{same_name}
use Rattle.ic_name.proofs.SameFacts.{same_name_true, same_name_self}
use Rattle.ic_name.proofs.NameOrder.{name_cmp_total, name_tied}
use Rattle.ic_name.specs.declared.kinds.Kind.{Kind}
use Rattle.ic_theory.specs.Born.{named}
use Rattle.ic_theory.specs.Nets.{kind_among}
use Rattle.ic_net.specs.declared.agents.NetAgent.{NetAgent}
use Rattle.ic_net.specs.Sheets.{partner_list}
use Rattle.ic_net.specs.Tables.{agent_in, IsBlank}
use Rattle.ic_net.proofs.Lookups.{same_by_cmp}
use Rattle.ic_net.proofs.SortedTables.{same_tables}
use Rattle.ic_net.proofs.Writes.{same_turned}

-- the last of a list with one more
last_of : (ds : List ℕ) (d : ℕ) → get_or (ds ++ d ∷ []) (length ds) 0 ≡ d
last_of [] d = refl
last_of (x ∷ ds) d = last_of ds d

-- children with different digits are two
apart : (n : Name) (i j : ℕ) → i ≢ j → same_name (child_name n i) (child_name n j) ≡ false
apart n i j h = go (same_name (child_name n i) (child_name n j)) refl
  where
    go : (b : Bool) → same_name (child_name n i) (child_name n j) ≡ b → same_name (child_name n i) (child_name n j) ≡ false
    go true e =
        let s = same_name_true (child_name n i) (child_name n j) e in
        let d : i ≡ j = sym (last_of n.digits i) ∙ ap (λ (m : Name). get_or m.digits (length n.digits) 0) s ∙ last_of n.digits j in
        absurd (h d)
    go false e = e

-- no later child is the first one
none_later : (n : Name) (i k : ℕ) (kinds : List Kind) → suc i ≤ k → kind_among (child_name n i) (named (child_name n) k kinds) ≡ None
none_later n i k [] h = refl
none_later n i k (x ∷ xs) h = rw (apart n i k (λ e. absurd (omega arith))) (none_later n i (k + 1) xs (omega arith))

module _ (es mid : List (Name × NetAgent)) (lead name : Name) (digit : ℕ) (is : name ≡ child_name lead digit) (a : NetAgent) (put : (q : Name) → agent_in mid q ≡ cond (is_at (name_cmp name) q) (Some a) (agent_in es q)) where
  -- the agent that was put in
  put_here : (q : Name) → same_name (child_name lead digit) q ≡ true → agent_in mid q ≡ Some a
  put_here q e = put q ∙ rw (is, same_by_cmp (child_name lead digit) q, e) refl

  -- and the others
  put_else : (q : Name) → same_name (child_name lead digit) q ≡ false → agent_in mid q ≡ agent_in es q
  put_else q e = put q ∙ rw (is, same_by_cmp (child_name lead digit) q, e) refl

  -- later children are no agents yet
  pub still_fresh : ((d : ℕ) → digit ≤ d → agent_in es (child_name lead d) ≡ None) → (d : ℕ) → digit + 1 ≤ d → agent_in mid (child_name lead d) ≡ None
  still_fresh h d l = put_else (child_name lead d) (apart lead digit d (λ e. absurd (omega arith))) ∙ h d (omega arith)

  module _ (kind : Kind) (all rest : List Kind) (parts : all ≡ kind ∷ rest) (new : List (Name × NetAgent)) where
    -- once all children have come the other agents are as they were
    pub put_others : ((n : Name) → kind_among n (named (child_name lead) (digit + 1) rest) ≡ None → agent_in new n ≡ agent_in mid n)
        → (n : Name) → kind_among n (named (child_name lead) digit all) ≡ None → agent_in new n ≡ agent_in es n
    put_others h n none = go (same_name n (child_name lead digit)) refl (ap (λ ks. kind_among n (named (child_name lead) digit ks)) (sym parts) ∙ none)
      where
        go : (b : Bool) → same_name n (child_name lead digit) ≡ b → kind_among n (named (child_name lead) digit (kind ∷ rest)) ≡ None → agent_in new n ≡ agent_in es n
        go true e m = let m' = rw e at m in cc
        go false e m = let m' = rw e at m in h n m' ∙ put_else n (same_turned n (child_name lead digit) e)

    -- and the children have their kinds
    pub put_born : a.kind ≡ kind → length (partner_list a.partners) ≡ arity kind + 1
        → ((n : Name) → kind_among n (named (child_name lead) (digit + 1) rest) ≡ None → agent_in new n ≡ agent_in mid n)
        → ((n : Name) (k : Kind) → kind_among n (named (child_name lead) (digit + 1) rest) ≡ Some k → IsBlank k (agent_in new n))
        → (n : Name) (k : Kind) → kind_among n (named (child_name lead) digit all) ≡ Some k → IsBlank k (agent_in new n)
    put_born same whole h b n k some = go (same_name n (child_name lead digit)) refl (ap (λ ks. kind_among n (named (child_name lead) digit ks)) (sym parts) ∙ some)
      where
        go : (t : Bool) → same_name n (child_name lead digit) ≡ t → kind_among n (named (child_name lead) digit (kind ∷ rest)) ≡ Some k → IsBlank k (agent_in new n)
        go true e m =
            let m' = rw e at m in
            let s : n ≡ child_name lead digit = same_name_true n (child_name lead digit) e in
            let first : agent_in new (child_name lead digit) ≡ Some a = h (child_name lead digit) (none_later lead digit (digit + 1) rest (omega arith)) ∙ put_here (child_name lead digit) (same_name_self (child_name lead digit)) in
            let one : kind ≡ k = cc in
            rw (s, first) (same ∙ one, whole ∙ ap (λ x. arity x + 1) one)
        go false e m = let m' = rw e at m in b n k m'

  -- once it is taken out the table is as it was
  pub taken_out : (new back : List (Name × NetAgent)) → new ≡ mid → agent_in es (child_name lead digit) ≡ None
      → IsStrictlySortedBy name_cmp (keys_of es) → IsStrictlySortedBy name_cmp (keys_of back)
      → (key : Name) → key ≡ child_name lead digit → ((q : Name) → agent_in back q ≡ cond (is_at (name_cmp key) q) None (agent_in new q)) → back ≡ es
  taken_out new back e none s t key k h = same_tables name_cmp_total name_tied back es t s found
    where
      found : (q : Name) → agent_in back q ≡ agent_in es q
      found q = h q ∙ rw (k, same_by_cmp (child_name lead digit) q, e) (go (same_name (child_name lead digit) q) refl)
        where
          go : (b : Bool) → same_name (child_name lead digit) q ≡ b → cond b None (agent_in mid q) ≡ agent_in es q
          go true f = sym (ap (agent_in es) (sym (same_name_true (child_name lead digit) q f)) ∙ none)
          go false f = put_else q f
