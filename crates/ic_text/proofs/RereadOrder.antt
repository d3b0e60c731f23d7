-- The agents of a listed net and their lines have one order.
use Rattle.std.proofs.Common.{◌≡◌, ℕ, ◌+◌, ◌<◌, Bool, true, false, List, [], ◌∷◌, map, refl, sym, ap, ◌∙◌, arith, Some, eqb, subst}
use Rattle.std.specs.Prelude.{cond, if◌then◌else◌, not, ◌&&◌}
use Rattle.std.specs.Cmp.{nat_cmp_is}
use Rattle.std.specs.declared.cmp.Ordering.{Ordering}
use Rattle.std.specs.declared.cmp.Ordering.TheVariants.{Less, Equal, Greater}
use Rattle.std.specs.Ordering.{nat_cmp, ordering_then, ordering_reverse, MatchOrdering}
use Rattle.std.specs.List.Sorted.{IsStrictlySortedBy}
use Rattle.std.proofs.lemmas.Cmp.{ranked}
use Rattle.ic_name.specs.Names.{Name, name_cmp, start_name}
use Rattle.ic_name.specs.Same.{same_name, same_port}
use Rattle.ic_name.specs.declared.ports.Port.{Port}
use Rattle.ic_name.specs.declared.ports.Port.TheVariants.{Of}
use Rattle.ic_name.specs.declared.ports.Port.TheVariants as port
use Rattle.ic_name.proofs.NameOrder.{name_cmp_total, name_same_is_equal}
use Rattle.ic_name.proofs.SameFacts.{same_name_true, same_name_self}
use Rattle.ic_theory.specs.Listed.{NetAgent, ListedNet, agent_among, port_cmp}
use Rattle.ic_theory.specs.Starts.{Start}
use Rattle.ic_text.specs.Reread.{line_of, reread_port}
use Rattle.ic_text.proofs.Owners.{found_name, later_less, later_sorted}
use Rattle.ic_text.proofs.AgentLines.{line_one}
use Rattle.ic_text.proofs.NumberedAgents.{starts_cmp, starts_apart}

-- one more on both sides
one_more : (x y : ℕ) → nat_cmp (1 + x) (1 + y) ≡ nat_cmp x y
one_more x y = sym (nat_cmp_is (1 + x) (1 + y) (nat_cmp x y) (go (nat_cmp x y) (ranked x y (nat_cmp x y) refl)))
  where
    go : (o : Ordering) → MatchOrdering o (x < y) (x ≡ y) (y < x) → MatchOrdering o (1 + x < 1 + y) (1 + x ≡ 1 + y) (1 + y < 1 + x)
    go Less h = omega arith
    go Equal h = omega arith
    go Greater h = omega arith

-- lines are in order of names
line_order : (as' : List NetAgent) (m n : Name) (a b : NetAgent) → IsStrictlySortedBy name_cmp (map (λ a. a.name) as') → agent_among m as' ≡ Some a → agent_among n as' ≡ Some b → nat_cmp (line_of as' m) (line_of as' n) ≡ name_cmp m n
line_order [] m n a b s f g = cc
line_order (c ∷ cs) m n a b s f g = go (same_name m c.name) (same_name n c.name) refl refl f g (λ f' g'. line_order cs m n a b (later_sorted c cs s) f' g')
  where
    behind : (k : Name) (d : NetAgent) → agent_among k cs ≡ Some d → name_cmp c.name k ≡ Less
    behind k d h = let r = found_name k cs h in subst (λ z. name_cmp c.name z ≡ Less) r.0 (later_less c d cs s r.1)

    go : (t u : Bool) → same_name m c.name ≡ t → same_name n c.name ≡ u → (if t then Some c else agent_among m cs) ≡ Some a → (if u then Some c else agent_among n cs) ≡ Some b
        → (agent_among m cs ≡ Some a → agent_among n cs ≡ Some b → nat_cmp (line_of cs m) (line_of cs n) ≡ name_cmp m n)
        → nat_cmp (cond (not t) (1 + line_of cs m) 0) (cond (not u) (1 + line_of cs n) 0) ≡ name_cmp m n
    go true true d e f g ih = sym (name_same_is_equal m n (same_name_true m c.name d ∙ sym (same_name_true n c.name e)))
    go true false d e f g ih = sym (nat_cmp_is 0 (1 + line_of cs n) Less (omega arith)) ∙ sym (ap (λ z. name_cmp z n) (same_name_true m c.name d) ∙ behind n b g)
    go false true d e f g ih =
        let less : name_cmp n m ≡ Less = ap (λ z. name_cmp z m) (same_name_true n c.name e) ∙ behind m a f in
        sym (nat_cmp_is (1 + line_of cs m) 0 Greater (omega arith)) ∙ sym (name_cmp_total.antisymm m n ∙ ap ordering_reverse less)
    go false false d e f g ih = one_more (line_of cs m) (line_of cs n) ∙ ih f g

-- a port of an agent that is there
abbrev pub IsFound : List NetAgent → Port → Type 0
IsFound as' (Of n i) = (a : NetAgent) × (agent_among n as' ≡ Some a)
IsFound as' (port.Name j) = ⊥

module _ (names : List (List ℕ)) (l : ListedNet) (s : Start) (ordered : IsStrictlySortedBy name_cmp (map (λ a. a.name) l.agents)) where
  -- ports of agents are read in their order
  pub cmp_kept : (n m : Name) (i j : ℕ) → IsFound l.agents (Of n i) → IsFound l.agents (Of m j) → port_cmp (reread_port names l s (Of n i)) (reread_port names l s (Of m j)) ≡ port_cmp (Of n i) (Of m j)
  cmp_kept n m i j f g = ap (λ o. ordering_then o (nat_cmp i j)) (starts_cmp (line_of l.agents n) (line_of l.agents m) ∙ line_order l.agents n m f.0 g.0 ordered f.1 g.1)

  -- one agent has one line, and others have others
  same_line : (n m : Name) (a b : NetAgent) → agent_among n l.agents ≡ Some a → agent_among m l.agents ≡ Some b → same_name (start_name (line_of l.agents n)) (start_name (line_of l.agents m)) ≡ same_name n m
  same_line n m a b f g = go (same_name n m) refl
    where
      go : (t : Bool) → same_name n m ≡ t → same_name (start_name (line_of l.agents n)) (start_name (line_of l.agents m)) ≡ t
      go true e = ap (λ z. same_name (start_name (line_of l.agents n)) (start_name (line_of l.agents z))) (sym (same_name_true n m e)) ∙ same_name_self (start_name (line_of l.agents n))
      go false e = starts_apart (line_of l.agents n) (line_of l.agents m) (λ h. apart (line_one l.agents n m a b f g h))
        where
          apart : n ≡ m → ⊥
          apart h = let k : true ≡ false = sym (same_name_self n) ∙ ap (same_name n) h ∙ e in cc

  -- so ports of agents stay one, or apart
  pub same_kept : (p q : Port) → IsFound l.agents p → IsFound l.agents q → same_port (reread_port names l s p) (reread_port names l s q) ≡ same_port p q
  same_kept (Of n i) (Of m j) f g = ap (λ t. eqb i j && t) (same_line n m f.0 g.0 f.1 g.1)
  same_kept (port.Name i) q f g = absurd f
  same_kept (Of n i) (port.Name j) f g = absurd g
