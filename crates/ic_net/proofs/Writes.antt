-- What is found in tables after a write, and what the writes of a rewiring leave.
use Rattle.std.proofs.Common.{◌≡◌, ℕ, suc, zero, Bool, true, false, List, [], ◌∷◌, refl, sym, ap, arith, ◌∙◌, eqb, Option, Some, None, cond, ◌⊎◌, inl, inr}
use Rattle.std.proofs.Math.Bool.{and-false, and-true}
use Rattle.std.proofs.lemmas.Bool.{eqb-true, eq-eqb, ne_eqb}
use Rattle.std.specs.Prelude.{if◌then◌else◌, option_map, slice_get, slice_set, ◌&&◌}
use Rattle.std.specs.BTreeMap.{is_at}
use Rattle.std.specs.Ordering.{is_eq}
use Rattle.ic_name.specs.Names.{Name, name_cmp}
use Rattle.ic_name.specs.Same.{same_name, same_port}
use Rattle.ic_name.proofs.SameFacts.{same_name_true, same_name_self}
use Rattle.ic_name.specs.declared.ports.Port.{Port}
use Rattle.ic_name.specs.declared.ports.Port.TheVariants as port
use Rattle.ic_net.specs.declared.agents.NetAgent.{NetAgent}
use Rattle.ic_net.specs.Sheets.{partner_list}
use Rattle.ic_net.specs.Rewirings.{after_writes}
use Rattle.ic_net.specs.Tables.{agent_in, kind_in, partner_in, found_at, settle, settled}
use Rattle.ic_net.proofs.Lookups.{same_by_cmp}

-- names that differ do so the other way round, too
pub same_turned : (m n : Name) → same_name m n ≡ false → same_name n m ≡ false
same_turned m n h = go (same_name n m) refl
  where
    go : (b : Bool) → same_name n m ≡ b → same_name n m ≡ false
    go true e = let s : n ≡ m = same_name_true n m e in let t : same_name m n ≡ true = ap (λ x. same_name m x) s ∙ same_name_self m in let u : true ≡ false = sym t ∙ h in cc
    go false e = e

-- numbers one more are equal where the numbers are
next_eqb : (k i : ℕ) → eqb (suc k) (suc i) ≡ eqb k i
next_eqb k i = go (eqb k i) refl
  where
    go : (b : Bool) → eqb k i ≡ b → eqb (suc k) (suc i) ≡ eqb k i
    go true e = eq-eqb (suc k) (suc i) (ap suc (eqb-true k i e)) ∙ sym e
    go false e = ne_eqb (suc k) (suc i) (λ s. let t : k ≡ i = omega arith in let u : true ≡ false = sym (eq-eqb k i t) ∙ e in cc) ∙ sym e

-- a slot after a write to one
slot_set : (xs : List Port) (i k : ℕ) (p : Port) → slice_get (slice_set xs i p) k ≡ (if eqb k i then settle (slice_get xs k) (Some p) else slice_get xs k)
slot_set [] i k p = go (eqb k i)
  where
    go : (b : Bool) → None ≡ (if b then settle None (Some p) else None)
    go true = refl
    go false = refl
slot_set (x ∷ xs) zero zero p = refl
slot_set (x ∷ xs) zero (suc k) p = rw (ne_eqb (suc k) 0 (λ e. absurd (omega arith))) refl
slot_set (x ∷ xs) (suc i) zero p = rw (ne_eqb 0 (suc i) (λ e. absurd (omega arith))) refl
slot_set (x ∷ xs) (suc i) (suc k) p = rw (next_eqb k i) (slot_set xs i k p)

module _ (es : List (Name × NetAgent)) (frees : List (ℕ × Port)) (n : Name) (i : ℕ) (p : Port) where
  -- a write to a port of an agent that the table has
  pub agent_write : (new : List (Name × NetAgent)) (a b : NetAgent) → agent_in es n ≡ Some a → ((q : Name) → agent_in new q ≡ cond (is_at (name_cmp n) q) (Some b) (agent_in es q))
      → partner_list b.partners ≡ slice_set (partner_list a.partners) i p
      → (x : Port) → found_at new frees x ≡ (if same_port x (port.Of n i) then settle (found_at es frees x) (Some p) else found_at es frees x)
  agent_write new a b there at_all written (port.Name j) = refl
  agent_write new a b there at_all written (port.Of q k) = ap (partner_in k) (at_all q) ∙ go (same_name n q) (same_by_cmp n q) refl
    where
      go : (t : Bool) → is_eq (name_cmp n q) ≡ t → same_name n q ≡ t
          → partner_in k (cond (is_eq (name_cmp n q)) (Some b) (agent_in es q)) ≡ (if eqb k i && same_name q n then settle (partner_in k (agent_in es q)) (Some p) else partner_in k (agent_in es q))
      go true h e =
          let s : n ≡ q = same_name_true n q e in
          let t : same_name q n ≡ true = ap (λ x. same_name x n) (sym s) ∙ same_name_self n in
          let here : agent_in es q ≡ Some a = ap (agent_in es) (sym s) ∙ there in
          rw (h, t, here, written, and-true (eqb k i)) (slot_set (partner_list a.partners) i k p)
      go false h e = rw (h, same_turned n q e, and-false (eqb k i)) refl

  -- which keeps its kind
  pub agent_write_kind : (new : List (Name × NetAgent)) (a b : NetAgent) → agent_in es n ≡ Some a → ((q : Name) → agent_in new q ≡ cond (is_at (name_cmp n) q) (Some b) (agent_in es q))
      → b.kind ≡ a.kind → (q : Name) → kind_in new q ≡ kind_in es q
  agent_write_kind new a b there at_all same q = ap (option_map (λ (x : NetAgent). x.kind)) (at_all q) ∙ go (same_name n q) (same_by_cmp n q) refl
    where
      go : (t : Bool) → is_eq (name_cmp n q) ≡ t → same_name n q ≡ t → option_map (λ (x : NetAgent). x.kind) (cond (is_eq (name_cmp n q)) (Some b) (agent_in es q)) ≡ kind_in es q
      go true h e =
          let here : agent_in es q ≡ Some a = ap (agent_in es) (sym (same_name_true n q e)) ∙ there in
          rw (h, here, same) refl
      go false h e = rw h refl

  -- a write to a port of another agent is none
  pub agent_no_write : agent_in es n ≡ None → (x : Port) → found_at es frees x ≡ (if same_port x (port.Of n i) then settle (found_at es frees x) (Some p) else found_at es frees x)
  agent_no_write none (port.Name j) = refl
  agent_no_write none (port.Of q k) = go (same_name q n) refl
    where
      at_none : (t : Bool) → None ≡ (if t then settle None (Some p) else None)
      at_none true = refl
      at_none false = refl

      go : (t : Bool) → same_name q n ≡ t → partner_in k (agent_in es q) ≡ (if eqb k i && same_name q n then settle (partner_in k (agent_in es q)) (Some p) else partner_in k (agent_in es q))
      go true e = let here : agent_in es q ≡ None = ap (agent_in es) (same_name_true q n e) ∙ none in rw here (at_none (eqb k i && same_name q n))
      go false e = rw (e, and-false (eqb k i)) refl

-- a port that the tables don't have stays so
pub settled_none : (x : Port) (ws : List (Port × Option Port)) → settled x None ws ≡ None
settled_none x [] = refl
settled_none x (w ∷ ws) = go (same_port x w.0) (settled_none x ws)
  where
    go : (b : Bool) → settled x None ws ≡ None → settled x (if b then settle None w.1 else None) ws ≡ None
    go true h = h
    go false h = h

-- a port that the tables have gets the partner that it has after the writes, where it has one
pub settled_some : (x y q : Port) (r : Option Port) (ws : List (Port × Option Port)) → (r ≡ None) ⊎ (r ≡ Some y) → after_writes x r ws ≡ Some q → settled x (Some y) ws ≡ Some q
settled_some x y q r [] (inl e) h = let u : None ≡ Some q = sym e ∙ h in cc
settled_some x y q r [] (inr e) h = sym e ∙ h
settled_some x y q r (w ∷ ws) k h = go (same_port x w.0) (λ z o. settled_some x z q o ws) h
  where
    at : ((z : Port) (o : Option Port) → (o ≡ None) ⊎ (o ≡ Some z) → after_writes x o ws ≡ Some q → settled x (Some z) ws ≡ Some q) → (o : Option Port) → after_writes x o ws ≡ Some q → settled x (settle (Some y) o) ws ≡ Some q
    at ih None h = ih y None (inl refl) h
    at ih (Some z) h = ih z (Some z) (inr refl) h

    go : (b : Bool) → ((z : Port) (o : Option Port) → (o ≡ None) ⊎ (o ≡ Some z) → after_writes x o ws ≡ Some q → settled x (Some z) ws ≡ Some q) → after_writes x (if b then w.1 else r) ws ≡ Some q → settled x (if b then settle (Some y) w.1 else Some y) ws ≡ Some q
    go true ih h = at ih w.1 h
    go false ih h = ih y r k h
