-- What is found in a net's tables is what the lists show.
use Rattle.std.proofs.Common.{◌≡◌, ℕ, Bool, true, false, List, [], ◌∷◌, map, refl, sym, ap, ◌∙◌, eqb, Some, eq-eqb}
use Rattle.std.specs.Map.{lookup}
use Rattle.std.proofs.lemmas.Bool.{eqb-true}
use Rattle.std.proofs.lemmas.Cmp.{ranked, tied_itself, nat_cmp_total}
use Rattle.std.specs.Prelude.{if◌then◌else◌, option_map}
use Rattle.std.specs.Ordering.{nat_cmp, is_eq}
use Rattle.std.specs.BTreeMap.{is_at}
use Rattle.std.specs.declared.cmp.Ordering.{Ordering}
use Rattle.std.specs.declared.cmp.Ordering.TheVariants.{Less, Equal, Greater}
use Rattle.ic_name.specs.Names.{Name, name_cmp}
use Rattle.ic_name.specs.Same.{same_name}
use Rattle.ic_name.proofs.SameFacts.{same_name_true, same_name_self}
use Rattle.ic_name.proofs.NameOrder.{name_tied, name_tied_itself}
use Rattle.ic_name.specs.declared.ports.Port.{Port}
use Rattle.ic_theory.specs.Listed.{NetAgent as Listed, agent_among, partner_at, free_among}
use Rattle.ic_net.specs.declared.agents.NetAgent.{NetAgent}
use Rattle.ic_net.specs.Sheets.{listed_agent}
use Rattle.ic_net.specs.Tables.{partner_in}

-- the order says equal where the test says so
pub same_by_cmp : (m n : Name) → is_eq (name_cmp m n) ≡ same_name m n
same_by_cmp m n = go (same_name m n) refl
  where
    tied : (r : Ordering) → name_cmp m n ≡ r → is_eq r ≡ true → name_cmp m n ≡ Equal
    tied Equal e h = e
    tied Less e h = cc
    tied Greater e h = cc

    test : (b : Bool) → is_eq (name_cmp m n) ≡ b → same_name m n ≡ false → is_eq (name_cmp m n) ≡ false
    test false h e = h
    test true h e =
        let s : m ≡ n = name_tied m n (tied (name_cmp m n) refl h) in
        let t : same_name m n ≡ true = ap (λ x. same_name m x) (sym s) ∙ same_name_self m in
        let u : true ≡ false = sym t ∙ e in
        cc

    go : (b : Bool) → same_name m n ≡ b → is_eq (name_cmp m n) ≡ same_name m n
    go true e = let s : m ≡ n = same_name_true m n e in ap is_eq (ap (λ x. name_cmp m x) (sym s) ∙ name_tied_itself m) ∙ sym e
    go false e = test (is_eq (name_cmp m n)) refl e ∙ sym e

pub found_kind : (n : Name) (es : List (Name × NetAgent)) → option_map (λ (a : Listed). a.kind) (agent_among n (map listed_agent es)) ≡ option_map (λ (a : NetAgent). a.kind) (lookup (is_at (name_cmp n)) es)
found_kind n [] = refl
found_kind n (e ∷ es) = go (same_name n e.0) (same_by_cmp n e.0) (found_kind n es)
  where
    go : (b : Bool) → is_eq (name_cmp n e.0) ≡ b → option_map (λ (a : Listed). a.kind) (agent_among n (map listed_agent es)) ≡ option_map (λ (a : NetAgent). a.kind) (lookup (is_at (name_cmp n)) es)
        → option_map (λ (a : Listed). a.kind) (if b then Some (listed_agent e) else agent_among n (map listed_agent es)) ≡ option_map (λ (a : NetAgent). a.kind) (lookup (is_at (name_cmp n)) (e ∷ es))
    go true h ih = rw h refl
    go false h ih = rw h ih

pub found_partner : (n : Name) (i : ℕ) (es : List (Name × NetAgent)) → partner_at i (agent_among n (map listed_agent es)) ≡ partner_in i (lookup (is_at (name_cmp n)) es)
found_partner n i [] = refl
found_partner n i (e ∷ es) = go (same_name n e.0) (same_by_cmp n e.0) (found_partner n i es)
  where
    go : (b : Bool) → is_eq (name_cmp n e.0) ≡ b → partner_at i (agent_among n (map listed_agent es)) ≡ partner_in i (lookup (is_at (name_cmp n)) es)
        → partner_at i (if b then Some (listed_agent e) else agent_among n (map listed_agent es)) ≡ partner_in i (lookup (is_at (name_cmp n)) (e ∷ es))
    go true h ih = rw h refl
    go false h ih = rw h ih

-- the same of numbers
number_by_cmp : (i j : ℕ) → is_eq (nat_cmp i j) ≡ eqb i j
number_by_cmp i j = go (eqb i j) refl
  where
    tied : (r : Ordering) → nat_cmp i j ≡ r → is_eq r ≡ true → i ≡ j
    tied Equal e h = ranked i j Equal (sym e)
    tied Less e h = cc
    tied Greater e h = cc

    test : (b : Bool) → is_eq (nat_cmp i j) ≡ b → eqb i j ≡ false → is_eq (nat_cmp i j) ≡ false
    test false h e = h
    test true h e = let s : i ≡ j = tied (nat_cmp i j) refl h in let t : eqb i j ≡ true = eq-eqb i j s in let u : true ≡ false = sym t ∙ e in cc

    go : (b : Bool) → eqb i j ≡ b → is_eq (nat_cmp i j) ≡ eqb i j
    go true e = let s : i ≡ j = eqb-true i j e in ap is_eq (ap (λ x. nat_cmp i x) (sym s) ∙ tied_itself nat_cmp_total i) ∙ sym e
    go false e = test (is_eq (nat_cmp i j)) refl e ∙ sym e

pub found_free : (j : ℕ) (es : List (ℕ × Port)) → free_among j es ≡ lookup (is_at (nat_cmp j)) es
found_free j [] = refl
found_free j (e ∷ es) = go (eqb j e.0) (number_by_cmp j e.0) (found_free j es)
  where
    go : (b : Bool) → is_eq (nat_cmp j e.0) ≡ b → free_among j es ≡ lookup (is_at (nat_cmp j)) es → (if b then Some e.1 else free_among j es) ≡ lookup (is_at (nat_cmp j)) (e ∷ es)
    go true h ih = rw h refl
    go false h ih = rw h ih
