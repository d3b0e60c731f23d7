-- The pairs of free names that are partners: half of them have the lesser number first.
use Rattle.std.proofs.Common.{◌≡◌, ◌≢◌, ℕ, ◌+◌, Bool, List, [], ◌∷◌, length, map, refl, sym, ap, subst, ◌∙◌, arith, Option, Some, None}
use Rattle.std.specs.Prelude.{cond}
use Rattle.std.specs.declared.cmp.Ordering.{Ordering}
use Rattle.std.specs.declared.cmp.Ordering.TheVariants.{Less, Equal, Greater}
use Rattle.std.specs.Ordering.{nat_cmp, is_lt, ordering_reverse}
use Rattle.std.specs.Cmp.{nat_cmp_total}
use Rattle.std.specs.List.{filter_map, cons_option}
use Rattle.std.specs.List.Sorted.{IsStrictlySortedBy}
use Rattle.std.proofs.lemmas.Cmp.{ranked}
use Rattle.std.proofs.lemmas.Map.Keys.{sorted_tail}
use Rattle.ic_name.specs.declared.ports.Port.{Port}
use Rattle.ic_name.specs.declared.ports.Port.TheVariants.{Of}
use Rattle.ic_name.specs.declared.ports.Port.TheVariants as port
use Rattle.ic_theory.specs.Orders.{Alike, IsIn, IsOnce}
use Rattle.ic_theory.proofs.Picks.{pick-map}
use Rattle.ic_theory.proofs.EachOnce.{once_cons, once_alike}
use Rattle.ic_theory.specs.Listed.{ListedNet, IsListing, shown}
use Rattle.ic_text.specs.Printable.{IsPrintable}
use Rattle.ic_text.proofs.Elements.{each_in, in-filter_map, filter_map_cases, map_cases}
use Rattle.ic_text.proofs.FreeNames.{free_in, later_apart, found_free}
use Rattle.ic_text.proofs.Tallies.{tally, tally_map, alike_tally, tally_either}
use Rattle.ic_theory.proofs.OnceLists.{once_map}

-- a free name whose partner is one, with the partner
abbrev pub name_pair : ℕ × Port → Option (ℕ × ℕ)
name_pair (j, port.Name k) = Some (j, k)
name_pair (j, Of n i) = None

-- all of these
abbrev pub name_pairs : List (ℕ × Port) → List (ℕ × ℕ)
name_pairs fs = filter_map name_pair fs

-- the pair says which free name it is
pair_is : (x : ℕ × Port) (z : ℕ × ℕ) → name_pair x ≡ Some z → x ≡ (z.0, port.Name z.1)
pair_is (j, port.Name k) z e = let s : ◌≡◌ {A = ℕ × ℕ} (j, k) z = cc in ap (λ (y : ℕ × ℕ). (y.0, port.Name y.1)) s
pair_is (j, Of n i) z e = cc

-- each is there once
pub pairs_once : (fs : List (ℕ × Port)) → IsStrictlySortedBy nat_cmp (map (λ (x : ℕ × Port). x.0) fs) → IsOnce (name_pairs fs)
pairs_once [] s = λ z rest k i. elim k [ ]
pairs_once (x ∷ xs) s = go (name_pair x) refl (pairs_once xs (sorted_tail nat_cmp x.0 (map (λ (y : ℕ × Port). y.0) xs) s))
  where
    go : (o : Option (ℕ × ℕ)) → name_pair x ≡ o → IsOnce (name_pairs xs) → IsOnce (cons_option o (name_pairs xs))
    go None e ih = ih
    go (Some z) e ih = once_cons fresh ih
      where
        fresh : IsIn z (name_pairs xs) → ⊥
        fresh i =
            let r = filter_map_cases name_pair xs i in
            later_apart x r.0 xs s r.1 (ap (λ (y : ℕ × Port). y.0) (pair_is r.0 z r.2) ∙ sym (ap (λ (y : ℕ × Port). y.0) (pair_is x z e)))

-- the two are partners
pub pair_partners : (l : ListedNet) → IsListing l → (z : ℕ × ℕ) → IsIn z (name_pairs l.frees) → (shown l).partner (port.Name z.0) ≡ Some (port.Name z.1)
pair_partners l h z i =
    let r = filter_map_cases name_pair l.frees i in
    let is = pair_is r.0 z r.2 in
    ap (λ (y : ℕ × Port). (shown l).partner (port.Name y.0)) (sym is) ∙ found_free r.0 h.numbered r.1.1 ∙ ap (λ (y : ℕ × Port). Some y.1) is

-- partners are such a pair
pub pair_there : (l : ListedNet) (j k : ℕ) → (shown l).partner (port.Name j) ≡ Some (port.Name k) → IsIn (j, k) (name_pairs l.frees)
pair_there l j k e = in-filter_map name_pair (free_in j l.frees e).1 refl

-- the pair the other way round
abbrev swap : ℕ × ℕ → ℕ × ℕ
swap z = (z.1, z.0)

-- the lesser number stands first
abbrev pub is_rising : ℕ × ℕ → Bool
is_rising z = is_lt (nat_cmp z.0 z.1)

-- of two numbers one is the lesser
one_rises : (a b : ℕ) → a ≢ b → cond (is_lt (nat_cmp a b)) 1 0 + cond (is_lt (nat_cmp b a)) 1 0 ≡ 1
one_rises a b apart = ap (λ o. cond (is_lt (nat_cmp a b)) 1 0 + cond (is_lt o) 1 0) (nat_cmp_total.antisymm b a) ∙ go (nat_cmp a b) refl
  where
    go : (o : Ordering) → nat_cmp a b ≡ o → cond (is_lt o) 1 0 + cond (is_lt (ordering_reverse o)) 1 0 ≡ 1
    go Less e = omega arith
    go Equal e = absurd (apart (ranked a b Equal (sym e)))
    go Greater e = omega arith

module _ (names : List (List ℕ)) (l : ListedNet) (ok : IsPrintable names l) where
  -- each pair is there the other way round, too
  swapped : Alike (map swap (name_pairs l.frees)) (name_pairs l.frees)
  swapped = once_alike _ _ (once_map swap (name_pairs l.frees) (λ x y i j e. ap swap e) once) once from to
    where
      once : IsOnce (name_pairs l.frees)
      once = pairs_once l.frees ok.listing.numbered

      back : (z : ℕ × ℕ) → IsIn z (name_pairs l.frees) → IsIn (swap z) (name_pairs l.frees)
      back z i = pair_there l z.1 z.0 (ok.wired (port.Name z.0) (port.Name z.1) (pair_partners l ok.listing z i)).1

      from : (x : ℕ × ℕ) → IsIn x (map swap (name_pairs l.frees)) → IsIn x (name_pairs l.frees)
      from x i = let r = map_cases swap (name_pairs l.frees) i in subst (λ z. IsIn z (name_pairs l.frees)) (sym r.2) (back r.0 r.1)

      to : (x : ℕ × ℕ) → IsIn x (name_pairs l.frees) → IsIn x (map swap (name_pairs l.frees))
      to x i = (_, pick-map swap (back x i).1)

  -- so half of them rise
  pub half_rise : tally is_rising (name_pairs l.frees) + tally is_rising (name_pairs l.frees) ≡ length (name_pairs l.frees)
  half_rise =
      let fs : List (ℕ × ℕ) = name_pairs l.frees in
      let others : tally is_rising (map swap fs) ≡ tally (λ z. is_rising (swap z)) fs = tally_map (λ z. is_rising (swap z)) is_rising swap fs (each_in _ fs (λ z i. refl)) in
      let same : tally is_rising (map swap fs) ≡ tally is_rising fs = alike_tally is_rising swapped in
      let all = tally_either is_rising (λ z. is_rising (swap z)) fs (each_in _ fs (λ z i. one_rises z.0 z.1 (λ e. (ok.wired (port.Name z.0) (port.Name z.1) (pair_partners l ok.listing z i)).0 (ap port.Name (sym e))))) in
      omega (arith, others, same, all)
