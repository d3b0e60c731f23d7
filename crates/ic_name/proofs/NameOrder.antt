-- The order of names is total, and only a name itself is equal to it.
use Rattle.std.proofs.Common.{◌≡◌, ℕ, List, refl, sym, ◌∙◌, ap, ◌≢◌, [], ◌∷◌, rules}
use Rattle.std.specs.declared.cmp.Ordering.TheVariants.{Less, Equal, Greater}
use Rattle.std.specs.Ordering.{nat_cmp, ordering_reverse}
use Rattle.std.specs.Cmp.{IsTotalOrder}
use Rattle.std.specs.Cmp.Rules.{comparing}
use Rattle.std.specs.Cmp.Lexicographic.{slice_cmp}
use Rattle.std.proofs.lemmas.Cmp.{ranked, tied_itself}
use Rattle.ic_name.specs.Names.{Name, name_cmp}
use Rattle.ic_name.proofs.Orderings.{then_tied}

pub name_cmp_total : IsTotalOrder name_cmp
name_cmp_total = search (comparing, rules)

nat_tied : (x y : ℕ) → nat_cmp x y ≡ Equal → x ≡ y
nat_tied x y h = ranked x y Equal (sym h)

digits_tied : (xs ys : List ℕ) → slice_cmp nat_cmp xs ys ≡ Equal → xs ≡ ys
digits_tied [] [] h = refl
digits_tied [] (y ∷ ys) h = cc
digits_tied (x ∷ xs) [] h = cc
digits_tied (x ∷ xs) (y ∷ ys) h =
    let parts = then_tied (nat_cmp x y) (slice_cmp nat_cmp xs ys) h in
    let first = nat_tied x y parts.0 in
    let rest = digits_tied xs ys parts.1 in
    λ i. first i ∷ rest i

pub name_tied : (a b : Name) → name_cmp a b ≡ Equal → a ≡ b
name_tied a b h =
    let one = then_tied _ _ h in
    let two = then_tied _ _ one.1 in
    let s : a.start ≡ b.start = nat_tied _ _ two.0 in
    let d : a.digits ≡ b.digits = digits_tied _ _ two.1 in
    λ i. record { start = s i; digits = d i }

pub name_tied_itself : (a : Name) → name_cmp a a ≡ Equal
name_tied_itself a = tied_itself name_cmp_total a

pub name_flip : (a b : Name) → name_cmp a b ≡ Greater → name_cmp b a ≡ Less
name_flip a b h = name_cmp_total.antisymm b a ∙ ap ordering_reverse h

pub name_less_apart : (a b : Name) → name_cmp a b ≡ Less → a ≢ b
name_less_apart a b h e =
    let k : name_cmp a b ≡ name_cmp a a = ap (λ c. name_cmp a c) (sym e) in
    let m = name_tied_itself a in
    let j : Less ≡ Equal = sym h ∙ k ∙ m in
    cc

pub name_greater_apart : (a b : Name) → name_cmp a b ≡ Greater → a ≢ b
name_greater_apart a b h e = name_less_apart b a (name_flip a b h) (sym e)

pub name_same_is_equal : (a b : Name) → a ≡ b → name_cmp a b ≡ Equal
name_same_is_equal a b e = ap (λ c. name_cmp a c) (sym e) ∙ name_tied_itself a
