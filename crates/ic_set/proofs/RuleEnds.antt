-- Where the links of a rule end.
use Rattle.std.proofs.Common.{◌≡◌, ◌≢◌, ◌<◌, ◌≤◌, ℕ, zero, suc, List, [], ◌∷◌, length, inl, inr, refl, sym, arith, subst}
use Rattle.std.specs.Prelude.{slice_index_or}
use Rattle.ic_name.specs.declared.kinds.Kind.{Kind}
use Rattle.ic_name.specs.declared.kinds.Kind.TheVariants.{Gamma, Delta, Eps}
use Rattle.ic_name.specs.declared.rules.Profile.{Profile}
use Rattle.ic_name.specs.declared.rules.Profile.TheVariants.{Classic, Straight}
use Rattle.ic_name.specs.declared.rules.RuleEnd.{RuleEnd}
use Rattle.ic_name.specs.declared.rules.RuleEnd.TheVariants.{Child, Lead, Other}
use Rattle.ic_path.specs.Orders.{IsIn}
use Rattle.ic_path.proofs.Picks.{none_in, in-cons_cases}
use Rattle.ic_theory.specs.Rules.{born_ends, crossing}

-- an end at one of the pair is at an auxiliary port
abbrev pub IsOuter : RuleEnd → Type 0
IsOuter (Child i j) = Unit {0}
IsOuter (Lead j) = j ≢ 0
IsOuter (Other j) = j ≢ 0

-- each end of these is
abbrev AllOuter : List (RuleEnd × RuleEnd) → Type 0
AllOuter [] = Unit {0}
AllOuter (x ∷ xs) = (IsOuter x.0 × IsOuter x.1) × AllOuter xs

one_off : ◌≢◌ {A = ℕ} 1 0
one_off e = absurd cc

two_off : ◌≢◌ {A = ℕ} 2 0
two_off e = absurd cc

-- every rule's are
outer : (v : Profile) (a b : Kind) → AllOuter (born_ends v a b)
outer v Gamma Delta = ((tt, one_off), ((tt, two_off), ((tt, one_off), ((tt, two_off), ((tt, tt), ((tt, tt), ((tt, tt), ((tt, tt), tt))))))))
outer v Delta Gamma = ((tt, one_off), ((tt, two_off), ((tt, one_off), ((tt, two_off), ((tt, tt), ((tt, tt), ((tt, tt), ((tt, tt), tt))))))))
outer v Gamma Eps = ((tt, one_off), ((tt, two_off), tt))
outer v Delta Eps = ((tt, one_off), ((tt, two_off), tt))
outer v Eps Gamma = ((tt, one_off), ((tt, two_off), tt))
outer v Eps Delta = ((tt, one_off), ((tt, two_off), tt))
outer Classic Gamma Gamma = ((one_off, two_off), ((two_off, one_off), tt))
outer Straight Gamma Gamma = ((one_off, one_off), ((two_off, two_off), tt))
outer v Delta Delta = ((one_off, one_off), ((two_off, two_off), tt))
outer v Eps Eps = tt

each_outer : (xs : List (RuleEnd × RuleEnd)) → AllOuter xs → (x : RuleEnd × RuleEnd) → IsIn x xs → IsOuter x.0 × IsOuter x.1
each_outer [] h x i = absurd (none_in i)
each_outer (y ∷ ys) h x i = elim (in-cons_cases i) [
  | inl e ↦ subst (λ (z : RuleEnd × RuleEnd). IsOuter z.0 × IsOuter z.1) (sym e) h.0
  | inr j ↦ each_outer ys h.1 x j
]

pub rule_outer : (v : Profile) (a b : Kind) (x : RuleEnd × RuleEnd) → IsIn x (born_ends v a b) → IsOuter x.0 × IsOuter x.1
rule_outer v a b = each_outer (born_ends v a b) (outer v a b)

-- the end is an auxiliary port of a child
pub record IsInner (x : RuleEnd) : Type 0 where
  pub digit : ℕ
  pub port : ℕ
  pub child : x ≡ Child digit (suc port)

-- from the fourth place on each link begins at an auxiliary port of a child
inner : (gamma delta : ℕ → RuleEnd) (i : ℕ) → 4 ≤ i → i < 8 → IsInner (slice_index_or (crossing gamma delta) i (Child 0 0, Child 0 0)).0
inner gamma delta zero low high = absurd (omega arith)
inner gamma delta (suc zero) low high = absurd (omega arith)
inner gamma delta (suc (suc zero)) low high = absurd (omega arith)
inner gamma delta (suc (suc (suc zero))) low high = absurd (omega arith)
inner gamma delta (suc (suc (suc (suc zero)))) low high = record { digit = 0; port = 0; child = refl }
inner gamma delta (suc (suc (suc (suc (suc zero))))) low high = record { digit = 0; port = 1; child = refl }
inner gamma delta (suc (suc (suc (suc (suc (suc zero)))))) low high = record { digit = 1; port = 0; child = refl }
inner gamma delta (suc (suc (suc (suc (suc (suc (suc zero))))))) low high = record { digit = 1; port = 1; child = refl }
inner gamma delta (suc (suc (suc (suc (suc (suc (suc (suc i)))))))) low high = absurd (omega arith)

pub rule_inner : (v : Profile) (a b : Kind) (i : ℕ) → 4 ≤ i → i < length (born_ends v a b) → IsInner (slice_index_or (born_ends v a b) i (Child 0 0, Child 0 0)).0
rule_inner v Gamma Delta i low high = inner Lead Other i low high
rule_inner v Delta Gamma i low high = inner Other Lead i low high
rule_inner v Gamma Eps i low high = absurd (omega arith)
rule_inner v Delta Eps i low high = absurd (omega arith)
rule_inner v Eps Gamma i low high = absurd (omega arith)
rule_inner v Eps Delta i low high = absurd (omega arith)
rule_inner Classic Gamma Gamma i low high = absurd (omega arith)
rule_inner Straight Gamma Gamma i low high = absurd (omega arith)
rule_inner v Delta Delta i low high = absurd (omega arith)
rule_inner v Eps Eps i low high = absurd (omega arith)
