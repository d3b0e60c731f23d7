-- The children that a rule's links lead to are those that it makes.
use Rattle.std.proofs.Common.{◌≡◌, ◌≤◌, ℕ, lit≤, Bool, true, List, [], ◌∷◌, length, inl, inr, refl, sym, subst, ltb}
use Rattle.std.specs.Prelude.{◌&&◌}
use Rattle.std.proofs.lemmas.Bool.{and_parts, ltb-true}
use Rattle.ic_name.specs.declared.kinds.Kind.{Kind}
use Rattle.ic_name.specs.declared.kinds.Kind.TheVariants.{Gamma, Delta, Eps}
use Rattle.ic_name.specs.declared.ids.AgentId.{AgentId}
use Rattle.ic_name.specs.declared.rules.Profile.{Profile}
use Rattle.ic_name.specs.declared.rules.Profile.TheVariants.{Classic, Straight}
use Rattle.ic_name.specs.declared.rules.RuleEnd.{RuleEnd}
use Rattle.ic_name.specs.declared.rules.RuleEnd.TheVariants.{Child, Lead, Other}
use Rattle.ic_path.proofs.Picks.{none_in, in-cons_cases}
use Rattle.ic_link.specs.Made.{HasDigit, HaveDigits}
use Rattle.ic_theory.specs.Rules.{born_kinds, born_ends}

-- whether the end is of the pair, or of one of so many children
abbrev is_end : ℕ → RuleEnd → Bool
is_end n (Child i j) = ltb i n
is_end n (Lead j) = true
is_end n (Other j) = true

-- the same of each end
abbrev are_ends : ℕ → List (RuleEnd × RuleEnd) → Bool
are_ends n [] = true
are_ends n (x ∷ xs) = (is_end n x.0 && is_end n x.1) && are_ends n xs

-- the test says what it is to say
digit_from : (born : List AgentId) (x : RuleEnd) → is_end (length born) x ≡ true → HasDigit born x
digit_from born (Child i j) h = ltb-true i (length born) h
digit_from born (Lead j) h = tt
digit_from born (Other j) h = tt

digits_from : (born : List AgentId) (xs : List (RuleEnd × RuleEnd)) → are_ends (length born) xs ≡ true → HaveDigits born xs
digits_from born [] h y i = absurd (none_in i)
digits_from born (x ∷ xs) h y i =
    let parts = and_parts (is_end (length born) x.0 && is_end (length born) x.1) (are_ends (length born) xs) h in
    let ends = and_parts (is_end (length born) x.0) (is_end (length born) x.1) parts.0 in
    elim (in-cons_cases i) [
      | inl e ↦ subst (λ (z : RuleEnd × RuleEnd). HasDigit born z.0 × HasDigit born z.1) (sym e) (digit_from born x.0 ends.0, digit_from born x.1 ends.1)
      | inr j ↦ digits_from born xs parts.1 y j
    ]

-- every rule passes
rule_passes : (v : Profile) (a b : Kind) → are_ends (length (born_kinds a b)) (born_ends v a b) ≡ true
rule_passes v Gamma Delta = refl
rule_passes v Delta Gamma = refl
rule_passes v Gamma Eps = refl
rule_passes v Delta Eps = refl
rule_passes v Eps Gamma = refl
rule_passes v Eps Delta = refl
rule_passes Classic Gamma Gamma = refl
rule_passes Straight Gamma Gamma = refl
rule_passes v Delta Delta = refl
rule_passes v Eps Eps = refl

-- a rule has eight links at most
pub rule_few : (v : Profile) (a b : Kind) → length (born_ends v a b) ≤ 8
rule_few v Gamma Delta = lit≤ tt
rule_few v Delta Gamma = lit≤ tt
rule_few v Gamma Eps = lit≤ tt
rule_few v Delta Eps = lit≤ tt
rule_few v Eps Gamma = lit≤ tt
rule_few v Eps Delta = lit≤ tt
rule_few Classic Gamma Gamma = lit≤ tt
rule_few Straight Gamma Gamma = lit≤ tt
rule_few v Delta Delta = lit≤ tt
rule_few v Eps Eps = lit≤ tt

-- a rule makes four children at most
pub rule_four : (a b : Kind) → length (born_kinds a b) ≤ 4
rule_four Gamma Delta = lit≤ tt
rule_four Delta Gamma = lit≤ tt
rule_four Gamma Eps = lit≤ tt
rule_four Delta Eps = lit≤ tt
rule_four Eps Gamma = lit≤ tt
rule_four Eps Delta = lit≤ tt
rule_four Gamma Gamma = lit≤ tt
rule_four Delta Delta = lit≤ tt
rule_four Eps Eps = lit≤ tt

-- where each child has an id, so has each that the rule names
pub rule_digits : (born : List AgentId) (v : Profile) (a b : Kind) → length born ≡ length (born_kinds a b) → HaveDigits born (born_ends v a b)
rule_digits born v a b e = digits_from born (born_ends v a b) (subst (λ n. are_ends n (born_ends v a b) ≡ true) (sym e) (rule_passes v a b))
