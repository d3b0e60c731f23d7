-- The rule table: what two agents that meet become (Lafont 1997). Which ports an annihilation joins is the profile's.
use Rattle.std.specs.Prelude.{ℕ, List, [], ◌∷◌}
use Rattle.ic_name.specs.declared.kinds.Kind.{Kind}
use Rattle.ic_name.specs.declared.kinds.Kind.TheVariants.{Gamma, Delta, Eps}
use Rattle.ic_name.specs.declared.rules.Profile.{Profile}
use Rattle.ic_name.specs.declared.rules.Profile.TheVariants.{Classic, Straight}
use Rattle.ic_name.specs.declared.rules.RuleEnd.{RuleEnd}
use Rattle.ic_name.specs.declared.rules.RuleEnd.TheVariants.{Child, Lead, Other}

-- the kinds of the children, by digit
abbrev pub born_kinds : Kind → Kind → List Kind
born_kinds Gamma Delta = Delta ∷ Delta ∷ Gamma ∷ Gamma ∷ []
born_kinds Delta Gamma = Delta ∷ Delta ∷ Gamma ∷ Gamma ∷ []
born_kinds Gamma Eps = Eps ∷ Eps ∷ []
born_kinds Delta Eps = Eps ∷ Eps ∷ []
born_kinds Eps Gamma = Eps ∷ Eps ∷ []
born_kinds Eps Delta = Eps ∷ Eps ∷ []
born_kinds _ _ = []

-- gamma and delta pass through one another: a delta at each auxiliary port of the gamma, a gamma at each of the delta,
-- and the inner wires crossed
abbrev pub crossing : (ℕ → RuleEnd) → (ℕ → RuleEnd) → List (RuleEnd × RuleEnd)
crossing gamma delta =
    (Child 0 0, gamma 1) ∷ (Child 1 0, gamma 2) ∷ (Child 2 0, delta 1) ∷ (Child 3 0, delta 2)
    ∷ (Child 0 1, Child 2 1) ∷ (Child 0 2, Child 3 1) ∷ (Child 1 1, Child 2 2) ∷ (Child 1 2, Child 3 2) ∷ []

-- an epsilon at each auxiliary port of the erased agent
abbrev pub erasing : (ℕ → RuleEnd) → List (RuleEnd × RuleEnd)
erasing erased = (Child 0 0, erased 1) ∷ (Child 1 0, erased 2) ∷ []

-- port 1 to port 1, port 2 to port 2
abbrev pub straight : List (RuleEnd × RuleEnd)
straight = (Lead 1, Other 1) ∷ (Lead 2, Other 2) ∷ []

-- port 1 to port 2, port 2 to port 1
abbrev pub crossed : List (RuleEnd × RuleEnd)
crossed = (Lead 1, Other 2) ∷ (Lead 2, Other 1) ∷ []

-- what two gammas leave
abbrev pub gammas : Profile → List (RuleEnd × RuleEnd)
gammas Classic = crossed
gammas Straight = straight

-- the ends of the links that are made, by place
abbrev pub born_ends : Profile → Kind → Kind → List (RuleEnd × RuleEnd)
born_ends v Gamma Delta = crossing Lead Other
born_ends v Delta Gamma = crossing Other Lead
born_ends v Gamma Eps = erasing Lead
born_ends v Delta Eps = erasing Lead
born_ends v Eps Gamma = erasing Other
born_ends v Eps Delta = erasing Other
born_ends v Gamma Gamma = gammas v
born_ends v Delta Delta = straight
born_ends v Eps Eps = []
