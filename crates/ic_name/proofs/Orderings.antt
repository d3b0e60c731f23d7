-- Orders of two things, as `Ordering` tells them.
use Rattle.std.proofs.Common.{◌≡◌, true, false, refl}
use Rattle.std.specs.Ordering.{is_lt, is_gt, ordering_then, ordering_reverse}
use Rattle.std.specs.declared.cmp.Ordering.{Ordering}
use Rattle.std.specs.declared.cmp.Ordering.TheVariants.{Less, Equal, Greater}

-- both orders of a chain are tied where the chain is
pub then_tied : (a b : Ordering) → ordering_then a b ≡ Equal → (a ≡ Equal) × (b ≡ Equal)
then_tied Equal b h = (refl, h)
then_tied Less b h = cc
then_tied Greater b h = cc

-- what the test of an order says
pub lt_less : (o : Ordering) → is_lt o ≡ true → o ≡ Less
lt_less Less h = refl
lt_less Equal h = cc
lt_less Greater h = cc

-- where neither is less they are tied
pub neither_less : (a b : Ordering) → a ≡ ordering_reverse b → is_lt a ≡ false → is_lt b ≡ false → a ≡ Equal
neither_less Less b r h k = cc
neither_less Equal b r h k = refl
neither_less Greater Less r h k = cc
neither_less Greater Equal r h k = cc
neither_less Greater Greater r h k = cc

-- where neither is greater they are tied
pub neither_greater : (a b : Ordering) → a ≡ ordering_reverse b → is_gt a ≡ false → is_gt b ≡ false → a ≡ Equal
neither_greater Less Less r h k = cc
neither_greater Less Equal r h k = cc
neither_greater Less Greater r h k = cc
neither_greater Equal b r h k = refl
neither_greater Greater b r h k = cc
