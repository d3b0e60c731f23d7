-- The order of events with their ranks.
use Rattle.std.specs.Prelude.{ℕ}
use Rattle.std.specs.declared.cmp.Ordering.{Ordering}
use Rattle.std.specs.Ordering.{on, then_cmp, nat_cmp}
use Rattle.ic_name.specs.Names.{name_cmp}
use Rattle.ic_name.specs.Events.{Event}

-- by rank, then lead, then other
abbrev pub place_cmp : ℕ × Event → ℕ × Event → Ordering
place_cmp = then_cmp (on (λ p. p.0) nat_cmp) (then_cmp (on (λ p. p.1.lead) name_cmp) (on (λ p. p.1.other) name_cmp))
