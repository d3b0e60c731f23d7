-- Partners that are written over those of a net, one after the other.
use Rattle.std.specs.Prelude.{◌<◌, List, [], ◌∷◌, Option, if◌then◌else◌}
use Rattle.ic_name.specs.Same.{same_port}
use Rattle.ic_name.specs.declared.ports.Port.{Port}
use Rattle.ic_name.specs.declared.rules.RuleEnd.{RuleEnd}
use Rattle.ic_name.specs.declared.rules.RuleEnd.TheVariants.{Child, Lead, Other}
use Rattle.ic_theory.specs.Steps.{Wiring}
use Rattle.ic_net.specs.declared.rewiring.Rewiring.{Rewiring}

-- the partner of a port once these are written, where it had this one before
abbrev pub after_writes : Port → Option Port → List (Port × Option Port) → Option Port
after_writes x found [] = found
after_writes x found (w ∷ ws) = after_writes x (if same_port x w.0 then w.1 else found) ws

-- the partner of each port once these are written
abbrev pub rewired : (Port → Option Port) → List (Port × Option Port) → Port → Option Port
rewired partner ws x = after_writes x (partner x) ws

-- the partners and the rings of a rewiring of a net with these partners
abbrev pub wiring : (Port → Option Port) → Rewiring → Wiring
wiring partner r = record { partner = rewired partner r.writes.items; rings = r.rings }

-- an end of a rule's link is at one of four children at most
abbrev pub IsRuleEnd : RuleEnd → Type 0
IsRuleEnd (Child i j) = i < 4
IsRuleEnd (Lead j) = Unit {0}
IsRuleEnd (Other j) = Unit {0}

-- so are all ends of these links
abbrev pub AreRuleEnds : List (RuleEnd × RuleEnd) → Type 0
AreRuleEnds [] = Unit {0}
AreRuleEnds (l ∷ ls) = IsRuleEnd l.0 × IsRuleEnd l.1 × AreRuleEnds ls
