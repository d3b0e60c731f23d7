use Rattle.ic_path.proofs.Picks.{none_in}
use Rattle.ic_roster.proofs.roster.Roster.new.Goals as goal

pub invariant_of-result : goal.invariant_of-result
invariant_of-result c = rw (c.new-2.ensures, c.new-3.ensures) (record { agents = λ x i. absurd (none_in i); events = λ x i. absurd (none_in i) })
