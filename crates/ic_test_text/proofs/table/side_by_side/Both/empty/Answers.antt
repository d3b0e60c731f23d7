use Rattle.ic_path.specs.Orders.{none}
use Rattle.ic_path.proofs.Picks.{none_in}
use Rattle.ic_test_text.proofs.table.side_by_side.Both.empty.Goals as goal

pub returns : goal.returns
returns c = record {
  links = rw (c.empty.ensures, c.empty-2.ensures) none;
  known = λ l i. absurd (none_in (rw c.empty.ensures at i));
}
