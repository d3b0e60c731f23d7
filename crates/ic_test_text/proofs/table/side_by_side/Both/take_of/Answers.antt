use Rattle.std.proofs.Common.{not}
use Rattle.ic_path.proofs.Alikes.{alike_then, alike_back, alike-in, alike-filter}
use Rattle.ic_path.proofs.InLists.{filter_cases}
use Rattle.ic_name.specs.declared.ids.Link.{Link}
use Rattle.ic_name.specs.Spots.{made_by}
use Rattle.ic_test_text.proofs.table.side_by_side.Both.take_of.Goals as goal

pub returns : goal.returns
returns c = record {
  links = alike_then (alike_back c.take_of.ensures.drops) (alike_then (alike-filter (λ (l : Link). not (made_by c.args.event l)) c.requires.links) c.take_of-2.ensures);
  known = λ l i. c.requires.known l (filter_cases (λ (m : Link). not (made_by c.args.event m)) _ (alike-in (alike_back c.take_of.ensures.drops) i)).0;
}
