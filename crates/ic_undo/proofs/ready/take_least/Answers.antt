use Rattle.std.proofs.Common.{◌≡◌, [], refl, ap, ◌∙◌}
use Rattle.std.specs.BTreeSet.{btree_set_len}
use Rattle.std.specs.Prelude.{is_some}
use Rattle.ic_undo.proofs.ReadyPairs.{no_elements, one_fewer}
use Rattle.ic_undo.proofs.ready.take_least.Goals as goal

pub returns-in_default-clause-none : goal.returns-in_default-clause-none
returns-in_default-clause-none c =
    let empty : c.args.ready.now.entries ≡ [] = no_elements c.args.ready.now.entries (λ l. (let some = c.in_default.ensures.variant.1 l in cc)) in
    λ q. rw empty refl

pub returns-clause-taken : goal.returns-clause-taken
returns-clause-taken c = record {
  name = c.in-Some.next.0;
  there = c.in-Some.ensures.value;
  least = λ q r h. c.in-Some.ensures.least q (ap is_some h);
  gone = c.in-Some.ensures.updates.0;
  out = c.remove.ensures.updates.0;
}

pub returns-clause-fewer : goal.returns-clause-fewer
returns-clause-fewer c =
    let was = c.requires c.in-Some.next.0 c.in-Some.next.1 c.in-Some.ensures.value in
    one_fewer c.remove.result (btree_set_len c.remove.new.self) (btree_set_len c.args.missing.now) (c.remove.ensures.test ∙ was) c.remove.ensures.len
