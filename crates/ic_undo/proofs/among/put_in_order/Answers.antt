use Rattle.std.proofs.lemmas.Bool.{eqb-true}
use Rattle.std.proofs.lemmas.Cmp.{nat_cmp_total, nat_eq_equiv}
use Rattle.ic_undo.proofs.RepeatsDropped.{number_ties, same_elements, in_strict_order}
use Rattle.ic_undo.proofs.among.put_in_order.Goals as goal

pub returns-clause-same : goal.returns-clause-same
returns-clause-same c = same_elements nat_cmp_total nat_eq_equiv number_ties eqb-true c.args.places.now.items c.sort_unstable.new.self.items c.dedup.new.self.items c.sort_unstable.ensures.permutation c.sort_unstable.ensures.sorted c.dedup.ensures.filtered

pub returns-clause-ordered : goal.returns-clause-ordered
returns-clause-ordered c = in_strict_order nat_cmp_total nat_eq_equiv number_ties eqb-true c.args.places.now.items c.sort_unstable.new.self.items c.dedup.new.self.items c.sort_unstable.ensures.permutation c.sort_unstable.ensures.sorted c.dedup.ensures.filtered
