use Rattle.ic_name.proofs.EventOrder.{event_total, event_equivalence}
use Rattle.ic_undo.proofs.RepeatsDropped.{id_ties, same_elements, no_repeats}
use Rattle.ic_undo.proofs.among.drop_repeats.Goals as goal
use Rattle.ic_name.proofs.SameFacts.{same_event_true}

pub returns-clause-same : goal.returns-clause-same
returns-clause-same c = same_elements event_total event_equivalence id_ties same_event_true c.args.ids.now.items c.sort_unstable.new.self.items c.dedup.new.self.items c.sort_unstable.ensures.permutation c.sort_unstable.ensures.sorted c.dedup.ensures.filtered

pub returns-clause-once : goal.returns-clause-once
returns-clause-once c = no_repeats event_total event_equivalence id_ties same_event_true c.args.ids.now.items c.sort_unstable.new.self.items c.dedup.new.self.items c.sort_unstable.ensures.permutation c.sort_unstable.ensures.sorted c.dedup.ensures.filtered
