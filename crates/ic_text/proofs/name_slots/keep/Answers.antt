use Rattle.std.proofs.lemmas.Map.Text.{btree_map_updates_str}
use Rattle.ic_text.proofs.NameSlots.{keeps_among}
use Rattle.ic_text.proofs.name_slots.keep.Goals as goal

pub returns-in-Ok-clause-kept : goal.returns-in-Ok-clause-kept
returns-in-Ok-clause-kept c =
    keeps_among _ c.get.result _ _ _ _ _ _ c.get.ensures c.if-is_none.ensures
    (λ y. btree_map_updates_str c.args.name.now c.args.others.now c.insert.new.self _ c.in-Ok.ensures.updates y)
