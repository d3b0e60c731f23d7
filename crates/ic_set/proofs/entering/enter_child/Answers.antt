use Rattle.ic_set.proofs.entering.enter_child.Goals as goal

pub insert_agent-requires : goal.insert_agent-requires
insert_agent-requires c =
    let entered = c.in-Ok.ensures.entered in
    record {
      inside = entered.within;
      is_new = rw (entered.named, c.in-Ok.ensures.agents) c.requires.is_new;
    }
