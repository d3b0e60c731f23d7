use Rattle.ic_undo.proofs.marks.Mark.place_at.Goals as goal

pub returns-clause-absent : goal.returns-clause-absent
returns-clause-absent c = rw (← c.self.view_is) c.find_from.ensures.absent
