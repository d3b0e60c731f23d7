use Rattle.ic_text.proofs.CountedWires.{wires_listed, wires_counted}
use Rattle.ic_text.proofs.counts.counted_wires.Goals as goal

pub returns-clause-listed : goal.returns-clause-listed
returns-clause-listed c = λ l ok. (_, wires_listed l ok)

pub returns-clause-counted : goal.returns-clause-counted
returns-clause-counted c = λ l wires ok h. wires_counted l ok wires h
