use Rattle.ic_text.proofs.Sound.{found}
use Rattle.ic_text.proofs.Least.{answered, faultless, only}
use Rattle.ic_text.proofs.read.read_net.Goals as goal

pub returns-clause-found : goal.returns-clause-found
returns-clause-found c = found c.args.text.now c.read.result c.read.ensures

pub returns-clause-only : goal.returns-clause-only
returns-clause-only c = only c.args.text.now c.read.result c.read.ensures

pub returns-clause-faultless : goal.returns-clause-faultless
returns-clause-faultless c = faultless c.args.text.now c.read.result c.read.ensures

pub returns-clause-fault : goal.returns-clause-fault
returns-clause-fault c = λ f e. answered c.args.text.now f (rw e at c.read.ensures)
