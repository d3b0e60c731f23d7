use Rattle.ic_path.proofs.Seals.{sealed, seal_count}
use Rattle.ic_theory.specs.Starts.{net_shape}
use Rattle.ic_theory.specs.Sets.{links}
use Rattle.ic_theory.specs.Seals.{comes_before}
use Rattle.ic_theory.proofs.Counts.{slim}
use Rattle.ic_theory.proofs.LinkOrder.{ordered}
use Rattle.ic_theory.proofs.seals.Goals as goal

pub returns-clause-listed : goal.returns-clause-listed
returns-clause-listed c = λ s es ok sound. let r = sealed net_shape comes_before (links s es) (ordered s es sound) (slim s ok es sound.apart) in (r.seals, r.has)

pub returns-clause-counted : goal.returns-clause-counted
returns-clause-counted c = λ s es list ok sound h. seal_count net_shape comes_before (links s es) list (ordered s es sound) (slim s ok es sound.apart) h

pub returns-clause-ordered : goal.returns-clause-ordered
returns-clause-ordered c = λ s es ok sound. ordered s es sound
