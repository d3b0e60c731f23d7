-- Benches on which something has changed.
use Rattle.ic_path.specs.Orders.{Alike}
use Rattle.ic_set.specs.Views.{standing}
use Rattle.ic_journal.specs.Views.{BenchView, set_of}

-- other events stand than before
pub record HasChanged (old new : BenchView) : Type 0 where
  pub others : ¬ (Alike (standing (set_of old)) (standing (set_of new)))
