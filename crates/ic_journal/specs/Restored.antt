-- What an undo straight after its firing gives back.
use Rattle.std.specs.Prelude.{◌≡◌, ℕ, List}
use Rattle.ic_name.specs.Events.{Event}
use Rattle.ic_theory.specs.Causes.{IsRank}
use Rattle.ic_theory.specs.Nets.{IsSameNet, net_of}
use Rattle.ic_cause.specs.Journals.{Ranked, IsJournal}
use Rattle.ic_set.specs.Views.{standing}
use Rattle.ic_set.specs.Changes.{IsSame}
use Rattle.ic_journal.specs.Views.{BenchView, set_of}

-- all that stood is back: the agents and events under the ids that they had, the net, the ranks, and the journal
pub record GivesBack (old new : BenchView) : Type 0 where
  pub same : IsSame (set_of old) (set_of new)
  pub net : IsSameNet (net_of old.start (standing (set_of old))) (net_of new.start (standing (set_of new)))
  pub ranks : (rank : Event → ℕ) → IsRank old.start (standing (set_of old)) rank → IsRank new.start (standing (set_of new)) rank
  pub journal : (xs ys : List Ranked) → IsJournal old.start (standing (set_of old)) xs → IsJournal new.start (standing (set_of new)) ys → xs ≡ ys
