-- Sweeps that end normal, and the texts of the benches that they leave.
use Rattle.std.specs.Prelude.{◌≡◌, ℕ, List}
use Rattle.ic_theory.specs.Nets.{net_of, IsSameNet}
use Rattle.ic_theory.specs.Listed.{ListedNet, IsListing, shown}
use Rattle.ic_set.specs.Views.{standing}
use Rattle.ic_journal.specs.Views.{BenchView, set_of}
use Rattle.ic_journal.specs.Benches.{IsBench}
use Rattle.ic_text.specs.NetText.{net_text}
use Rattle.ic_cause.specs.Journals.{Ranked, IsJournal, journal_text}
use Rattle.ic_journal.specs.declared.reducing.end.End.TheVariants.{Normal}
use Rattle.ic_work.specs.Sweeps.{Sweeps}

-- the old bench was swept, of whatever budget; so many events were fired, and no pair is active on the new one
pub record EndsNormal (old : BenchView) (fired : ℕ) (new : BenchView) : Type 0 where
  pub budget : ℕ
  pub sweep : Sweeps old budget fired Normal new
  pub bench : IsBench new

-- the printed text of the net that the bench shows
pub record IsNetOf (v : BenchView) (text : List ℕ) : Type 0 where
  pub net : ListedNet
  pub listing : IsListing net
  pub shows : IsSameNet (shown net) (net_of v.start (standing (set_of v)))
  pub printed : text ≡ net_text v.start.names net

-- the text of the bench's journal
pub record IsJournalOf (v : BenchView) (text : List ℕ) : Type 0 where
  pub ranked : List Ranked
  pub journal : IsJournal v.start (standing (set_of v)) ranked
  pub printed : text ≡ journal_text ranked
