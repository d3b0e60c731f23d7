use Rattle.ic_set.specs.Views.{standing}
use Rattle.ic_journal.specs.Views.{set_of}
use Rattle.ic_undo.proofs.WithinSets.{sound_named}
use Rattle.ic_undo.proofs.laws.absorbs_sound_sets.Goals as goal

pub returns : goal.returns
returns c = λ v es names p lawful sound named least. sound_named v.start lawful.set.proper (standing (set_of v)) es names p lawful.set.sound sound named least
