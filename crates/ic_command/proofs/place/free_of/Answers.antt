use Rattle.ic_command.proofs.PlacesNamed.{names_free}
use Rattle.ic_command.proofs.place.free_of.Goals as goal

pub returns-in-Some : goal.returns-in-Some
returns-in-Some c = names_free c.args.word.now c.in-Some.name c.in_ok-name.field-0 c.in_ok-name.ensures c.in-Some.is
