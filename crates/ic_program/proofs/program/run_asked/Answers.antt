use Rattle.ic_program.specs.Runs.RunsFiles.{over}
use Rattle.ic_program.proofs.RunInputs.{unknown}
use Rattle.ic_program.proofs.program.run_asked.Goals as goal

pub returns-then-is_empty-clause-files : goal.returns-then-is_empty-clause-files
returns-then-is_empty-clause-files g c = over (unknown c.run.ensures)
