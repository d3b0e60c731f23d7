use Rattle.ic_shared.proofs.tests.mismatch.Given as goal

abbrev pub ghosts-mismatch_after : goal.ghosts-mismatch_after
ghosts-mismatch_after g a = record { name = a.blank.name; parts = a.blank.parts }
