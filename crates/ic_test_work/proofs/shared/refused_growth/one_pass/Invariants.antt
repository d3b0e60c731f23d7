use Rattle.ic_test_work.proofs.shared.refused_growth.one_pass.Given as goal

abbrev pub ghosts-settles : goal.ghosts-settles
ghosts-settles g a = record { name = a.blank.name; parts = a.blank.parts }
