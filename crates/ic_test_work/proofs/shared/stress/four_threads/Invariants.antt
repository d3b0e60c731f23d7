use Rattle.ic_test_work.proofs.shared.stress.four_threads.Given as goal

abbrev pub ghosts-settled_of_four : goal.ghosts-settled_of_four
ghosts-settled_of_four g a = record { name = a.blank.name; parts = a.blank.parts }
