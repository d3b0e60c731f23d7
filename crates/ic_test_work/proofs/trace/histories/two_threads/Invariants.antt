use Rattle.ic_test_work.proofs.trace.histories.two_threads.Given as goal

abbrev pub ghosts-settled_of_two : goal.ghosts-settled_of_two
ghosts-settled_of_two g a = record { name = a.blank.name; parts = a.blank.parts }
