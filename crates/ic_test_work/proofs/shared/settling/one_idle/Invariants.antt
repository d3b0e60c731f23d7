use Rattle.ic_test_work.proofs.shared.settling.one_idle.Given as goal

abbrev pub ghosts-settled_with_an_idle_one : goal.ghosts-settled_with_an_idle_one
ghosts-settled_with_an_idle_one g a = record { name = a.blank.name; parts = a.blank.parts }
