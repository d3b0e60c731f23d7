use Rattle.ic_test_work.proofs.shared.missing.one_kept_back.Given as goal

abbrev pub ghosts-fault_without_a_pass : goal.ghosts-fault_without_a_pass
ghosts-fault_without_a_pass g a = record { name = a.blank.name; parts = a.blank.parts }
