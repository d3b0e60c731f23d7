use Rattle.ic_test_work.proofs.shared.earlier.all_replies.Given as goal

abbrev pub ghosts-settles_with_one_more : goal.ghosts-settles_with_one_more
ghosts-settles_with_one_more g a = record { name = a.blank.name; parts = a.blank.parts }
