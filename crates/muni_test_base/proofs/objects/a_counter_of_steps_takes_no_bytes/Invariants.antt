use Rattle.muni_test_base.proofs.objects.a_counter_of_steps_takes_no_bytes.Given as goal

abbrev pub ghosts-count : goal.ghosts-count
ghosts-count g a = record { name = a.blank.name; parts = a.blank.parts }
