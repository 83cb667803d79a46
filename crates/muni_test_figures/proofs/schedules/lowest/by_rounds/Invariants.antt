use Rattle.muni_test_figures.proofs.schedules.lowest.by_rounds.Given as goal

abbrev pub ghosts-count_rounds : goal.ghosts-count_rounds
ghosts-count_rounds g a = record { name = a.blank.name; parts = a.blank.parts }
