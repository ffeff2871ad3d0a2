use Rattle.tq_tests_concurrency.proofs.rounds.print_steps.Given as goal

-- the history without events, over the loaded catalogue
abbrev pub ghosts-play : goal.ghosts-play
ghosts-play g a = record { book = a.opened; catalogue = a.loaded.catalogue }
