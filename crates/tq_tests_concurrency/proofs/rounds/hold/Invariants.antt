use Rattle.tq_tests_concurrency.proofs.rounds.hold.Given as goal

-- the history without events, over the loaded catalogue
abbrev pub ghosts-gather : goal.ghosts-gather
ghosts-gather g a = record { book = a.opened; catalogue = a.loaded.catalogue }
