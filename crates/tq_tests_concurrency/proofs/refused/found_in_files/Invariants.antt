use Rattle.tq_tests_concurrency.proofs.refused.found_in_files.Given as goal

-- the history without events, over the loaded catalogue
abbrev pub ghosts-found_by_last : goal.ghosts-found_by_last
ghosts-found_by_last a = record { book = a.opened; catalogue = a.loaded.catalogue }
