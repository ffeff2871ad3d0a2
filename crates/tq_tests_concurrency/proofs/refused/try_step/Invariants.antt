use Rattle.tq_tests_concurrency.proofs.refused.try_step.Given as goal

-- the history without events, over the loaded catalogue
abbrev pub ghosts-step_on : goal.ghosts-step_on
ghosts-step_on g a = record { book = a.opened; catalogue = a.loaded.catalogue }
