use Rattle.tq_snapshot.proofs.laws.ask_before_and_after_start.Given as goal

-- the history without events, over the loaded catalogue
abbrev pub ghosts-ask_before_and_after_in : goal.ghosts-ask_before_and_after_in
ghosts-ask_before_and_after_in g a = record { book = a.opened; catalogue = a.loaded.catalogue }
