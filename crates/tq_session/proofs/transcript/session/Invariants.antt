use Rattle.tq_session.proofs.transcript.session.Given as goal

-- the history without events, over the loaded catalogue
abbrev pub ghosts-run : goal.ghosts-run
ghosts-run g a = record { book = a.opened; catalogue = a.loaded.catalogue }
