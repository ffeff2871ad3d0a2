use Rattle.bench_snapshot.proofs.run.Given as goal

-- the history without events, over the loaded catalogue
abbrev pub ghosts-hold : goal.ghosts-hold
ghosts-hold g a = record { book = a.opened; catalogue = a.loaded.catalogue }
