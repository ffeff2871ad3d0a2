-- The figures so far are those of the sources so far.
use Rattle.std.proofs.Common.{take}
use Rattle.tq_event.specs.Tables.{lists_of}
use Rattle.tq_profile.specs.Figures.{AreSourceFigures}
use Rattle.tq_profile.proofs.figures.sources_figures.Given as goal

abbrev pub invariant-sources : goal.invariant-sources
invariant-sources l = AreSourceFigures l.window l.query (lists_of l.tables) (take l.source-index l.sources) l.figures.items
