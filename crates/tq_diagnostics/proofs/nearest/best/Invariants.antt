-- The best so far is that of the names so far.
use Rattle.std.proofs.Common.{◌≡◌, take}
use Rattle.std.specs.Option.{option_map}
use Rattle.tq_diagnostics.specs.Nearest.{best_of}
use Rattle.tq_diagnostics.specs.Views.{name_views}
use Rattle.tq_diagnostics.proofs.nearest.best.Given as goal

abbrev pub invariant-names : goal.invariant-names
invariant-names l = (l.least, option_map (λ name. name.now) l.found) ≡ best_of l.word (name_views (take l.name-index l.names))
