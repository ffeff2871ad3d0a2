-- The best of the names is the nearest one.
use Rattle.std.proofs.Common.{subst, sym}
use Rattle.tq_diagnostics.specs.Nearest.{IsNearestIf}
use Rattle.tq_diagnostics.specs.Views.{name_views}
use Rattle.tq_diagnostics.proofs.NearestLemmas.{nearest_is}
use Rattle.tq_diagnostics.proofs.nearest.nearest.Goals as goal

pub returns-clause-nearest : goal.returns-clause-nearest
returns-clause-nearest c =
    subst (λ name. IsNearestIf c.args.word.now (name_views c.args.names.now) name) (sym c.in_ok-found.ensures) (nearest_is c.args.word.now (name_views c.args.names.now))
