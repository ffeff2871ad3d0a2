use Rattle.std.proofs.Common.{◌∙◌, refl, ap, arith}
use Rattle.tq_event.specs.Versions.{version_at}
use Rattle.tq_store.proofs.read.find_last.Goals as goal

pub returns-then-is_instant-clause-value : goal.returns-then-is_instant-clause-value
returns-then-is_instant-clause-value c =
    c.requires.first ∙ ap (version_at c.args.events.now c.args.n) (let one = c.if-is_instant.ensures refl in omega (arith, one))
