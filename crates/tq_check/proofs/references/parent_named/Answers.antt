use Rattle.tq_check.specs.declared.references.Part.TheVariants.{Parent}
use Rattle.std.proofs.lemmas.Result.{IfErr-weaker}
use Rattle.tq_check.proofs.ReferenceLemmas.{from_part}
use Rattle.tq_check.proofs.references.parent_named.Goals as goal

pub returns-clause-fault : goal.returns-clause-fault
returns-clause-fault c = IfErr-weaker c.column_named.result _ _ (from_part c.args.catalogue.now c.args.names.now Parent) c.column_named.ensures.fault
