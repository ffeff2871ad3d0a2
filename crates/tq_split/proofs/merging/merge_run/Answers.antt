use Rattle.std.proofs.Common.{refl}
use Rattle.tq_split.specs.Adding.{run_values}
use Rattle.tq_split.proofs.AnswerLemmas.{none_left}
use Rattle.tq_split.proofs.merging.merge_run.Goals as goal

pub returns-in-None-clause-merged : goal.returns-in-None-clause-merged
returns-in-None-clause-merged g c lists wide has = (none_left g.R.Read.remaining c.args.layout.now c.args.parts.now lists has (c.in_ok-run.ensures c.in-None.is), refl)

pub returns-clause-merged : goal.returns-clause-merged
returns-clause-merged g c lists wide has =
    let taken = c.in_ok-take_runs.ensures in
    let (layers, are, added) = c.in_ok-push_run.ensures.pushed in
    record {
      values = run_values c.args.layout.now.combine c.in-Some.run'.row.values;
      left = taken.rows lists has;
      after = taken.above lists has;
      layers = layers;
      are = rw (taken.group lists has, c.new-group.ensures.rows, wide) at are;
      added = added;
    }
