use Rattle.std.proofs.lemmas.Result.{IfOk-weaker}
use Rattle.tq_plan.specs.Plans.{tables_of}
use Rattle.tq_exec.specs.OutputPlaces.{summed_places}
use Rattle.tq_exec.proofs.GroupingLemmas.{grouped_inside}
use Rattle.tq_exec.proofs.NumberLemmas.{numbers_fit, passing_sums}
use Rattle.tq_exec.proofs.aggregate.grouped_rows.Goals as goal

pub items_of_groups-requires : goal.items_of_groups-requires
items_of_groups-requires g c =
    passing_sums (g.S.Snapshot.valid c.args.snapshot.now) c.args.window.now (tables_of c.args.query.now) c.args.query.now.test (summed_places c.args.query.now.outputs) c.in_ok-rows.rows.items
    c.in_ok-rows.ensures.inside c.in_ok-rows.ensures.outside (numbers_fit (g.S.Snapshot.catalogue c.args.snapshot.now) (g.S.Snapshot.valid c.args.snapshot.now) c.requires.fit)

pub returns-clause-inside : goal.returns-clause-inside
returns-clause-inside g c =
    IfOk-weaker c.items_of_groups.result _ _
    (λ out counted. grouped_inside (g.S.Snapshot.valid c.args.snapshot.now) c.args.query.now c.args.window.now c.in_ok-rows.rows.items out.items c.requires.grouped c.requires.query.items
    c.in_ok-rows.ensures.inside counted)
    c.items_of_groups.ensures.inside
