use Rattle.std.proofs.Common.{rules, ◌≡◌, ◌∙◌, ap, length, sym}
use Rattle.std.specs.List.{list_any}
use Rattle.std.proofs.lemmas.Bool.{false≢true}
use Rattle.tq_exec.specs.AggregateParts.{is_sum}
use Rattle.tq_exec.proofs.AggregatePartLemmas.{counts_one, no_sum}
use Rattle.tq_exec.proofs.aggregate_parts.counted_column.Goals.{then-is_some-via-then-is_some, then-is_some-via-else-is_some+then-has_sum}
use Rattle.tq_exec.proofs.aggregate_parts.counted_column.Goals as goal

pub returns-then-is_some-clause-every : goal.returns-then-is_some-clause-every
returns-then-is_some-clause-every c table column is =
    elim c.then-is_some.branch [
      | then-is_some-via-then-is_some w ↦ absurd (false≢true (sym (c.is_some.ensures ∙ is.test) ∙ w.if-is_some.true))
      | then-is_some-via-else-is_some+then-has_sum w ↦ absurd (false≢true (sym (w.has_sum.ensures ∙ ap (list_any is_sum) w.get.ensures ∙ no_sum c.args.query.now.outputs is.sums) ∙ w.if-has_sum.true))
    ]

pub returns-in-len1-len1-clause-found : goal.returns-in-len1-len1-clause-found
returns-in-len1-len1-clause-found c =
    let query = c.args.query.now in
    let one_source : length c.get-2.result.now ≡ 1 = search rules in
    let one_column : length c.get-3.result.now ≡ 1 = search rules in
    counts_one query c.get-2.result.now c.get-3.result.now _ c.get-2.ensures c.get-3.ensures one_source (sym c.is_some.ensures ∙ c.if-is_some.false) one_column
    (sym (c.has_sum.ensures ∙ ap (list_any is_sum) c.get.ensures) ∙ c.if-has_sum.false)
