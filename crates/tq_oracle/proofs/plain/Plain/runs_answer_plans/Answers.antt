use Rattle.std.proofs.Common.{◌&&◌, List, length, take, map, filter, subst, sym, arith}
use Rattle.std.specs.Prelude.{nat_le, nat_lt}
use Rattle.std.proofs.lemmas.List.{take_all}
use Rattle.tq_event.specs.declared.event.Event.{Event}
use Rattle.tq_event.specs.History.{Row, rows_from}
use Rattle.tq_table.specs.declared.table.Table.{Table}
use Rattle.tq_exec.specs.Answers.{ValidRows, IsAnswerOver, IsPlanAnswer}
use Rattle.tq_oracle.specs.Plain.{plain_answer, PlansHaveOneAnswer}
use Rattle.tq_oracle.proofs.plain.Plain.runs_answer_plans.Goals as goal

-- the rows valid after all of these events
abbrev after_all : List Event → ValidRows
after_all events = λ table t. map (λ (row : Row). row.values) (filter (λ (row : Row). nat_le row.from t && nat_lt t row.to) (rows_from table 0 events))

pub returns : goal.returns
returns c = λ steps replies after over place reader n pieces plan table is.
    let one_answer : PlansHaveOneAnswer = c.args.self.now.one_answer in
    let first : List Event = take n after.published in
    let named : Table = plain_answer one_answer first plan in
    let given = over place reader n pieces plan table is in
    let here : IsPlanAnswer first (length first) plan named = (one_answer.1 first (length first) plan).1 in
    let there : IsPlanAnswer after.published n plan named = subst (λ (events : List Event). IsAnswerOver (after_all events) plan named) (take_all (length first) first (omega arith)) here in
    (given.0, subst (λ (t : Table). IsPlanAnswer after.published n plan t) (sym given.1) there)
