use Rattle.std.proofs.Common.{◌≡◌, List, length, take, subst, arith}
use Rattle.std.proofs.lemmas.List.{length-take}
use Rattle.tq_event.specs.declared.event.Event.{Event}
use Rattle.tq_event.specs.Recorded.{Recorded}
use Rattle.tq_table.specs.declared.table.Table.{Table}
use Rattle.tq_plan.specs.declared.plans.Plan.{Plan}
use Rattle.tq_exec.specs.Answers.{IsPlanAnswer}
use Rattle.tq_oracle.specs.Plain.{plain_answer, same_answer, PlansHaveOneAnswer}
use Rattle.tq_oracle.proofs.plain.PlainOracle.answer.Goals as goal

pub returns : goal.returns
returns c =
    let one_answer : PlansHaveOneAnswer = c.args.self.now.one_answer in
    let events : List Event = take c.args.n c.args.events.now in
    let plan : Plan = c.args.plan.now in
    let table : Table = c.in_ok-table.table in
    let over : IsPlanAnswer events c.args.n plan table = subst (λ (d : Recorded). IsPlanAnswer d.events c.args.n plan table) c.in_ok-db.ensures c.in_ok-table.ensures in
    let long : c.args.n ≡ length events = omega (arith, length-take c.args.n c.args.events.now, c.requires.within) in
    let here : IsPlanAnswer events (length events) plan table = subst (λ n. IsPlanAnswer events n plan table) long over in
    same_answer one_answer.0 events (length events) plan table (plain_answer one_answer events plan) here (one_answer.1 events (length events) plan).1
