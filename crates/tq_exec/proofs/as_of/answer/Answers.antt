use Rattle.std.proofs.Common.{refl, subst, sym}
use Rattle.std.proofs.lemmas.Result.{IfOk-weaker}
use Rattle.tq_exec.specs.Answers.{IsPlanAnswer}
use Rattle.tq_exec.proofs.as_of.answer.Goals as goal

pub answer_over-requires : goal.answer_over-requires
answer_over-requires c κs = ((refl, tt), c.requires.plan)

pub returns : goal.returns
returns c =
    IfOk-weaker c.to_owned.result _ _
    (λ copy same. subst (IsPlanAnswer c.args.db.now.events c.args.n c.args.plan.now) (sym same) c.in_ok-table.ensures)
    c.to_owned.ensures
