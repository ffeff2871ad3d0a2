use Rattle.std.proofs.Common.{◌++◌, ◌∷◌, ◌∙◌, [], ap, map, subst, sym}
use Rattle.std.proofs.lemmas.Result.{IfOk-weaker}
use Rattle.tq_base.specs.Fragments.{copies}
use Rattle.tq_exec.specs.AnswerParts.{HaveAnswer}
use Rattle.tq_exec.specs.declared.answer_parts.AnswerPart.{AnswerPart}
use Rattle.tq_exec.proofs.AnswerPartLemmas.{one_answer}
use Rattle.tq_exec.proofs.parallel.one_part.Goals as goal

pub returns : goal.returns
returns c =
    let rows = c.args.rows in
    let is = c.in_ok-make_part.ensures rows.width (copies rows.items) c.in_ok-coalesce.ensures.layers c.in_ok-coalesce.ensures.width in
    IfOk-weaker c.made_of.result _ _
    (λ made are.
    subst (HaveAnswer c.args.wanted rows.width (copies rows.items)) (sym (are ∙ ap (map (λ (part : AnswerPart). part.made)) (c.in_ok-push.ensures.items ∙ ap (λ l. l ++ c.in_ok-make_part.field-0 ∷ []) c.in_ok-parts.ensures.items)))
    (one_answer c.args.wanted rows.width c.in_ok-make_part.field-0 (copies rows.items) is))
    c.made_of.ensures
