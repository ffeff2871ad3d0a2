use Rattle.std.proofs.Common.{rules, ap, codes, refl, ◌≡◌, ◌∙◌}
use Rattle.std.proofs.lemmas.Result.{IfOk-weaker}
use Rattle.clap.specs.Words.{app_of, new_app}
use Rattle.tq_cli.specs.Apps.{list_rule, with_question}
use Rattle.tq_cli.proofs.AppLemmas.{with_arg}
use Rattle.tq_cli.proofs.commands.total_command.Goals as goal

pub returns : goal.returns
returns c =
    let base : app_of c.after_help.result ≡ new_app (codes "total") = search rules in
    let one = with_arg c.after_help.result c.in_ok-arg.field-0 c.list_argument.result _ (list_rule (codes "by")) base c.list_argument.ensures refl c.in_ok-arg.ensures in
    let two = with_arg c.in_ok-arg.field-0 c.in_ok-arg-2.field-0 c.list_argument-2.result _ (list_rule (codes "sum")) one c.list_argument-2.ensures refl c.in_ok-arg-2.ensures in
    let three = with_arg c.in_ok-arg-2.field-0 c.in_ok-command.command c.amounts_argument.result _ (list_rule (codes "decimal")) two c.amounts_argument.ensures refl c.in_ok-command.ensures in
    IfOk-weaker c.question_arguments.result _ _ (λ r is. is ∙ ap with_question three) c.question_arguments.ensures
