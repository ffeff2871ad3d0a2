use Rattle.std.proofs.Common.{rules, ap, codes, refl, ◌≡◌, ◌∙◌}
use Rattle.std.proofs.lemmas.Result.{IfOk-weaker}
use Rattle.clap.specs.Words.{app_of, new_app}
use Rattle.tq_cli.specs.Apps.{html_rule, svg_rule, width_rule, window_rule, with_question}
use Rattle.tq_cli.proofs.AppLemmas.{with_arg}
use Rattle.tq_cli.proofs.commands.draw_command.Goals as goal

pub returns : goal.returns
returns c =
    let base : app_of c.after_help.result ≡ new_app (codes "draw") = search rules in
    let one = with_arg c.after_help.result c.in_ok-arg.field-0 c.width_argument.result _ width_rule base c.width_argument.ensures refl c.in_ok-arg.ensures in
    let two = with_arg c.in_ok-arg.field-0 c.in_ok-arg-2.field-0 c.svg_argument.result _ svg_rule one c.svg_argument.ensures refl c.in_ok-arg-2.ensures in
    let three = with_arg c.in_ok-arg-2.field-0 c.in_ok-arg-3.field-0 c.html_argument.result _ html_rule two c.html_argument.ensures refl c.in_ok-arg-3.ensures in
    let four = with_arg c.in_ok-arg-3.field-0 c.in_ok-command.command c.window_argument.result _ window_rule three c.window_argument.ensures refl c.in_ok-command.ensures in
    IfOk-weaker c.question_arguments.result _ _ (λ r is. is ∙ ap with_question four) c.question_arguments.ensures
