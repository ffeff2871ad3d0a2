use Rattle.std.proofs.Common.{ap, codes, refl, ◌≡◌, ◌∙◌}
use Rattle.std.proofs.lemmas.Result.{IfOk-weaker}
use Rattle.clap.specs.Words.{app_of, new_app}
use Rattle.clap.specs.Simple.{app_of_fields}
use Rattle.tq_cli.specs.Apps.{explain_rule, flag_rule, output_rule, path_rule, text_rule, with_columns, with_numbers, with_period}
use Rattle.tq_cli.proofs.AppLemmas.{with_arg}
use Rattle.tq_cli.proofs.commands.import_command.Goals as goal

pub returns : goal.returns
returns c =
    let base : app_of c.after_help-command.result ≡ new_app (codes "import") =
    ap app_of_fields c.after_help-command.ensures ∙ ap app_of_fields c.about.ensures ∙ c.new.ensures.app in
    let numbers = c.in_ok-command.ensures ∙ ap with_numbers base in
    let period = c.in_ok-command-2.ensures ∙ ap with_period numbers in
    let columns = c.in_ok-command-3.ensures ∙ ap with_columns period in
    let output = with_arg c.in_ok-command-3.command c.in_ok-arg.field-0 c.output_argument.result _ output_rule columns c.output_argument.ensures refl c.in_ok-arg.ensures in
    let all = with_arg c.in_ok-arg.field-0 c.in_ok-arg-2.field-0 c.flag_argument.result _ (flag_rule (codes "all")) output c.flag_argument.ensures refl c.in_ok-arg-2.ensures in
    let rejected = with_arg c.in_ok-arg-2.field-0 c.in_ok-arg-3.field-0 c.text_argument.result _ (text_rule (codes "skip-invalid")) all c.text_argument.ensures refl c.in_ok-arg-3.ensures in
    let explain = with_arg c.in_ok-arg-3.field-0 c.in_ok-arg-4.field-0 c.explain_argument.result _ explain_rule rejected c.explain_argument.ensures refl c.in_ok-arg-4.ensures in
    IfOk-weaker c.arg-5.result _ _ (λ r added. with_arg c.in_ok-arg-4.field-0 r c.path_argument.result _ path_rule explain c.path_argument.ensures refl added) c.arg-5.ensures
