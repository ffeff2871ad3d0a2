use Rattle.std.proofs.Common.{rules, codes, refl, ◌≡◌}
use Rattle.std.proofs.lemmas.Result.{IfOk-weaker}
use Rattle.clap.specs.Words.{app_of, new_app}
use Rattle.tq_cli.specs.Apps.{dates_rule, explain_rule, parts_rule, required_rule, statement_rule, table_rule, text_rule}
use Rattle.tq_cli.proofs.AppLemmas.{with_arg}
use Rattle.tq_cli.proofs.commands.split_command.Goals as goal

pub returns : goal.returns
returns c =
    let base : app_of c.after_help.result ≡ new_app (codes "split") = search rules in
    let one = with_arg c.after_help.result c.in_ok-arg.field-0 c.parts_argument.result _ parts_rule base c.parts_argument.ensures refl c.in_ok-arg.ensures in
    let two = with_arg c.in_ok-arg.field-0 c.in_ok-arg-2.field-0 c.required_argument.result _ (required_rule (codes "out")) one c.required_argument.ensures refl c.in_ok-arg-2.ensures in
    let three = with_arg c.in_ok-arg-2.field-0 c.in_ok-arg-3.field-0 c.table_argument.result _ table_rule two c.table_argument.ensures refl c.in_ok-arg-3.ensures in
    let four = with_arg c.in_ok-arg-3.field-0 c.in_ok-arg-4.field-0 c.dates_argument.result _ dates_rule three c.dates_argument.ensures refl c.in_ok-arg-4.ensures in
    let five = with_arg c.in_ok-arg-4.field-0 c.in_ok-arg-5.field-0 c.explain_argument.result _ explain_rule four c.explain_argument.ensures refl c.in_ok-arg-5.ensures in
    let six = with_arg c.in_ok-arg-5.field-0 c.in_ok-arg-6.field-0 c.statement_file_argument.result _ (text_rule (codes "statement-file")) five c.statement_file_argument.ensures refl c.in_ok-arg-6.ensures in
    IfOk-weaker c.arg-7.result _ _ (λ r added. with_arg c.in_ok-arg-6.field-0 r c.statement_argument.result _ statement_rule six c.statement_argument.ensures refl added) c.arg-7.ensures
