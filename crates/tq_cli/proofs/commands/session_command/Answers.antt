use Rattle.std.proofs.Common.{rules, codes, refl, ◌≡◌}
use Rattle.std.proofs.lemmas.Result.{IfOk-weaker}
use Rattle.clap.specs.Words.{app_of, new_app}
use Rattle.tq_cli.specs.Apps.{dates_rule, explain_rule, table_rule}
use Rattle.tq_cli.proofs.AppLemmas.{with_arg}
use Rattle.tq_cli.proofs.commands.session_command.Goals as goal

pub returns : goal.returns
returns c =
    let base : app_of c.after_help.result ≡ new_app (codes "session") = search rules in
    let one = with_arg c.after_help.result c.in_ok-arg.field-0 c.table_argument.result _ table_rule base c.table_argument.ensures refl c.in_ok-arg.ensures in
    let two = with_arg c.in_ok-arg.field-0 c.in_ok-arg-2.field-0 c.dates_argument.result _ dates_rule one c.dates_argument.ensures refl c.in_ok-arg-2.ensures in
    IfOk-weaker c.arg-3.result _ _ (λ r added. with_arg c.in_ok-arg-2.field-0 r c.explain_argument.result _ explain_rule two c.explain_argument.ensures refl added) c.arg-3.ensures
