use Rattle.std.proofs.Common.{rules, codes, refl, ◌≡◌}
use Rattle.std.proofs.lemmas.Result.{IfOk-weaker}
use Rattle.clap.specs.Words.{app_of, new_app}
use Rattle.tq_cli.specs.Apps.{dates_rule, explain_rule, gaps_rule, overlaps_rule, refers_rule, table_rule, workers_rule}
use Rattle.tq_cli.proofs.AppLemmas.{with_arg}
use Rattle.tq_cli.proofs.commands.check_command.Goals as goal

pub returns : goal.returns
returns c =
    let base : app_of c.after_help.result ≡ new_app (codes "check") = search rules in
    let one = with_arg c.after_help.result c.in_ok-arg.field-0 c.table_argument.result _ table_rule base c.table_argument.ensures refl c.in_ok-arg.ensures in
    let two = with_arg c.in_ok-arg.field-0 c.in_ok-arg-2.field-0 c.dates_argument.result _ dates_rule one c.dates_argument.ensures refl c.in_ok-arg-2.ensures in
    let three = with_arg c.in_ok-arg-2.field-0 c.in_ok-arg-3.field-0 c.explain_argument.result _ explain_rule two c.explain_argument.ensures refl c.in_ok-arg-3.ensures in
    let four = with_arg c.in_ok-arg-3.field-0 c.in_ok-arg-4.field-0 c.workers_argument.result _ workers_rule three c.workers_argument.ensures refl c.in_ok-arg-4.ensures in
    let five = with_arg c.in_ok-arg-4.field-0 c.in_ok-arg-5.field-0 c.overlaps_argument.result _ overlaps_rule four c.overlaps_argument.ensures refl c.in_ok-arg-5.ensures in
    let six = with_arg c.in_ok-arg-5.field-0 c.in_ok-arg-6.field-0 c.gaps_argument.result _ gaps_rule five c.gaps_argument.ensures refl c.in_ok-arg-6.ensures in
    IfOk-weaker c.arg-7.result _ _ (λ r added. with_arg c.in_ok-arg-6.field-0 r c.refers_argument.result _ refers_rule six c.refers_argument.ensures refl added) c.arg-7.ensures
