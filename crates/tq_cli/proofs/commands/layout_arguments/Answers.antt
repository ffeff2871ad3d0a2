use Rattle.std.proofs.Common.{codes, refl}
use Rattle.std.proofs.lemmas.Result.{IfOk-weaker}
use Rattle.tq_cli.specs.Apps.{flag_rule, format_rule, list_rule, order_rule}
use Rattle.tq_cli.proofs.AppLemmas.{with_arg}
use Rattle.tq_cli.proofs.commands.layout_arguments.Goals as goal

pub returns : goal.returns
returns c =
    let one = with_arg c.args.command c.in_ok-arg.field-0 c.format_argument.result _ format_rule refl c.format_argument.ensures refl c.in_ok-arg.ensures in
    let two = with_arg c.in_ok-arg.field-0 c.in_ok-arg-2.field-0 c.flag_argument.result _ (flag_rule (codes "pretty")) one c.flag_argument.ensures refl c.in_ok-arg-2.ensures in
    let three = with_arg c.in_ok-arg-2.field-0 c.in_ok-arg-3.field-0 c.order_argument.result _ order_rule two c.order_argument.ensures refl c.in_ok-arg-3.ensures in
    let four = with_arg c.in_ok-arg-3.field-0 c.in_ok-arg-4.field-0 c.flag_argument-2.result _ (flag_rule (codes "inclusive")) three c.flag_argument-2.ensures refl c.in_ok-arg-4.ensures in
    let five = with_arg c.in_ok-arg-4.field-0 c.in_ok-arg-5.field-0 c.amounts_argument.result _ (list_rule (codes "decimal")) four c.amounts_argument.ensures refl c.in_ok-arg-5.ensures in
    IfOk-weaker c.arg-6.result _ _ (λ r added. with_arg c.in_ok-arg-5.field-0 r c.flag_argument-3.result _ (flag_rule (codes "typed")) five c.flag_argument-3.ensures refl added) c.arg-6.ensures
