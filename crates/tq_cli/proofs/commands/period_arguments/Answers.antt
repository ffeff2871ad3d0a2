use Rattle.std.proofs.Common.{codes, refl}
use Rattle.std.proofs.lemmas.Result.{IfOk-weaker}
use Rattle.tq_cli.specs.Apps.{flag_rule, list_rule, required_rule, text_rule}
use Rattle.tq_cli.proofs.AppLemmas.{with_arg}
use Rattle.tq_cli.proofs.commands.period_arguments.Goals as goal

pub returns : goal.returns
returns c =
    let one = with_arg c.args.command c.in_ok-arg.field-0 c.required_argument.result _ (required_rule (codes "from")) refl c.required_argument.ensures refl c.in_ok-arg.ensures in
    let two = with_arg c.in_ok-arg.field-0 c.in_ok-arg-2.field-0 c.required_argument-2.result _ (required_rule (codes "to")) one c.required_argument-2.ensures refl c.in_ok-arg-2.ensures in
    let three = with_arg c.in_ok-arg-2.field-0 c.in_ok-arg-3.field-0 c.text_argument.result _ (text_rule (codes "date-format")) two c.text_argument.ensures refl c.in_ok-arg-3.ensures in
    let four = with_arg c.in_ok-arg-3.field-0 c.in_ok-arg-4.field-0 c.text_argument-2.result _ (text_rule (codes "unit")) three c.text_argument-2.ensures refl c.in_ok-arg-4.ensures in
    let five = with_arg c.in_ok-arg-4.field-0 c.in_ok-arg-5.field-0 c.flag_argument.result _ (flag_rule (codes "inclusive")) four c.flag_argument.ensures refl c.in_ok-arg-5.ensures in
    IfOk-weaker c.arg-6.result _ _ (λ r added. with_arg c.in_ok-arg-5.field-0 r c.list_argument.result _ (list_rule (codes "open")) five c.list_argument.ensures refl added) c.arg-6.ensures
