use Rattle.std.proofs.Common.{codes, refl}
use Rattle.std.proofs.lemmas.Result.{IfOk-weaker}
use Rattle.tq_cli.specs.Apps.{text_rule}
use Rattle.tq_cli.proofs.AppLemmas.{with_arg}
use Rattle.tq_cli.proofs.commands.number_arguments.Goals as goal

pub returns : goal.returns
returns c =
    let one = with_arg c.args.command c.in_ok-arg.field-0 c.text_argument.result _ (text_rule (codes "encoding")) refl c.text_argument.ensures refl c.in_ok-arg.ensures in
    let two = with_arg c.in_ok-arg.field-0 c.in_ok-arg-2.field-0 c.text_argument-2.result _ (text_rule (codes "delimiter")) one c.text_argument-2.ensures refl c.in_ok-arg-2.ensures in
    let three = with_arg c.in_ok-arg-2.field-0 c.in_ok-arg-3.field-0 c.text_argument-3.result _ (text_rule (codes "decimal-point")) two c.text_argument-3.ensures refl c.in_ok-arg-3.ensures in
    IfOk-weaker c.arg-4.result _ _ (λ r added. with_arg c.in_ok-arg-3.field-0 r c.text_argument-4.result _ (text_rule (codes "thousands")) three c.text_argument-4.ensures refl added) c.arg-4.ensures
