use Rattle.std.proofs.Common.{rules, codes, refl, ◌≡◌}
use Rattle.std.proofs.lemmas.Result.{IfOk-weaker}
use Rattle.clap.specs.Words.{app_of, new_app}
use Rattle.tq_cli.specs.Apps.{output_rule, positional_rule, required_rule}
use Rattle.tq_cli.proofs.AppLemmas.{with_arg}
use Rattle.tq_cli.proofs.commands.calendar_command.Goals as goal

pub returns : goal.returns
returns c =
    let base : app_of c.after_help.result ≡ new_app (codes "calendar") = search rules in
    let one = with_arg c.after_help.result c.in_ok-arg.field-0 c.required_argument.result _ (required_rule (codes "by")) base c.required_argument.ensures refl c.in_ok-arg.ensures in
    let two = with_arg c.in_ok-arg.field-0 c.in_ok-arg-2.field-0 c.output_argument.result _ output_rule one c.output_argument.ensures refl c.in_ok-arg-2.ensures in
    let three = with_arg c.in_ok-arg-2.field-0 c.in_ok-arg-3.field-0 c.positional_argument.result _ (positional_rule (codes "start")) two c.positional_argument.ensures refl c.in_ok-arg-3.ensures in
    IfOk-weaker c.arg-4.result _ _ (λ r added. with_arg c.in_ok-arg-3.field-0 r c.positional_argument-2.result _ (positional_rule (codes "end")) three c.positional_argument-2.ensures refl added) c.arg-4.ensures
