use Rattle.std.proofs.Common.{rules, codes, refl, ◌≡◌}
use Rattle.std.proofs.lemmas.Result.{IfOk-weaker}
use Rattle.clap.specs.Words.{app_of, new_app}
use Rattle.tq_cli.specs.Apps.{folder_rule}
use Rattle.tq_cli.proofs.AppLemmas.{with_arg}
use Rattle.tq_cli.proofs.commands.merge_command.Goals as goal

pub returns : goal.returns
returns c =
    let base : app_of c.after_help.result ≡ new_app (codes "merge") = search rules in
    IfOk-weaker c.arg.result _ _ (λ r added. with_arg c.after_help.result r c.folder_argument.result _ folder_rule base c.folder_argument.ensures refl added) c.arg.ensures
