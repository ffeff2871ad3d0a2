use Rattle.std.proofs.Common.{rules, ap, codes, ◌≡◌, ◌∙◌}
use Rattle.std.proofs.lemmas.Result.{IfOk-weaker}
use Rattle.clap.specs.Words.{app_of, new_app}
use Rattle.tq_cli.specs.Apps.{with_layout, with_question}
use Rattle.tq_cli.proofs.commands.ask_command.Goals as goal

pub returns : goal.returns
returns c =
    let base : app_of c.after_help-command.result ≡ new_app (codes "ask") = search rules in
    let layout = c.in_ok-command.ensures ∙ ap with_layout base in
    IfOk-weaker c.question_arguments.result _ _ (λ r is. is ∙ ap with_question layout) c.question_arguments.ensures
