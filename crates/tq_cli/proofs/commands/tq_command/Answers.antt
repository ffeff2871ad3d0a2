use Rattle.std.proofs.Common.{refl}
use Rattle.std.proofs.lemmas.Result.{IfOk-weaker}
use Rattle.tq_cli.specs.Apps.{ask_app, calendar_app, check_app, draw_app, import_app, merge_app, session_app, split_app, total_app}
use Rattle.tq_cli.proofs.AppLemmas.{with_settings, with_sub}
use Rattle.tq_cli.proofs.commands.tq_command.Goals as goal

pub returns : goal.returns
returns c =
    let program = c.subcommand_required-program.result in
    let base = with_settings c.new.result c.version.result c.about.result c.after_help.result c.no_binary_name.result c.in_ok-bin_name.field-0 program
    c.new.ensures.app _ c.version.ensures _ c.about.ensures _ c.after_help.ensures c.no_binary_name.ensures c.in_ok-bin_name.ensures.0
    c.subcommand_required-program.ensures in
    let one = with_sub program c.in_ok-ask_command.field-0 c.in_ok-subcommand.field-0 _ ask_app base c.in_ok-ask_command.ensures refl c.in_ok-subcommand.ensures in
    let two = with_sub c.in_ok-subcommand.field-0 c.in_ok-draw_command.field-0 c.in_ok-subcommand-2.field-0 _ draw_app one c.in_ok-draw_command.ensures refl c.in_ok-subcommand-2.ensures in
    let three = with_sub c.in_ok-subcommand-2.field-0 c.in_ok-total_command.field-0 c.in_ok-subcommand-3.field-0 _ total_app two c.in_ok-total_command.ensures refl c.in_ok-subcommand-3.ensures in
    let four = with_sub c.in_ok-subcommand-3.field-0 c.in_ok-calendar_command.field-0 c.in_ok-subcommand-4.field-0 _ calendar_app three c.in_ok-calendar_command.ensures refl c.in_ok-subcommand-4.ensures in
    let five = with_sub c.in_ok-subcommand-4.field-0 c.in_ok-check_command.field-0 c.in_ok-subcommand-5.field-0 _ check_app four c.in_ok-check_command.ensures refl c.in_ok-subcommand-5.ensures in
    let six = with_sub c.in_ok-subcommand-5.field-0 c.in_ok-session_command.field-0 c.in_ok-subcommand-6.field-0 _ session_app five c.in_ok-session_command.ensures refl c.in_ok-subcommand-6.ensures in
    let seven = with_sub c.in_ok-subcommand-6.field-0 c.in_ok-import_command.field-0 c.in_ok-subcommand-7.field-0 _ import_app six c.in_ok-import_command.ensures refl c.in_ok-subcommand-7.ensures in
    let eight = with_sub c.in_ok-subcommand-7.field-0 c.in_ok-split_command.field-0 c.in_ok-subcommand-8.field-0 _ split_app seven c.in_ok-split_command.ensures refl c.in_ok-subcommand-8.ensures in
    IfOk-weaker c.subcommand-9.result _ _ (λ r added. with_sub c.in_ok-subcommand-8.field-0 c.in_ok-merge_command.field-0 r _ merge_app eight c.in_ok-merge_command.ensures refl added) c.subcommand-9.ensures
