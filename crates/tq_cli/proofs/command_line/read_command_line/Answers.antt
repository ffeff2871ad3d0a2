use Rattle.std.proofs.Common.{Err, List, Ok, Option, inl, inr, map, subst}
use Rattle.std.proofs.lemmas.Result.{IfErr-weaker, IfOk-weaker}
use Rattle.std.specs.String.{string_bytes}
use Rattle.clap.specs.Words.{Row, Text}
use Rattle.tq_cli.specs.CommandLine.{IsInvalidRequest, IsRequestOf}
use Rattle.tq_cli.proofs.AppLemmas.{printed_by, refused_by, tq_fails, tq_finds}
use Rattle.tq_cli.proofs.command_line.read_command_line.Goals as goal

pub returns-in-Ok-clause-request : goal.returns-in-Ok-clause-request
returns-in-Ok-clause-request c =
    let words = map (λ w. string_bytes w) c.args.words.now in
    let takes = tq_fails c.in_ok-command.command words (Ok c.in-Ok.matches) c.in_ok-command.ensures c.in-Ok.ensures.kinds in
    let finds = tq_finds c.in_ok-command.command words c.in-Ok.matches c.in_ok-command.ensures c.in-Ok.ensures.matches in
    IfOk-weaker c.read_request.result _ _ (λ request h. inl (takes, subst (λ (sub : Option (Text × List Row)). IsRequestOf sub request) finds h)) c.read_request.ensures.request

pub returns-in-Ok-clause-refused : goal.returns-in-Ok-clause-refused
returns-in-Ok-clause-refused c =
    let words = map (λ w. string_bytes w) c.args.words.now in
    let takes = tq_fails c.in_ok-command.command words (Ok c.in-Ok.matches) c.in_ok-command.ensures c.in-Ok.ensures.kinds in
    let finds = tq_finds c.in_ok-command.command words c.in-Ok.matches c.in_ok-command.ensures c.in-Ok.ensures.matches in
    IfErr-weaker c.read_request.result _ _ (λ e h bad. inr (takes, subst (λ (sub : Option (Text × List Row)). IsInvalidRequest sub) finds (h bad))) c.read_request.ensures.refused

pub returns-in-Err-clause-request : goal.returns-in-Err-clause-request
returns-in-Err-clause-request c =
    let words = map (λ w. string_bytes w) c.args.words.now in
    let fails = tq_fails c.in_ok-command.command words (Err c.in-Err.error) c.in_ok-command.ensures c.in-Err.ensures.kinds in
    IfOk-weaker c.help_or_version.result _ _ (λ request printed. printed_by words c.in-Err.error request fails printed) c.help_or_version.ensures.printed

pub returns-in-Err-clause-refused : goal.returns-in-Err-clause-refused
returns-in-Err-clause-refused c =
    let words = map (λ w. string_bytes w) c.args.words.now in
    let fails = tq_fails c.in_ok-command.command words (Err c.in-Err.error) c.in_ok-command.ensures c.in-Err.ensures.kinds in
    IfErr-weaker c.help_or_version.result _ _ (λ e h bad. refused_by words c.in-Err.error fails (h bad)) c.help_or_version.ensures.refused
