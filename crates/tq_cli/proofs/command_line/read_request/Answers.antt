use Rattle.std.proofs.Common.{rules, inl, inr, ◌≡◌, Some, codes}
use Rattle.std.specs.Box.{box_value}
use Rattle.clap.specs.Words.{found_of, rows_of, subcommand_name_of}
use Rattle.clap.specs.declared.parser.matches.ArgMatches.TheViews.{out-SubCommand}
use Rattle.tq_cli.proofs.RequestLemmas.{named_rows, passed_on}
use Rattle.tq_cli.proofs.command_line.read_request.Goals as goal

pub returns-in_err-read_ask-clause-refused : goal.returns-in_err-read_ask-clause-refused
returns-in_err-read_ask-clause-refused c =
    passed_on c.from_residual.result c.in_err-read_ask.field-0.0 _ c.from_residual.ensures.1
    (λ bad. inl (rows_of (found_of c.in-Some.ask.now), search rules, c.in_err-read_ask.ensures.refused bad))

pub returns-in_err-read_draw-clause-refused : goal.returns-in_err-read_draw-clause-refused
returns-in_err-read_draw-clause-refused c =
    passed_on c.from_residual-in_err-read_draw.result c.in_err-read_draw.field-0.0 _ c.from_residual-in_err-read_draw.ensures.1
    (λ bad. inr (inl (rows_of (found_of c.in-Some-subcommand_matches.draw.now), search rules, c.in_err-read_draw.ensures.refused bad)))

pub returns-in_err-read_total-clause-refused : goal.returns-in_err-read_total-clause-refused
returns-in_err-read_total-clause-refused c =
    passed_on c.from_residual-in_err-read_total.result c.in_err-read_total.field-0.0 _ c.from_residual-in_err-read_total.ensures.1
    (λ bad. inr (inr (inr (inr (inr (inl (rows_of (found_of c.in-Some-subcommand_matches-2.total.now), search rules, c.in_err-read_total.ensures.refused bad)))))))

pub returns-in_err-read_calendar-clause-refused : goal.returns-in_err-read_calendar-clause-refused
returns-in_err-read_calendar-clause-refused c =
    passed_on c.from_residual-in_err-read_calendar.result c.in_err-read_calendar.field-0.0 _ c.from_residual-in_err-read_calendar.ensures.1
    (λ bad. inr (inr (inr (inr (inr (inr (inl (rows_of (found_of c.in-Some-subcommand_matches-3.calendar.now), search rules, c.in_err-read_calendar.ensures.refused bad))))))))

pub returns-in_err-read_check-clause-refused : goal.returns-in_err-read_check-clause-refused
returns-in_err-read_check-clause-refused c =
    passed_on c.from_residual-in_err-read_check.result c.in_err-read_check.field-0.0 _ c.from_residual-in_err-read_check.ensures.1
    (λ bad. inr (inr (inl (rows_of (found_of c.in-Some-subcommand_matches-4.check.now), search rules, c.in_err-read_check.ensures.refused bad))))

pub returns-in_err-read_session-clause-refused : goal.returns-in_err-read_session-clause-refused
returns-in_err-read_session-clause-refused c =
    passed_on c.from_residual-in_err-read_session.result c.in_err-read_session.field-0.0 _ c.from_residual-in_err-read_session.ensures.1
    (λ bad. inr (inr (inr (inl (rows_of (found_of c.in-Some-subcommand_matches-5.session.now), search rules, c.in_err-read_session.ensures.refused bad)))))

pub returns-in_err-read_split-clause-refused : goal.returns-in_err-read_split-clause-refused
returns-in_err-read_split-clause-refused c =
    passed_on c.from_residual-in_err-read_split.result c.in_err-read_split.field-0.0 _ c.from_residual-in_err-read_split.ensures.1
    (λ bad. inr (inr (inr (inr (inl (rows_of (found_of c.in-Some-subcommand_matches-7.split.now), search rules, c.in_err-read_split.ensures.refused bad))))))

pub returns-in-Some-subcommand_matches-6-clause-request : goal.returns-in-Some-subcommand_matches-6-clause-request
returns-in-Some-subcommand_matches-6-clause-request c =
    let named : subcommand_name_of c.args.matches.now ≡ Some (codes "import") = search rules in (
      rows_of (found_of c.in-Some-subcommand_matches-6.import.now),
      named_rows (λ b. (out-SubCommand (box_value b)).name.now) (λ b. rows_of (found_of (out-SubCommand (box_value b)).matches)) _ (codes "import") _ named
          c.in-Some-subcommand_matches-6.ensures.rows,
      c.in_ok-read_import.ensures,
    )
