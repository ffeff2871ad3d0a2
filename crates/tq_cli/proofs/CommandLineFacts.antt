-- What some command lines ask for, computed.
use Rattle.std.proofs.Common.{◌≡◌, List, [], ◌∷◌, Some, true, false, codes, option_map, refl, None}
use Rattle.tq_report.specs.declared.format.Format.TheVariants.{JsonLines}
use Rattle.clap.specs.Words.{Text, fault_of, subcommand_of}
use Rattle.clap.specs.declared.error.kind.ErrorKind.TheVariants.{DisplayHelp, DisplayVersion, MissingRequiredArgument, MissingSubcommand}
use Rattle.clap.proofs.OnLiterals.{clap_on_literals}
use Rattle.tq_cli.specs.Apps.{tq_app}
use Rattle.tq_cli.specs.CommandLine.{asks_details, decimal_in, format_named, has_statement, is_set, list_of, number_of, table_words, text_of, word_of}

abbrev words : List Text
words = codes "ask" ∷ codes "--table" ∷ codes "a=b" ∷ codes "--table=c=d" ∷ codes "--dates" ∷ codes "VALIDTIME" ∷ []

pub taken : fault_of tq_app words ≡ []
unfolding clap_on_literals
taken = refl

pub statement_found : option_map (λ sub. text_of (codes "statement") sub.1) (subcommand_of tq_app words) ≡ Some (codes "VALIDTIME")
unfolding clap_on_literals
statement_found = refl

pub tables_found : option_map (λ sub. table_words sub.1) (subcommand_of tq_app words) ≡ Some (codes "a=b" ∷ codes "c=d" ∷ [])
unfolding clap_on_literals
tables_found = refl

pub dates_found : option_map (λ sub. is_set (codes "dates") sub.1) (subcommand_of tq_app words) ≡ Some true
unfolding clap_on_literals
dates_found = refl

pub explain_left_out : option_map (λ sub. is_set (codes "explain") sub.1) (subcommand_of tq_app words) ≡ Some false
unfolding clap_on_literals
explain_left_out = refl

pub one_worker : option_map (λ sub. number_of (codes "workers") sub.1) (subcommand_of tq_app words) ≡ Some 1
unfolding clap_on_literals
one_worker = refl

pub workers_found : option_map (λ sub. number_of (codes "workers") sub.1) (subcommand_of tq_app (codes "check" ∷ codes "--workers" ∷ codes "12" ∷ codes "--table=a=b" ∷ [])) ≡ Some 12
unfolding clap_on_literals
workers_found = refl

pub no_command : fault_of tq_app [] ≡ MissingSubcommand ∷ []
unfolding clap_on_literals
no_command = refl

pub no_table : fault_of tq_app (codes "check" ∷ []) ≡ MissingRequiredArgument ∷ []
unfolding clap_on_literals
no_table = refl

pub version : fault_of tq_app (codes "--version" ∷ []) ≡ DisplayVersion ∷ []
unfolding clap_on_literals
version = refl

pub help : fault_of tq_app (codes "draw" ∷ codes "-h" ∷ []) ≡ DisplayHelp ∷ []
unfolding clap_on_literals
help = refl

pub gaps_found : option_map (λ sub. is_set (codes "gaps") sub.1) (subcommand_of tq_app (codes "check" ∷ codes "--gaps" ∷ codes "--table=a=b" ∷ [])) ≡ Some true
unfolding clap_on_literals
gaps_found = refl

pub overlaps_left_out : option_map (λ sub. is_set (codes "overlaps") sub.1) (subcommand_of tq_app (codes "check" ∷ codes "--gaps" ∷ codes "--table=a=b" ∷ [])) ≡ Some false
unfolding clap_on_literals
overlaps_left_out = refl

pub session_explains : option_map (λ sub. is_set (codes "explain") sub.1) (subcommand_of tq_app (codes "session" ∷ codes "--explain" ∷ codes "--table=a=b" ∷ [])) ≡ Some true
unfolding clap_on_literals
session_explains = refl

pub details_are_asked : asks_details (codes "ask" ∷ codes "--worker" ∷ codes "--explain" ∷ []) ≡ true
details_are_asked = refl

pub details_are_not_asked : asks_details (codes "ask" ∷ codes "--" ∷ codes "--explain" ∷ []) ≡ false
details_are_not_asked = refl

pub references_found : option_map (λ sub. list_of (codes "refers") sub.1) (subcommand_of tq_app (codes "check" ∷ codes "--refers=a.b=c.d" ∷ codes "--table=a=b" ∷ codes "--refers" ∷ codes "e.f=g.h" ∷ [])) ≡ Some (codes "a.b=c.d" ∷ codes "e.f=g.h" ∷ [])
unfolding clap_on_literals
references_found = refl

pub format_found : option_map (λ sub. format_named (text_of (codes "format") sub.1)) (subcommand_of tq_app (codes "ask" ∷ codes "--format=jsonl" ∷ codes "--table=a=b" ∷ codes "VALIDTIME" ∷ [])) ≡ Some (Some JsonLines)
unfolding clap_on_literals
format_found = refl

pub csv_is_the_default : option_map (λ sub. text_of (codes "format") sub.1) (subcommand_of tq_app words) ≡ Some (codes "csv")
unfolding clap_on_literals
csv_is_the_default = refl

pub output_found : option_map (λ sub. text_of (codes "output") sub.1) (subcommand_of tq_app (codes "ask" ∷ codes "-o" ∷ codes "x.csv" ∷ codes "--table=a=b" ∷ codes "VALIDTIME" ∷ [])) ≡ Some (codes "x.csv")
unfolding clap_on_literals
output_found = refl

pub file_is_a_statement : option_map (λ sub. has_statement sub.1) (subcommand_of tq_app (codes "draw" ∷ codes "--statement-file=q.sql" ∷ codes "--table=a=b" ∷ [])) ≡ Some true
unfolding clap_on_literals
file_is_a_statement = refl

pub two_statements : option_map (λ sub. has_statement sub.1) (subcommand_of tq_app (codes "draw" ∷ codes "--statement-file=q.sql" ∷ codes "--table=a=b" ∷ codes "VALIDTIME" ∷ [])) ≡ Some false
unfolding clap_on_literals
two_statements = refl

pub sums_found : option_map (λ sub. list_of (codes "sum") sub.1) (subcommand_of tq_app (codes "total" ∷ codes "--sum=a" ∷ codes "--table=a=b" ∷ codes "--sum" ∷ codes "b" ∷ codes "VALIDTIME" ∷ [])) ≡ Some (codes "a" ∷ codes "b" ∷ [])
unfolding clap_on_literals
sums_found = refl

pub calendar_end : option_map (λ sub. word_of (codes "end") sub.1) (subcommand_of tq_app (codes "calendar" ∷ codes "--by" ∷ codes "month" ∷ codes "2024-01-01" ∷ codes "2025-01-01" ∷ [])) ≡ Some (codes "2025-01-01")
unfolding clap_on_literals
calendar_end = refl

pub two_places : decimal_in (codes "pay=2") ≡ Some (codes "pay", 2)
two_places = refl

pub too_many_places : decimal_in (codes "pay=19") ≡ None
too_many_places = refl

pub name_up_to_the_first_sign : decimal_in (codes "a=b=2") ≡ None
name_up_to_the_first_sign = refl
