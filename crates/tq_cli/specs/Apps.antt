-- The command line that clap reads. (This project's own.)
use Rattle.std.specs.Prelude.{[], ◌∷◌, Some, codes, pos, true}
use Rattle.clap.specs.Words.{App, Rule, Text, new_app, new_rule, with_rule, with_subcommand}
use Rattle.clap.specs.declared.builder.ArgAction.TheVariants.{Append, SetTrue}
use Rattle.clap.specs.declared.builder.value_parser.ValueParser.TheVariants.{Signed}

abbrev pub flag_rule : Text → Rule
flag_rule name = record (new_rule name) { long = Some name; action = Some SetTrue }

abbrev pub number_rule : Text → Text → Rule
number_rule name default = record (new_rule name) {
  long = Some name;
  value_names = 1;
  parser = Some (Signed (pos 0) (pos 4294967295));
  defaults = default ∷ [];
}

abbrev pub text_rule : Text → Rule
text_rule name = record (new_rule name) { long = Some name; value_names = 1 }

abbrev pub required_rule : Text → Rule
required_rule name = record (new_rule name) { long = Some name; value_names = 1; required = true }

abbrev pub list_rule : Text → Rule
list_rule name = record (new_rule name) { long = Some name; value_names = 1; action = Some Append }

abbrev pub table_rule : Rule
table_rule = record (new_rule (codes "table")) {
  long = Some (codes "table");
  value_names = 1;
  required = true;
  action = Some Append;
}

abbrev pub statement_rule : Rule
statement_rule = record (new_rule (codes "statement")) { value_names = 1 }

abbrev pub positional_rule : Text → Rule
positional_rule name = record (new_rule name) { value_names = 1; required = true }

abbrev pub path_rule : Rule
path_rule = positional_rule (codes "file")

abbrev pub output_rule : Rule
output_rule = record (new_rule (codes "output")) { long = Some (codes "output"); short = Some 111; value_names = 1 }

abbrev pub order_rule : Rule
order_rule = record (new_rule (codes "order")) {
  long = Some (codes "order");
  value_names = 1;
  defaults = codes "values" ∷ [];
}

abbrev pub workers_rule : Rule
workers_rule = number_rule (codes "workers") (codes "1")

abbrev pub width_rule : Rule
width_rule = number_rule (codes "width") (codes "80")

abbrev pub svg_rule : Rule
svg_rule = flag_rule (codes "svg")

abbrev pub html_rule : Rule
html_rule = flag_rule (codes "html")

abbrev pub window_rule : Rule
window_rule = text_rule (codes "window")

abbrev pub dates_rule : Rule
dates_rule = flag_rule (codes "dates")

abbrev pub explain_rule : Rule
explain_rule = flag_rule (codes "explain")

abbrev pub overlaps_rule : Rule
overlaps_rule = flag_rule (codes "overlaps")

abbrev pub gaps_rule : Rule
gaps_rule = flag_rule (codes "gaps")

abbrev pub refers_rule : Rule
refers_rule = list_rule (codes "refers")

abbrev pub with_question : App → App
with_question app = with_rule (with_rule (with_rule (with_rule (with_rule (with_rule (with_rule app table_rule) dates_rule)
    explain_rule) workers_rule) (text_rule (codes "statement-file"))) output_rule) statement_rule

abbrev pub format_rule : Rule
format_rule = record (new_rule (codes "format")) {
  long = Some (codes "format");
  value_names = 1;
  defaults = codes "csv" ∷ [];
}

abbrev pub with_layout : App → App
with_layout app = with_rule (with_rule (with_rule (with_rule (with_rule (with_rule app format_rule) (flag_rule (codes "pretty"))) order_rule)
    (flag_rule (codes "inclusive"))) (list_rule (codes "decimal"))) (flag_rule (codes "typed"))

abbrev pub ask_app : App
ask_app = with_question (with_layout (new_app (codes "ask")))

abbrev pub total_app : App
total_app = with_question (with_rule (with_rule (with_rule (new_app (codes "total")) (list_rule (codes "by"))) (list_rule (codes "sum"))) (list_rule (codes "decimal")))

abbrev pub calendar_app : App
calendar_app =
    with_rule (with_rule (with_rule (with_rule (new_app (codes "calendar")) (required_rule (codes "by"))) output_rule)
    (positional_rule (codes "start"))) (positional_rule (codes "end"))

abbrev pub draw_app : App
draw_app = with_question (with_rule (with_rule (with_rule (with_rule (new_app (codes "draw")) width_rule) svg_rule) html_rule) window_rule)

abbrev pub check_app : App
check_app =
    with_rule (with_rule (with_rule (with_rule (with_rule (with_rule (with_rule (new_app (codes "check")) table_rule) dates_rule)
    explain_rule) workers_rule) overlaps_rule) gaps_rule) refers_rule

abbrev pub session_app : App
session_app = with_rule (with_rule (with_rule (new_app (codes "session")) table_rule) dates_rule) explain_rule

abbrev pub with_period : App → App
with_period app =
    with_rule (with_rule (with_rule (with_rule (with_rule (with_rule app (required_rule (codes "from"))) (required_rule (codes "to")))
    (text_rule (codes "date-format"))) (text_rule (codes "unit"))) (flag_rule (codes "inclusive"))) (list_rule (codes "open"))

abbrev pub with_columns : App → App
with_columns app =
    with_rule (with_rule (with_rule (with_rule (with_rule (with_rule (with_rule (with_rule app (text_rule (codes "key"))) (flag_rule (codes "number")))
    (text_rule (codes "columns"))) (text_rule (codes "without"))) (list_rule (codes "rename"))) (list_rule (codes "decimal")))
    (list_rule (codes "int"))) (list_rule (codes "text"))

abbrev pub with_numbers : App → App
with_numbers app =
    with_rule (with_rule (with_rule (with_rule app (text_rule (codes "encoding"))) (text_rule (codes "delimiter"))) (text_rule (codes "decimal-point")))
    (text_rule (codes "thousands"))

abbrev pub import_app : App
import_app =
    with_rule (with_rule (with_rule (with_rule (with_rule (with_columns (with_period (with_numbers (new_app (codes "import")))))
    output_rule) (flag_rule (codes "all"))) (text_rule (codes "skip-invalid"))) explain_rule) path_rule

abbrev pub parts_rule : Rule
parts_rule = number_rule (codes "parts") (codes "4")

abbrev pub folder_rule : Rule
folder_rule = positional_rule (codes "folder")

abbrev pub split_app : App
split_app =
    with_rule (with_rule (with_rule (with_rule (with_rule (with_rule (with_rule (new_app (codes "split")) parts_rule)
    (required_rule (codes "out"))) table_rule) dates_rule) explain_rule) (text_rule (codes "statement-file"))) statement_rule

abbrev pub merge_app : App
merge_app = with_rule (new_app (codes "merge")) folder_rule

-- The program itself: its words begin after its name, it has a version, and a subcommand is required.
abbrev pub program_app : App
program_app = record (new_app (codes "tq")) {
  top = record (new_app (codes "tq")).top {
    has_version = true;
    no_binary_name = true;
    subcommand_required = true;
  };
}

-- The whole command line of tq.
abbrev pub tq_app : App
tq_app =
    with_subcommand (with_subcommand (with_subcommand (with_subcommand (with_subcommand (with_subcommand (with_subcommand (with_subcommand
    (with_subcommand program_app ask_app.top) draw_app.top) total_app.top) calendar_app.top) check_app.top) session_app.top) import_app.top)
    split_app.top) merge_app.top
