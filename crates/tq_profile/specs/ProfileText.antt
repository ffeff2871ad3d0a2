-- The lines of a profile. This project's own.
use Rattle.std.specs.Prelude.{nat_eq, ℕ, ℤ, Bool, ◌/◌, ◌||◌, if◌then◌else◌, int_lt, List, [], ◌∷◌, ◌++◌, codes, decimal, Option, None, Some, slice_get}
use Rattle.std.specs.Fmt.{signed_decimal}
use Rattle.std.specs.List.{flat_map}
use Rattle.tq_base.specs.Dates.{digit}
use Rattle.tq_base.specs.Numbers.{instant_text}
use Rattle.tq_base.specs.declared.catalogue.Catalogue.{Catalogue}
use Rattle.tq_base.specs.declared.catalogue.Column.{Column}
use Rattle.tq_base.specs.declared.catalogue.Schema.{Schema}
use Rattle.tq_base.specs.declared.form.Form.{Form}
use Rattle.tq_base.specs.declared.key_range.KeyRange.{KeyRange}
use Rattle.tq_base.specs.declared.period.Period.{Period}
use Rattle.tq_table.specs.Text.{bound_field}
use Rattle.tq_profile.specs.declared.figures.Figures.{Figures}
use Rattle.tq_profile.specs.declared.figures.SourceFigures.{SourceFigures}
use Rattle.tq_profile.specs.declared.figures.QueryFigures.{QueryFigures}
use Rattle.tq_profile.specs.declared.figures.ExceptFigures.{ExceptFigures}
use Rattle.tq_profile.specs.declared.operators.ColumnFigures.{ColumnFigures}
use Rattle.tq_profile.specs.declared.operators.LinkFigures.{LinkFigures}
use Rattle.tq_profile.specs.declared.operators.Operator.{Operator}
use Rattle.tq_profile.specs.declared.operators.Operator.TheVariants as operator
use Rattle.tq_profile.specs.declared.operators.OperatorFigures.{OperatorFigures}
use Rattle.tq_profile.specs.declared.operators.ScanFigures.{ScanFigures}
use Rattle.tq_exec.specs.declared.counters.Division.{Division}
use Rattle.tq_exec.specs.declared.counters.Division.TheVariants as division
use Rattle.tq_profile.specs.declared.profile_text.RunFigures.{RunFigures}
use Rattle.tq_profile.specs.declared.profile_text.TheConstants.{LEAST, GREATEST}

-- the window, as a statement writes it
unfoldable pub window_text : Form → Period → List ℕ
window_text form window =
    codes "  window         [" ++ instant_text form window.start ++ codes " - " ++ bound_field form window.end ++ codes ")\n"

-- from which key on, unless from the least
abbrev pub from_text : ℤ → List ℕ
from_text low = if int_lt LEAST low then codes " from " ++ signed_decimal low else []

-- up to which key, unless to the greatest
abbrev pub to_text : ℤ → List ℕ
to_text high = if int_lt high GREATEST then codes " to " ++ signed_decimal high else []

-- whether some key is none of the range
abbrev pub is_narrow : KeyRange → Bool
is_narrow range = int_lt LEAST range.low || int_lt range.high GREATEST

-- a range of keys, unless it has all
unfoldable pub keys_text : Option KeyRange → List ℕ
keys_text None = codes ", no key passes"
keys_text (Some range) = if is_narrow range then codes ", keys" ++ from_text range.low ++ to_text range.high else []

abbrev pub schema_name : Option Schema → List ℕ
schema_name None = []
schema_name (Some schema) = schema.name

abbrev pub named : Option Column → List ℕ
named None = []
named (Some column) = column.name

-- the name of the table of this number
abbrev pub table_name : Catalogue → ℕ → List ℕ
table_name catalogue table = schema_name (slice_get catalogue.tables table)

-- a number, after its label
unfoldable pub count_text : List ℕ → ℕ → List ℕ
count_text label number = label ++ decimal number ++ codes "\n"

-- milliseconds as seconds, with three digits after the point
unfoldable pub seconds_text : ℕ → List ℕ
seconds_text milliseconds =
    decimal (milliseconds / 1000) ++ 46 ∷ [] ++ digit (milliseconds / 100) ∷ [] ++ digit (milliseconds / 10) ∷ [] ++ digit milliseconds ∷ []

-- how long something took, after its label; nothing if that is not known
unfoldable pub seconds_line : List ℕ → Option ℕ → List ℕ
seconds_line label None = []
seconds_line label (Some milliseconds) = label ++ seconds_text milliseconds ++ codes " s\n"

abbrev pub column_in : Option Schema → ℕ → List ℕ
column_in None column = []
column_in (Some schema) column = named (slice_get schema.columns column)

-- the name of the column of this number in a table
abbrev pub column_name : Catalogue → ColumnFigures → List ℕ
column_name catalogue column = column_in (slice_get catalogue.tables column.table) column.column

-- a column, after its table
unfoldable pub column_text : Catalogue → ColumnFigures → List ℕ
column_text catalogue column = table_name catalogue column.table ++ 46 ∷ [] ++ column_name catalogue column

-- two columns that a join compares by `=`
unfoldable pub link_text : Catalogue → LinkFigures → List ℕ
link_text catalogue link = column_text catalogue link.left ++ codes " = " ++ column_text catalogue link.right ++ codes ", "

-- two spaces for each level of the tree from the second one on, which has four
abbrev pub indent : ℕ → List ℕ
indent depth =
    if nat_eq depth 1 then codes "    "
    else (if nat_eq depth 2 then codes "      "
    else (if nat_eq depth 3 then codes "        "
    else (if nat_eq depth 4 then codes "          "
    else (if nat_eq depth 5 then codes "            "
    else codes "              "))))

-- the number of rows that an operator made, and the end of its line
unfoldable pub rows_text : ℕ → List ℕ
rows_text rows = codes "rows " ++ decimal rows ++ codes ")\n"

-- a column of GROUP BY
unfoldable pub group_text : Catalogue → ColumnFigures → List ℕ
group_text catalogue column = codes "by " ++ column_text catalogue column ++ codes ", "

-- an aggregation and its columns
unfoldable pub aggregate_name : Catalogue → List ColumnFigures → List ℕ
aggregate_name catalogue columns = codes "aggregate  (" ++ flat_map (group_text catalogue) columns

-- an operator and its columns
unfoldable pub operator_name : Catalogue → Operator → List ℕ
operator_name catalogue (operator.Aggregate columns) = aggregate_name catalogue columns
operator_name catalogue operator.Filter = codes "filter  ("
operator_name catalogue (operator.Join links) = codes "join  (" ++ flat_map (link_text catalogue) links

-- the line of an operator
unfoldable pub operator_text : Catalogue → OperatorFigures → List ℕ
operator_text catalogue figures = indent figures.depth ++ operator_name catalogue figures.operator ++ rows_text figures.rows

-- a source: its table, how many rows that has and how many of them are kept, and which keys these have
unfoldable pub source_text : Catalogue → SourceFigures → List ℕ
source_text catalogue source =
    codes "scan " ++ table_name catalogue source.table ++ codes "  (table " ++ decimal source.read ++ codes ", kept " ++ decimal source.kept
    ++ keys_text source.keys ++ codes ", "

-- the line of the scan of a source
unfoldable pub scan_of : Catalogue → ScanFigures → SourceFigures → List ℕ
scan_of catalogue scan source = indent scan.depth ++ source_text catalogue source ++ rows_text scan.rows

-- nothing, if there is no source
abbrev pub scan_if : Catalogue → ScanFigures → Option SourceFigures → List ℕ
scan_if catalogue scan None = []
scan_if catalogue scan (Some source) = scan_of catalogue scan source

-- the line of the scan of one of these sources
unfoldable pub scan_text : Catalogue → List SourceFigures → ScanFigures → List ℕ
scan_text catalogue sources scan = scan_if catalogue scan (slice_get sources scan.source)

-- a query: its operators from the last one down, then its scans
unfoldable pub query_text : Catalogue → QueryFigures → List ℕ
query_text catalogue query =
    flat_map (operator_text catalogue) query.tree.operators ++ flat_map (scan_text catalogue query.sources) query.tree.scans

-- the last operator, whose rows are those of the answer
unfoldable pub coalesce_text : ℕ → List ℕ
coalesce_text rows = codes "  coalesce  (" ++ rows_text rows

-- EXCEPT ALL, if the plan has one
abbrev pub except_text : Option ExceptFigures → List ℕ
except_text None = []
except_text (Some except) = codes "    except all  (" ++ rows_text except.rows

-- the query after it
abbrev pub right_text : Catalogue → Option ExceptFigures → List ℕ
right_text catalogue None = []
right_text catalogue (Some except) = query_text catalogue except.query

-- the operators of the plan as a tree
unfoldable pub tree_text : Catalogue → Figures → List ℕ
tree_text catalogue figures =
    coalesce_text figures.rows ++ except_text figures.right ++ query_text catalogue figures.left ++ right_text catalogue figures.right

-- how the execution was divided
abbrev pub division_text : Division → List ℕ
division_text division.Undivided = codes "one pass"
division_text division.ByValue = codes "by value"
division_text division.InBuckets = codes "by value, in buckets"
division_text division.ByJoinKey = codes "by join key, then by group"
division_text division.ByTime = codes "by time"

-- the end of its line
abbrev pub ranges_text : Bool → List ℕ
ranges_text has_ranges = if has_ranges then codes ", then by ranges of values\n" else codes "\n"

-- the same, in a line
unfoldable pub division_line : RunFigures → List ℕ
division_line run = codes "  partitioning   " ++ division_text run.division ++ ranges_text run.has_ranges

-- what a run reports of itself
unfoldable pub run_text : RunFigures → List ℕ
run_text run =
    count_text (codes "  workers        ") run.workers
    ++ division_line run
    ++ count_text (codes "  pieces         ") run.pieces
    ++ seconds_line (codes "  loading        ") run.loading
    ++ seconds_line (codes "  answering      ") run.answering
    ++ seconds_line (codes "  printing       ") run.printing

-- the figures of a plan, and what the run reports of itself
abbrev pub figures_text : Form → Catalogue → Figures → RunFigures → List ℕ
figures_text form catalogue figures run = window_text form figures.window ++ tree_text catalogue figures ++ run_text run
