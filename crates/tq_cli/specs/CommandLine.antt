-- What the words of a command line ask for. (This project's own.)
use Rattle.std.specs.Prelude.{ℕ, Bool, List, [], ◌∷◌, ◌++◌, ◌≡◌, ◌≢◌, ◌⊎◌, ◌&&◌, ◌||◌, ◌<◌, ◌≤◌, ◌^◌, ◌==◌, Option, Some, None, is_some, map, option_map, unwrap_or, length, count_by, nat_lt, not, if◌then◌else◌, codes, Contains, true, false}
use Rattle.std.specs.List.{All, Any, after_first, before_first, list_all, list_any}
use Rattle.std.specs.Option.{option_map_or}
use Rattle.std.specs.Str.{bytes_eq, chars}
use Rattle.std.specs.Char.{digit_value}
use Rattle.std.specs.Str.Parse.{digits_value, without_leading_plus}
use Rattle.clap.specs.Words.{IsAmong, Row, Text, all_of, fault_of, first_of, one_of, subcommand_of}
use Rattle.clap.specs.declared.error.kind.ErrorKind.{ErrorKind}
use Rattle.clap.specs.declared.error.kind.ErrorKind.TheVariants.{DisplayHelp, DisplayVersion, OutOfMemory}
use Rattle.tq_base.specs.declared.form.Form.{Form}
use Rattle.tq_base.specs.declared.form.Form.TheVariants.{Numbers, Dates}
use Rattle.tq_base.specs.declared.period.Period.{Period}
use Rattle.tq_base.specs.Numbers.{instant_of, natural_up_to}
use Rattle.tq_cli.specs.Apps.{tq_app}
use Rattle.tq_cli.specs.ByteText.{byte_of}
use Rattle.tq_cli.specs.declared.request.TableOption.{TableOption}
use Rattle.tq_cli.specs.declared.request.QuestionRequest.{QuestionRequest}
use Rattle.tq_cli.specs.declared.request.AskRequest.{AskRequest}
use Rattle.tq_cli.specs.declared.request.LayoutRequest.{LayoutRequest}
use Rattle.tq_cli.specs.declared.request.DecimalOption.{DecimalOption}
use Rattle.tq_cli.specs.declared.request.TotalRequest.{TotalRequest}
use Rattle.tq_cli.specs.declared.request.CalendarRequest.{CalendarRequest}
use Rattle.tq_cli.specs.declared.request.DrawRequest.{DrawRequest}
use Rattle.tq_cli.specs.declared.request.PictureFormat.{PictureFormat}
use Rattle.tq_cli.specs.declared.request.PictureFormat.TheVariants.{Html, Svg, Text as Plain}
use Rattle.tq_cli.specs.declared.request.CheckRequest.{CheckRequest}
use Rattle.tq_cli.specs.declared.request.SessionRequest.{SessionRequest}
use Rattle.tq_cli.specs.declared.request.ImportRequest.{ImportRequest}
use Rattle.tq_cli.specs.declared.request.SplitRequest.{SplitRequest}
use Rattle.tq_cli.specs.declared.request.MergeRequest.{MergeRequest}
use Rattle.tq_import.specs.declared.words.ColumnWords.{ColumnWords}
use Rattle.tq_import.specs.declared.words.ImportWords.{ImportWords}
use Rattle.tq_import.specs.declared.words.PeriodWords.{PeriodWords}
use Rattle.tq_report.specs.declared.format.Format.{Format}
use Rattle.tq_report.specs.declared.format.Format.TheVariants.{Aligned, Csv, Json, JsonLines, Markdown, Tsv}
use Rattle.tq_totals.specs.declared.unit.Unit.{Unit}
use Rattle.tq_totals.specs.declared.unit.Unit.TheVariants.{Month, Quarter, Year}
use Rattle.tq_cli.specs.declared.request.Request.{Request}
use Rattle.tq_cli.specs.declared.request.Request.TheVariants.{Print, Ask, Draw, Total, Calendar, Check, Session, Import, Split, Merge}

-- The word of a table: its name, an equals sign, its path.
abbrev pub option_word : TableOption → List ℕ
option_word table = table.name.items ++ 61 ∷ table.path.items

-- The bytes of a word.
abbrev pub bytes_in : Text → List ℕ
bytes_in text = map byte_of (chars text)

-- ---- the values of one command, as the rows that clap found

-- The value of an argument, as text; empty if it has none.
abbrev pub text_of : Text → List Row → Text
text_of id rows = unwrap_or (first_of id rows) []

-- The values of --table, as bytes, in the order of the words.
abbrev pub table_words : List Row → List (List ℕ)
table_words rows = map bytes_in (unwrap_or (all_of (codes "table") rows) [])

-- An argument was given, and below, one that is not empty.
abbrev pub is_given : Text → List Row → Bool
is_given id rows = is_some (first_of id rows)

abbrev pub is_named : Text → List Row → Bool
is_named id rows = nat_lt 0 (length (text_of id rows))

-- A flag was given.
abbrev pub is_set : Text → List Row → Bool
is_set id rows = option_map_or (λ text. bytes_eq text (codes "true")) (one_of id rows) false

-- The number that a text writes in decimal digits, below 2^32; 0 if it writes none.
abbrev pub number_in : Text → ℕ
number_in text =
    let digits = without_leading_plus text in
    if nat_lt 0 (length digits) && list_all (λ d. nat_lt (digit_value d) 10) digits
    && nat_lt (digits_value 10 digits) (2 ^ 32) then digits_value 10 digits else 0

-- The number of an argument; 0 if it has none.
abbrev pub number_of : Text → List Row → ℕ
number_of id rows = option_map_or number_in (one_of id rows) 0

abbrev pub form_of : List Row → Form
form_of rows = if is_set (codes "dates") rows then Dates else Numbers

-- ---- what is asked

-- The tables of the words, in their order. A name ends at the first equals sign of its word.
abbrev pub IsTablesOf : List (List ℕ) → List TableOption → Type 0
IsTablesOf words tables = (map option_word tables ≡ words)
    × All (λ t. ¬ (Contains t.name.items 61)) tables

-- How many of the tables are read from standard input, whose path is `-`.
abbrev pub stdin_count : List TableOption → ℕ
stdin_count tables = count_by (λ t. bytes_eq t.path.items (45 ∷ [])) tables

-- The tables of a command of which at most n may be read from standard input.
abbrev pub IsTablesUpTo : ℕ → List Row → List TableOption → Type 0
IsTablesUpTo n rows tables = IsTablesOf (table_words rows) tables × (stdin_count tables ≤ n)

-- The bytes of each value of an argument, in the order of the words.
abbrev pub list_of : Text → List Row → List (List ℕ)
list_of id rows = map bytes_in (unwrap_or (all_of id rows) [])

-- The bytes of an argument; empty if it has none.
abbrev pub word_of : Text → List Row → List ℕ
word_of id rows = bytes_in (text_of id rows)

-- A statement is given, or the path of its file, and not both.
abbrev pub has_statement : List Row → Bool
has_statement rows =
    if is_named (codes "statement-file") rows then not (is_given (codes "statement") rows) else is_given (codes "statement") rows

pub record IsQuestionOf (rows : List Row) (question : QuestionRequest) : Type 0 where
  pub tables : IsTablesUpTo 1 rows question.tables.items
  pub workers : question.workers ≡ number_of (codes "workers") rows
  pub form : question.form ≡ form_of rows
  pub statement : question.statement.items ≡ word_of (codes "statement") rows
  pub statement_file : question.statement_file.items ≡ word_of (codes "statement-file") rows
  pub one : has_statement rows ≡ true
  pub output : question.output.items ≡ word_of (codes "output") rows
  pub explain : question.explain ≡ is_set (codes "explain") rows

-- The format with a name.
abbrev pub format_named : Text → Option Format
format_named name =
    if bytes_eq name (codes "csv") then Some Csv
    else (if bytes_eq name (codes "table") then Some Aligned
    else (if bytes_eq name (codes "markdown") then Some Markdown
    else (if bytes_eq name (codes "tsv") then Some Tsv
    else (if bytes_eq name (codes "json") then Some Json
    else (if bytes_eq name (codes "jsonl") then Some JsonLines else None)))))

-- Whether the order with a name is that of time.
abbrev pub order_named : Text → Option Bool
order_named name =
    if bytes_eq name (codes "time") then Some true else (if bytes_eq name (codes "values") then Some false else None)

abbrev pub is_equals : ℕ → Bool
is_equals byte = byte == 61

-- The column of amounts that a word names, NAME=PLACES: the name ends at the first equals sign, and after it are the digits of
-- a number up to 18. None if the word has another form.
abbrev pub decimal_in : List ℕ → Option (List ℕ × ℕ)
decimal_in word =
    if list_any is_equals word
    then option_map (λ places. (before_first is_equals word, places)) (natural_up_to 18 (after_first is_equals word))
    else None

-- The columns of amounts that the words name, in their order.
abbrev pub AreDecimalsOf : List (List ℕ) → List DecimalOption → Type 0
AreDecimalsOf words decimals = map (λ (d : DecimalOption). Some (d.name.items, d.places)) decimals ≡ map decimal_in words

pub record IsLayoutOf (rows : List Row) (layout : LayoutRequest) : Type 0 where
  pub format : Some layout.format ≡ format_named (text_of (codes "format") rows)
  pub pretty : layout.pretty ≡ is_set (codes "pretty") rows
  pub order : Some layout.by_time ≡ order_named (text_of (codes "order") rows)
  pub inclusive : layout.inclusive ≡ is_set (codes "inclusive") rows
  pub decimals : AreDecimalsOf (list_of (codes "decimal") rows) layout.decimals.items
  pub typed : layout.typed ≡ is_set (codes "typed") rows

abbrev pub is_csv : Format → Bool
is_csv Csv = true
is_csv _ = false

-- An answer is written otherwise than in the CSV of tables.
abbrev pub is_changed : LayoutRequest → Bool
is_changed layout =
    not (is_csv layout.format) || (layout.pretty || (layout.inclusive || nat_lt 0 (length layout.decimals.items)))

-- A table file is written in the CSV of tables.
pub record IsAskOf (rows : List Row) (ask : AskRequest) : Type 0 where
  pub question : IsQuestionOf rows ask.question
  pub layout : IsLayoutOf rows ask.layout
  pub alone : (ask.layout.typed && is_changed ask.layout) ≡ false

-- The parts of a word before and after its first comma.
pub record ArePartsOf (word start end : List ℕ) : Type 0 where
  pub split : word ≡ start ++ 44 ∷ end
  pub first : ¬ (Contains start 44)

-- The parts are the instants of a period.
pub record ArePeriodWords (form : Form) (first last : List ℕ) (period : Period) : Type 0 where
  pub start : instant_of form first ≡ Some period.start
  pub end : instant_of form last ≡ Some period.end

-- The word is the start and the end of a window, with a comma between them.
pub record IsWindow (form : Form) (word : List ℕ) (window : Period) : Type 0 where
  pub start : List ℕ
  pub end : List ℕ
  pub parts : ArePartsOf word start end
  pub period : ArePeriodWords form start end window

-- The window of a picture, if one is given.
abbrev pub IsWindowOf : List Row → Option Period → Type 0
IsWindowOf rows None = is_given (codes "window") rows ≡ false
IsWindowOf rows (Some window) = (is_given (codes "window") rows ≡ true) × IsWindow (form_of rows) (word_of (codes "window") rows) window

-- The format of a picture; none if two are asked for.
abbrev pub picture_format : Bool → Bool → Option PictureFormat
picture_format false false = Some Plain
picture_format true false = Some Svg
picture_format false true = Some Html
picture_format true true = None

-- The format that the flags of a command ask for.
abbrev pub picture_format_of : List Row → Option PictureFormat
picture_format_of rows = picture_format (is_set (codes "svg") rows) (is_set (codes "html") rows)

pub record IsDrawOf (rows : List Row) (draw : DrawRequest) : Type 0 where
  pub question : IsQuestionOf rows draw.question
  pub width : draw.width ≡ number_of (codes "width") rows
  pub format : Some draw.format ≡ picture_format_of rows
  pub window : IsWindowOf rows draw.window

pub record IsTotalOf (rows : List Row) (total : TotalRequest) : Type 0 where
  pub question : IsQuestionOf rows total.question
  pub by : map (λ w. w.items) total.by.items ≡ list_of (codes "by") rows
  pub sums : map (λ w. w.items) total.sums.items ≡ list_of (codes "sum") rows
  pub some : 0 < length total.sums.items
  pub decimals : AreDecimalsOf (list_of (codes "decimal") rows) total.decimals.items

-- The unit with a name.
abbrev pub unit_named : Text → Option Unit
unit_named name =
    if bytes_eq name (codes "month") then Some Month
    else (if bytes_eq name (codes "quarter") then Some Quarter else (if bytes_eq name (codes "year") then Some Year else None))

pub record IsCalendarOf (rows : List Row) (calendar : CalendarRequest) : Type 0 where
  pub unit : Some calendar.unit ≡ unit_named (text_of (codes "by") rows)
  pub start : Some calendar.start ≡ instant_of Dates (word_of (codes "start") rows)
  pub end : Some calendar.end ≡ instant_of Dates (word_of (codes "end") rows)
  pub output : calendar.output.items ≡ word_of (codes "output") rows

pub record IsCheckOf (rows : List Row) (check : CheckRequest) : Type 0 where
  pub tables : IsTablesUpTo 1 rows check.tables.items
  pub workers : check.workers ≡ number_of (codes "workers") rows
  pub form : check.form ≡ form_of rows
  pub explain : check.explain ≡ is_set (codes "explain") rows
  pub overlaps : check.overlaps ≡ is_set (codes "overlaps") rows
  pub gaps : check.gaps ≡ is_set (codes "gaps") rows
  pub references : map (λ w. w.items) check.references.items ≡ list_of (codes "refers") rows

pub record IsSessionOf (rows : List Row) (session : SessionRequest) : Type 0 where
  pub tables : IsTablesUpTo 0 rows session.tables.items
  pub form : session.form ≡ form_of rows
  pub explain : session.explain ≡ is_set (codes "explain") rows

pub record IsPeriodOf (rows : List Row) (period : PeriodWords) : Type 0 where
  pub from : period.from.items ≡ word_of (codes "from") rows
  pub to : period.to.items ≡ word_of (codes "to") rows
  pub format : period.format.items ≡ word_of (codes "date-format") rows
  pub unit : period.unit.items ≡ word_of (codes "unit") rows
  pub inclusive : period.inclusive ≡ is_set (codes "inclusive") rows
  pub spellings : map (λ w. w.items) period.open.items ≡ list_of (codes "open") rows

pub record AreColumnsOf (rows : List Row) (columns : ColumnWords) : Type 0 where
  pub key : columns.key.items ≡ word_of (codes "key") rows
  pub numbered : columns.numbered ≡ is_set (codes "number") rows
  pub only : columns.only.items ≡ word_of (codes "columns") rows
  pub without : columns.without.items ≡ word_of (codes "without") rows
  pub renames : map (λ w. w.items) columns.renames.items ≡ list_of (codes "rename") rows
  pub decimals : map (λ w. w.items) columns.decimals.items ≡ list_of (codes "decimal") rows
  pub ints : map (λ w. w.items) columns.ints.items ≡ list_of (codes "int") rows
  pub texts : map (λ w. w.items) columns.texts.items ≡ list_of (codes "text") rows

pub record AreWordsOf (rows : List Row) (words : ImportWords) : Type 0 where
  pub encoding : words.encoding.items ≡ word_of (codes "encoding") rows
  pub delimiter : words.delimiter.items ≡ word_of (codes "delimiter") rows
  pub period : IsPeriodOf rows words.period
  pub columns : AreColumnsOf rows words.columns
  pub point : words.point.items ≡ word_of (codes "decimal-point") rows
  pub thousands : words.thousands.items ≡ word_of (codes "thousands") rows

pub record IsImportOf (rows : List Row) (request : ImportRequest) : Type 0 where
  pub path : request.path.items ≡ word_of (codes "file") rows
  pub output : request.output.items ≡ word_of (codes "output") rows
  pub all : request.all ≡ is_set (codes "all") rows
  pub rejected : request.rejected.items ≡ word_of (codes "skip-invalid") rows
  pub explain : request.explain ≡ is_set (codes "explain") rows
  pub words : AreWordsOf rows request.words

-- The statement and the folder are those of their arguments; the number of parts is checked besides.
pub record IsSplitOf (rows : List Row) (request : SplitRequest) : Type 0 where
  pub tables : IsTablesUpTo 0 rows request.tables.items
  pub parts : request.parts ≡ number_of (codes "parts") rows
  pub form : request.form ≡ form_of rows
  pub statement : request.statement.items ≡ word_of (codes "statement") rows
  pub statement_file : request.statement_file.items ≡ word_of (codes "statement-file") rows
  pub one : has_statement rows ≡ true
  pub output : request.output.items ≡ word_of (codes "out") rows
  pub explain : request.explain ≡ is_set (codes "explain") rows

abbrev pub IsMergeOf : List Row → MergeRequest → Type 0
IsMergeOf rows request = request.folder.items ≡ word_of (codes "folder") rows

-- The subcommand of a command line has this name, and its rows pass.
abbrev pub Names : Text → (List Row → Type 0) → Option (Text × List Row) → Type 0
Names name Passes sub = (rows : List Row) × (sub ≡ Some (name, rows)) × Passes rows

-- The request is what the subcommand asks for.
abbrev pub IsRequestOf : Option (Text × List Row) → Request → Type 0
IsRequestOf sub (Print text) = ⊥
IsRequestOf sub (Ask ask) = Names (codes "ask") (λ rows. IsAskOf rows ask) sub
IsRequestOf sub (Draw draw) = Names (codes "draw") (λ rows. IsDrawOf rows draw) sub
IsRequestOf sub (Total total) = Names (codes "total") (λ rows. IsTotalOf rows total) sub
IsRequestOf sub (Calendar calendar) = Names (codes "calendar") (λ rows. IsCalendarOf rows calendar) sub
IsRequestOf sub (Check check) = Names (codes "check") (λ rows. IsCheckOf rows check) sub
IsRequestOf sub (Session session) = Names (codes "session") (λ rows. IsSessionOf rows session) sub
IsRequestOf sub (Import request) = Names (codes "import") (λ rows. IsImportOf rows request) sub
IsRequestOf sub (Split request) = Names (codes "split") (λ rows. IsSplitOf rows request) sub
IsRequestOf sub (Merge request) = Names (codes "merge") (λ rows. IsMergeOf rows request) sub

-- ---- whether details are asked for

-- The words have `--explain` before any `--`. So clap's message for a refused command line is printed.
abbrev pub asks_details : List Text → Bool
asks_details [] = false
asks_details (word ∷ words) = if bytes_eq word (codes "--") then false else (bytes_eq word (codes "--explain") || asks_details words)

-- ---- what is refused although clap takes it

-- A value of --table has no equals sign, or more than n tables are read from standard input.
abbrev pub HasInvalidTables : ℕ → List Row → Type 0
HasInvalidTables n rows = Any (λ word. ¬ (Contains word 61)) (table_words rows)
    ⊎ ((tables : List TableOption) × IsTablesOf (table_words rows) tables × (n < stdin_count tables))

-- The number of workers is not 1 to 16.
abbrev pub HasInvalidWorkers : List Row → Type 0
HasInvalidWorkers rows =
    (number_of (codes "workers") rows < 1) ⊎ (16 < number_of (codes "workers") rows)

-- The number of parts is not 1 to 1,000.
abbrev pub HasInvalidParts : List Row → Type 0
HasInvalidParts rows = (number_of (codes "parts") rows < 1) ⊎ (1000 < number_of (codes "parts") rows)

abbrev pub HasInvalidStatement : List Row → Type 0
HasInvalidStatement rows = has_statement rows ≡ false

abbrev pub IsInvalidSplit : List Row → Type 0
IsInvalidSplit rows = HasInvalidTables 0 rows ⊎ (HasInvalidParts rows ⊎ HasInvalidStatement rows)

abbrev pub IsInvalidTables : List Row → Type 0
IsInvalidTables rows = HasInvalidTables 1 rows ⊎ HasInvalidWorkers rows

abbrev pub IsInvalidQuestion : List Row → Type 0
IsInvalidQuestion rows = IsInvalidTables rows ⊎ HasInvalidStatement rows

-- The name of the format is none of the six, that of the order neither `values` nor `time`, or a word names no column of
-- amounts.
abbrev pub HasInvalidDecimals : List Row → Type 0
HasInvalidDecimals rows = Any (λ word. decimal_in word ≡ None) (list_of (codes "decimal") rows)

abbrev pub IsInvalidLayout : List Row → Type 0
IsInvalidLayout rows = (format_named (text_of (codes "format") rows) ≡ None)
    ⊎ ((order_named (text_of (codes "order") rows) ≡ None) ⊎ HasInvalidDecimals rows)

-- A table file is to be written in another way than the CSV of tables.
abbrev pub IsTypedOtherwise : List Row → Type 0
IsTypedOtherwise rows = (layout : LayoutRequest) × IsLayoutOf rows layout × ((layout.typed && is_changed layout) ≡ true)

abbrev pub IsInvalidAsk : List Row → Type 0
IsInvalidAsk rows = IsInvalidQuestion rows ⊎ (IsInvalidLayout rows ⊎ IsTypedOtherwise rows)

-- A picture has no width.
abbrev pub HasInvalidWidth : List Row → Type 0
HasInvalidWidth rows = number_of (codes "width") rows ≡ 0

-- The parts are not the instants of a period, the earlier one first.
abbrev pub AreNoPeriod : Form → List ℕ → List ℕ → Type 0
AreNoPeriod form start end = (instant_of form start ≡ None)
    ⊎ ((instant_of form end ≡ None)
    ⊎ ((s e : ℕ) × (instant_of form start ≡ Some s) × (instant_of form end ≡ Some e) × ¬ (s < e)))

-- The word has no comma, or its parts are no period.
abbrev pub IsNoWindow : Form → List ℕ → Type 0
IsNoWindow form word = ¬ (Contains word 44) ⊎ ((start end : List ℕ) × ArePartsOf word start end × AreNoPeriod form start end)

abbrev pub HasInvalidWindow : List Row → Type 0
HasInvalidWindow rows = (is_given (codes "window") rows ≡ true) × IsNoWindow (form_of rows) (word_of (codes "window") rows)

abbrev pub IsInvalidDraw : List Row → Type 0
IsInvalidDraw rows = IsInvalidQuestion rows
    ⊎ (HasInvalidWidth rows ⊎ ((picture_format_of rows ≡ None) ⊎ HasInvalidWindow rows))

-- No column is summed, or a word names no column of amounts.
abbrev pub IsInvalidTotal : List Row → Type 0
IsInvalidTotal rows = IsInvalidQuestion rows ⊎ ((list_of (codes "sum") rows ≡ []) ⊎ HasInvalidDecimals rows)

-- The name of the unit is none of the three, or a date is none.
abbrev pub IsInvalidCalendar : List Row → Type 0
IsInvalidCalendar rows = (unit_named (text_of (codes "by") rows) ≡ None)
    ⊎ ((instant_of Dates (word_of (codes "start") rows) ≡ None) ⊎ (instant_of Dates (word_of (codes "end") rows) ≡ None))

-- The subcommand has invalid values, or is none of the nine.
abbrev pub IsInvalidRequest : Option (Text × List Row) → Type 0
IsInvalidRequest sub = Names (codes "ask") IsInvalidAsk sub
    ⊎ (Names (codes "draw") IsInvalidDraw sub
    ⊎ (Names (codes "check") IsInvalidTables sub
    ⊎ (Names (codes "session") (HasInvalidTables 0) sub
    ⊎ (Names (codes "split") IsInvalidSplit sub
    ⊎ (Names (codes "total") IsInvalidTotal sub
    ⊎ (Names (codes "calendar") IsInvalidCalendar sub
    ⊎ All (λ name. option_map (λ p. p.0) sub ≢ Some name)
    (codes "ask" ∷ codes "draw" ∷ codes "total" ∷ codes "calendar" ∷ codes "check" ∷ codes "session" ∷ codes "import" ∷ codes "split" ∷ codes "merge" ∷ [])))))))

-- ---- the result for the words after the program's name

-- Help or a version is printed.
abbrev pub IsPrintOf : ErrorKind → Request → Type 0
IsPrintOf fault (Print text) = (fault ≡ DisplayHelp) ⊎ (fault ≡ DisplayVersion)
IsPrintOf fault _ = ⊥

-- A fault of clap that is neither help, nor a version, nor a failed allocation.
abbrev pub IsUsageFault : ErrorKind → Type 0
IsUsageFault fault = (fault ≢ DisplayHelp) × (fault ≢ DisplayVersion) × (fault ≢ OutOfMemory)

-- The request that the words make: what their subcommand asks for, or what clap prints for them.
abbrev pub IsRequestIn : List Text → Request → Type 0
IsRequestIn words request = ((fault_of tq_app words ≡ []) × IsRequestOf (subcommand_of tq_app words) request)
    ⊎ ((fault : ErrorKind) × IsAmong fault (fault_of tq_app words) × IsPrintOf fault request)

-- The words are invalid: to clap, or in the values of their subcommand.
abbrev pub IsInvalid : List Text → Type 0
IsInvalid words = ((fault : ErrorKind) × IsAmong fault (fault_of tq_app words) × IsUsageFault fault)
    ⊎ ((fault_of tq_app words ≡ []) × IsInvalidRequest (subcommand_of tq_app words))
