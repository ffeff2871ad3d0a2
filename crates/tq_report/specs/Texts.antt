-- How each format writes a value and an instant. This project's own.
use Rattle.std.specs.Prelude.{ℕ, ◌+◌, ◌-◌, ◌==◌, ◌||◌, ◌&&◌, Bool, true, false, if◌then◌else◌, List, [], ◌∷◌, ◌++◌, codes}
use Rattle.std.specs.List.{flat_map}
use Rattle.csv.specs.Writing.{field_text}
use Rattle.serde_json.specs.Data.{string}
use Rattle.serde_json.specs.Written.{compact_text}
use Rattle.tq_base.specs.Contents.{Int, Text}
use Rattle.tq_base.specs.Numbers.{instant_text}
use Rattle.tq_base.specs.declared.form.Form.{Form}
use Rattle.tq_base.specs.declared.form.Form.TheVariants.{Dates, Numbers}
use Rattle.tq_base.specs.declared.period.TheConstants.{FOREVER}
use Rattle.tq_base.specs.declared.value.Value.{Value}
use Rattle.tq_draw.specs.Labels.{escaped_text}
use Rattle.tq_report.specs.declared.format.Format.{Format}
use Rattle.tq_report.specs.declared.format.Format.TheVariants.{Aligned, Csv, Json, JsonLines, Markdown, Tsv}
use Rattle.tq_table.specs.Amounts.{number_text}
use Rattle.tq_table.specs.Text.{answer_format}

-- a tab is `\t`, a line feed `\n`, a carriage return `\r`, a backslash `\\`
abbrev pub tsv_byte : ℕ → List ℕ
tsv_byte byte =
    if byte == 9 then codes "\\t"
    else (if byte == 10 then codes "\\n" else (if byte == 13 then codes "\\r" else (if byte == 92 then codes "\\\\" else byte ∷ [])))

-- a byte that may be markup inside a cell of Markdown: one of & * < > [ \ ] _ ` | ~
abbrev pub is_markup : ℕ → Bool
is_markup byte =
    (byte == 38) || ((byte == 42) || ((byte == 60) || ((byte == 62) || ((byte == 91) || ((byte == 92) || ((byte == 93)
    || ((byte == 95) || ((byte == 96) || ((byte == 124) || (byte == 126))))))))))

-- a line feed is `<br>`, a carriage return `&#13;`, and a backslash precedes each byte that may be markup
abbrev pub markdown_byte : ℕ → List ℕ
markdown_byte byte =
    if byte == 10 then codes "<br>" else (if byte == 13 then codes "&#13;" else (if is_markup byte then 92 ∷ byte ∷ [] else byte ∷ []))

-- whether the format is JSON
abbrev pub is_json : Format → Bool
is_json Json = true
is_json JsonLines = true
is_json _ = false

abbrev pub is_dates : Form → Bool
is_dates Dates = true
is_dates Numbers = false

-- the name of a column, in the formats with a line of names: as in a picture, escaped, or quoted if necessary
abbrev pub name_in : Format → List ℕ → List ℕ
name_in Aligned name = escaped_text name
name_in Markdown name = flat_map markdown_byte name
name_in Tsv name = flat_map tsv_byte name
name_in Csv name = field_text answer_format name
name_in _ name = name

-- a text: in JSON a string, else like a name
abbrev pub text_in : Format → List ℕ → List ℕ
text_in format text = if is_json format then compact_text (string text) else name_in format text

-- a value of a column with this number of digits after the point
abbrev pub value_in : Format → ℕ → Value → List ℕ
value_in format places (Int number) = number_text places number
value_in format places (Text text) = text_in format text

-- an instant as answers write it; in JSON a date is a string
abbrev pub instant_in : Format → Form → ℕ → List ℕ
instant_in format form instant =
    if is_json format && is_dates form then 34 ∷ (instant_text form instant ++ 34 ∷ []) else instant_text form instant

-- the end of a period, or its last instant
abbrev pub last_of : Bool → ℕ → ℕ
last_of inclusive end = if inclusive then end - 1 else end

-- the end of a period, or its last instant; a period without an end has `forever`, in JSON null
abbrev pub end_in : Format → Form → Bool → ℕ → List ℕ
end_in format form inclusive end =
    if end == FOREVER then (if is_json format then codes "null" else codes "forever") else instant_in format form (last_of inclusive end)
