-- The lines of the summary about the rows of one key. This project's own.
use Rattle.std.specs.Prelude.{◌≡◌, ℕ, ◌+◌, ◌||◌, Bool, true, min, nat_lt, if◌then◌else◌, List, [], ◌++◌, codes, decimal, slice_index_or, take}
use Rattle.std.specs.Fmt.{signed_decimal}
use Rattle.std.specs.List.{flat_map}
use Rattle.tq_base.specs.Contents.{Int, Text}
use Rattle.tq_base.specs.Keys.{no_row}
use Rattle.tq_base.specs.Numbers.{instant_text}
use Rattle.tq_base.specs.RowValues.{value_at}
use Rattle.tq_base.specs.declared.form.Form.{Form}
use Rattle.tq_base.specs.declared.fragment.Fragment.{Fragment}
use Rattle.tq_base.specs.declared.period.TheConstants.{FOREVER}
use Rattle.tq_base.specs.declared.value.Value.{Value}
use Rattle.tq_check.specs.KeyRows.{count_of, pairs_of, IsKeyOrder}
use Rattle.tq_check.specs.declared.findings.Finding.{Finding}
use Rattle.tq_check.specs.declared.findings.Finding.TheVariants.{Overlap, Gap}
use Rattle.tq_check.specs.declared.findings.KeyPair.{KeyPair}
use Rattle.tq_check.specs.declared.key_report.KeyChecks.{KeyChecks}
use Rattle.tq_check.specs.declared.key_rows.KeyedRow.{KeyedRow}

-- an instant, or `forever`
abbrev pub bound_text : Form → ℕ → List ℕ
bound_text form bound = if nat_lt bound FOREVER then instant_text form bound else codes "forever"

-- a number in decimal, a text as it is
abbrev pub value_text : Value → List ℕ
value_text (Int n) = signed_decimal n
value_text (Text t) = t

-- the key of a row, on a line of its own
abbrev pub key_text : List Fragment → KeyedRow → List ℕ
key_text rows row = codes "\n    key " ++ value_text (value_at (slice_index_or rows row.place no_row).values 0)

-- the record of a row, after its label; the header is record 1
abbrev pub record_text : List ℕ → KeyedRow → List ℕ
record_text label row = label ++ decimal (row.place + 2)

abbrev pub period_text : Form → ℕ → ℕ → List ℕ
period_text form start end = codes " period " ++ bound_text form start ++ codes " - " ++ bound_text form end

-- two rows, and the period that they share
abbrev pub overlap_text : Form → List Fragment → KeyPair → List ℕ
overlap_text form rows pair =
    key_text rows pair.row ++ record_text (codes " record ") pair.row ++ record_text (codes " with record ") pair.earlier
    ++ period_text form pair.row.start (min pair.row.end pair.earlier.end)

-- the period between two rows
abbrev pub gap_text : Form → List Fragment → KeyPair → List ℕ
gap_text form rows pair = key_text rows pair.row ++ period_text form pair.earlier.end pair.row.start

abbrev pub pair_text : Form → Finding → List Fragment → KeyPair → List ℕ
pair_text form Overlap rows pair = overlap_text form rows pair
pair_text form Gap rows pair = gap_text form rows pair

abbrev pub label_of : Finding → List ℕ
label_of Overlap = codes "\n  key overlaps "
label_of Gap = codes "\n  key gaps     "

-- how many there are, and the first hundred of them
abbrev pub findings_text : Form → Finding → List Fragment → List KeyedRow → List ℕ
findings_text form finding rows order =
    label_of finding ++ decimal (count_of finding rows)
    ++ flat_map (pair_text form finding rows) (take 100 (pairs_of finding order))

-- the same if it is wanted, else nothing
abbrev pub wanted_text : Bool → Form → Finding → List Fragment → List KeyedRow → List ℕ
wanted_text wanted form finding rows order = if wanted then findings_text form finding rows order else []

-- the text is the lines about the rows of one key, of which the first hundred are listed by key, then by start, then by
-- place in the table; without a check it is empty
pub record IsKeyText (form : Form) (keys : KeyChecks) (rows : List Fragment) (text : List ℕ) : Type 0 where
  pub order : List KeyedRow
  pub is_order : (keys.overlaps || keys.gaps) ≡ true → IsKeyOrder rows order
  pub told : text ≡ wanted_text keys.overlaps form Overlap rows order ++ wanted_text keys.gaps form Gap rows order
