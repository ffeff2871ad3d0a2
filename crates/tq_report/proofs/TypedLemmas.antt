-- Lines of typed tables.
use Rattle.std.proofs.Common.{◌≡◌, ◌∙◌, ℕ, false, List, [], ◌∷◌, ◌++◌, ap, append_assoc, codes, decimal, map, sym}
use Rattle.std.specs.List.{flat_map}
use Rattle.csv.specs.Writing.{field_text, fields_text, row_text}
use Rattle.tq_base.specs.Numbers.{instant_text}
use Rattle.tq_base.specs.declared.catalogue.Column.{Column}
use Rattle.tq_base.specs.declared.form.Form.{Form}
use Rattle.tq_base.specs.declared.fragment.Fragment.{Fragment}
use Rattle.tq_base.specs.declared.value.Value.{Value}
use Rattle.tq_report.specs.declared.format.Format.TheVariants.{Csv}
use Rattle.tq_report.specs.Texts.{end_in, instant_in, value_in}
use Rattle.tq_report.specs.TypedTexts.{typed_fields, typed_header, typed_name}
use Rattle.tq_table.specs.Text.{answer_format, bound_field, value_field}
use Rattle.tq_report.proofs.CsvLemmas.{after_comma, decimal_plain, end_is, fields_map, instant_is, line_is, plain_field, value_is}

pieces : (t a b c d : List ℕ) → ((t ++ a) ++ b) ++ (44 ∷ c) ++ (44 ∷ d) ++ 10 ∷ [] ≡ t ++ (a ++ b ++ (44 ∷ c) ++ (44 ∷ d) ++ 10 ∷ [])
pieces t a b c d = simp append_assoc

pub header_is : (text : List ℕ) (columns : List Column)
    → ((text ++ codes "row:int") ++ flat_map (after_comma typed_name) columns) ++ codes ",from,to\n" ≡ text ++ row_text answer_format (typed_header columns)
header_is text columns =
    let names = flat_map (after_comma typed_name) columns in
    end names
    ∙ pieces text (codes "row:int") names (codes "from") (codes "to")
    ∙ ap (λ (l : List ℕ). text ++ (codes "row:int" ++ l ++ (44 ∷ codes "from") ++ (44 ∷ codes "to") ++ 10 ∷ [])) (sym (fields_map typed_name columns))
    ∙ ap (λ (l : List ℕ). text ++ l) (sym (line_is (codes "row:int") (map typed_name columns) (codes "from") (codes "to")))
  where
    end : (l : List ℕ) → ((text ++ codes "row:int") ++ l) ++ codes ",from,to\n" ≡ ((text ++ codes "row:int") ++ l) ++ (44 ∷ codes "from") ++ (44 ∷ codes "to") ++ 10 ∷ []
    end l = simp append_assoc

-- each value after a comma
abbrev pub values_text : List Value → List ℕ
values_text values = flat_map (λ (value : Value). 44 ∷ value_in Csv 0 value) values

values_are : (values : List Value) → values_text values ≡ fields_text answer_format (map value_field values)
values_are values = (λ i. flat_map (λ (value : Value). 44 ∷ value_is value i) values) ∙ sym (fields_map value_field values)

split : (t a b c d : List ℕ) → ((((((t ++ a) ++ b) ++ 44 ∷ []) ++ c) ++ 44 ∷ []) ++ d) ++ 10 ∷ [] ≡ ((t ++ a) ++ b) ++ (44 ∷ c) ++ (44 ∷ d) ++ 10 ∷ []
split t a b c d = simp append_assoc

pub line_of : (text : List ℕ) (form : Form) (number : ℕ) (row : Fragment)
    → ((((((text ++ decimal number) ++ values_text row.values) ++ 44 ∷ []) ++ instant_in Csv form row.period.start) ++ 44 ∷ []) ++ end_in Csv form false row.period.end) ++ 10 ∷ []
    ≡ text ++ row_text answer_format (typed_fields form number row)
line_of text form number row =
    let f = field_text answer_format in
    let n = decimal number in
    let v = values_text row.values in
    let s = instant_text form row.period.start in
    let e = bound_field form row.period.end in
    split text n v (instant_in Csv form row.period.start) (end_in Csv form false row.period.end)
    ∙ (λ i. ((text ++ n) ++ v) ++ (44 ∷ instant_is form row.period.start i) ++ (44 ∷ end_is form row.period.end i) ++ 10 ∷ [])
    ∙ pieces text n v (f s) (f e)
    ∙ (λ i. text ++ (sym (plain_field n (decimal_plain number)) i ++ values_are row.values i ++ (44 ∷ f s) ++ (44 ∷ f e) ++ 10 ∷ []))
    ∙ ap (λ (l : List ℕ). text ++ l) (sym (line_is n (map value_field row.values) s e))
