-- Reports in CSV are answers.
use Rattle.std.proofs.Common.{◌≡◌, ◌∙◌, ◌+◌, ◌<◌, ℕ, zero, suc, false, List, [], ◌∷◌, ◌++◌, ap, ap₂, append_assoc, append-nil, arith, codes, get_or, length, map, pos, refl, sym}
use Rattle.std.specs.Prelude.{All}
use Rattle.std.specs.List.{flat_map, range_with_len}
use Rattle.std.proofs.lemmas.List.{get_or_default, map-id, same_lists}
use Rattle.std.proofs.lemmas.List.Elements.{All-head, All-tail}
use Rattle.std.proofs.lemmas.List.Folds.{flat_map-map}
use Rattle.std.proofs.lemmas.List.FromFn.{get_or-map-range_with_len, length-map-range_with_len}
use Rattle.csv.specs.Writing.{field_text, fields_text, is_blank, row_body, row_text}
use Rattle.tq_base.specs.Contents.{Int}
use Rattle.tq_base.specs.Keys.{no_row}
use Rattle.tq_base.specs.Numbers.{instant_text}
use Rattle.tq_base.specs.RowValues.{value_at}
use Rattle.tq_base.specs.declared.fragment.Fragment.{Fragment}
use Rattle.tq_report.specs.declared.format.Format.TheVariants.{Csv}
use Rattle.tq_report.specs.declared.options.ReportOptions.{ReportOptions}
use Rattle.tq_report.specs.Laws.{CsvIsTheAnswer}
use Rattle.tq_report.specs.Layouts.{LayoutView, layout_of, name_at}
use Rattle.tq_report.specs.Reports.{line_text, names_text, report_of}
use Rattle.tq_report.specs.Reports as report
use Rattle.tq_table.specs.Amounts.{places_at}
use Rattle.tq_report.specs.Texts.{end_in, instant_in, value_in}
use Rattle.tq_report.proofs.CsvLemmas.{end_is, instant_is, value_is}
use Rattle.tq_table.specs.Text.{answer_format, bound_field, header_fields, row_fields, text_of, value_field}
use Rattle.tq_table.specs.declared.table.Table.{Table}

-- ---- lists by their places

by_place : {X : Type 0} (xs : List X) (d : X) → map (λ (k : ℕ). get_or xs k d) (range_with_len 0 (length xs)) ≡ xs
by_place xs d =
    same_lists (map (λ (k : ℕ). get_or xs k d) (range_with_len 0 (length xs))) xs (length-map-range_with_len (λ (k : ℕ). get_or xs k d) 0 (length xs))
    (λ k e less.
    let within : k < length xs = omega (arith, less, length-map-range_with_len (λ (k : ℕ). get_or xs k d) 0 (length xs)) in
    get_or-map-range_with_len (λ (k : ℕ). get_or xs k d) 0 (length xs) k k e within (omega arith) ∙ get_or_default xs k d e within)

pieces_by_place : {X : Type 0} (f : X → List ℕ) (xs : List X) (d : X) → flat_map (λ (k : ℕ). f (get_or xs k d)) (range_with_len 0 (length xs)) ≡ flat_map f xs
pieces_by_place f xs d = sym (flat_map-map f (λ (k : ℕ). get_or xs k d) (range_with_len 0 (length xs))) ∙ ap (flat_map f) (by_place xs d)

-- ---- lines

-- a field and a comma
abbrev before_comma : {X : Type 0} → (X → List ℕ) → X → List ℕ
before_comma field x = field_text answer_format (field x) ++ 44 ∷ []

body_is : {X : Type 0} (f : X → List ℕ) (xs : List X) (y z : List ℕ)
    → row_body answer_format (map f xs ++ y ∷ z ∷ []) ≡ flat_map (before_comma f) xs ++ (field_text answer_format y ++ 44 ∷ field_text answer_format z)
unfolding fields_text
body_is f [] y z = ap (λ (l : List ℕ). field_text answer_format y ++ 44 ∷ l) (append-nil (field_text answer_format z))
body_is f (x ∷ []) y z =
    let here = field_text answer_format (f x) in
    let end = field_text answer_format y ++ 44 ∷ field_text answer_format z in
    ap (λ (l : List ℕ). here ++ 44 ∷ l) (body_is f [] y z)
    ∙ sym (append_assoc here (44 ∷ []) end)
    ∙ sym (append_assoc (here ++ 44 ∷ []) [] end)
body_is f (x ∷ w ∷ xs) y z =
    let here = field_text answer_format (f x) in
    let rest = flat_map (before_comma f) (w ∷ xs) in
    let end = field_text answer_format y ++ 44 ∷ field_text answer_format z in
    ap (λ (l : List ℕ). here ++ 44 ∷ l) (body_is f (w ∷ xs) y z)
    ∙ sym (append_assoc here (44 ∷ []) (rest ++ end))
    ∙ sym (append_assoc (here ++ 44 ∷ []) rest end)

not_blank : (xs : List (List ℕ)) (y z : List ℕ) → is_blank answer_format (xs ++ y ∷ z ∷ []) ≡ false
unfolding is_blank
not_blank [] y z = refl
not_blank (x ∷ []) y z = refl
not_blank (x ∷ w ∷ xs) y z = refl

row_is : {X : Type 0} (f : X → List ℕ) (xs : List X) (y z : List ℕ)
    → row_text answer_format (map f xs ++ y ∷ z ∷ []) ≡ (flat_map (before_comma f) xs ++ (field_text answer_format y ++ 44 ∷ field_text answer_format z)) ++ 10 ∷ []
row_is f xs y z = rw (not_blank (map f xs) y z) (ap (λ (l : List ℕ). l ++ 10 ∷ []) (body_is f xs y z))

-- no text comes before a field
no_leads : (xs : List ℕ) (k : ℕ) → get_or (map (λ (column : ℕ). let none : List ℕ = [] in none) xs ++ [] ∷ [] ∷ []) k [] ≡ []
no_leads [] zero = refl
no_leads [] (suc zero) = refl
no_leads [] (suc (suc k)) = refl
no_leads (x ∷ xs) zero = refl
no_leads (x ∷ xs) (suc k) = no_leads xs k

regroup : (a b c : List ℕ) → a ++ b ++ (44 ∷ []) ++ c ++ 10 ∷ [] ≡ (a ++ (b ++ 44 ∷ c)) ++ 10 ∷ []
regroup a b c = simp append_assoc

module _ (layout : LayoutView) (leads : (k : ℕ) → get_or layout.leads k [] ≡ []) where
  line_is : {X : Type 0} (f : X → List ℕ) (xs : List X) (d : X) (text_at : ℕ → List ℕ) → ((k : ℕ) → text_at k ≡ field_text answer_format (f (get_or xs k d))) → (y z : List ℕ)
      → line_text Csv layout (length xs) text_at (field_text answer_format y) (field_text answer_format z) ≡ row_text answer_format (map f xs ++ y ∷ z ∷ [])
  line_is f xs d text_at is y z =
      let start = field_text answer_format y in
      let end = field_text answer_format z in
      let comma : List ℕ = 44 ∷ [] in
      (λ i. flat_map (λ (k : ℕ). (leads k i ++ is k i) ++ comma) (range_with_len 0 (length xs)) ++ (leads (length xs) i ++ start) ++ comma ++ (leads (length xs + 1) i ++ end) ++ 10 ∷ [])
      ∙ (λ i. pieces_by_place (before_comma f) xs d i ++ start ++ comma ++ end ++ 10 ∷ [])
      ∙ regroup (flat_map (before_comma f) xs) start end
      ∙ sym (row_is f xs y z)

  names_are : (columns : List (List ℕ)) → names_text Csv layout columns ≡ row_text answer_format (header_fields columns)
  names_are columns =
      line_is (λ (name : List ℕ). name) columns [] (λ (k : ℕ). field_text answer_format (name_at columns k)) (λ k. refl) (codes "from") (codes "to")
      ∙ ap (λ (l : List (List ℕ)). row_text answer_format (l ++ codes "from" ∷ codes "to" ∷ [])) (map-id columns)

  module _ (options : ReportOptions) (none : options.places.items ≡ []) where
    row_line : (row : Fragment) (n : ℕ) → length row.values ≡ n
        → line_text Csv layout n (λ (k : ℕ). value_in Csv (places_at options.places.items k) (value_at row.values k)) (instant_in Csv options.form row.period.start) (end_in Csv options.form false row.period.end)
        ≡ row_text answer_format (row_fields options.form row)
    row_line row n wide =
        let text_at = λ (k : ℕ). value_in Csv (places_at options.places.items k) (value_at row.values k) in
        let is : (k : ℕ) → text_at k ≡ field_text answer_format (value_field (value_at row.values k)) = λ k.
        ap (λ (l : List ℕ). value_in Csv (places_at l k) (value_at row.values k)) none ∙ value_is (value_at row.values k) in
        (λ i. line_text Csv layout (sym wide i) text_at (instant_is options.form row.period.start i) (end_is options.form row.period.end i))
        ∙ line_is value_field row.values (Int (pos 0)) text_at is (instant_text options.form row.period.start) (bound_field options.form row.period.end)

abbrev csv_options : ReportOptions → ReportOptions
csv_options options = record { format = Csv; form = options.form; inclusive = false; places = options.places }

module _ (options : ReportOptions) (none : options.places.items ≡ []) (table : Table) where
  abbrev layout : LayoutView
  layout = layout_of (csv_options options) table

  leads : (k : ℕ) → get_or layout.leads k [] ≡ []
  leads k = no_leads (range_with_len 0 (length table.columns)) k

  rows_are : (rows : List Fragment) → All (λ (row : Fragment). length row.values ≡ length table.columns) rows
      → flat_map (report.row_text (csv_options options) layout (length table.columns)) rows ≡ flat_map (λ (row : Fragment). row_text answer_format (row_fields options.form row)) rows
  rows_are [] all = refl
  rows_are (row ∷ rows) all =
      ap₂ (λ (a b : List ℕ). a ++ b)
      (row_line layout leads options none row (length table.columns) (All-head (λ (r : Fragment). length r.values ≡ length table.columns) row rows all))
      (rows_are rows (All-tail (λ (r : Fragment). length r.values ≡ length table.columns) row rows all))

  csv_is : All (λ (row : Fragment). length row.values ≡ length table.columns) table.rows → report_of (csv_options options) table ≡ text_of options.form table
  csv_is all =
      append-nil (names_text Csv layout table.columns ++ report.rows_text (csv_options options) layout (length table.columns) table.rows)
      ∙ ap₂ (λ (a b : List ℕ). a ++ b) (names_are layout leads table.columns)
      (pieces_by_place (report.row_text (csv_options options) layout (length table.columns)) table.rows no_row ∙ rows_are table.rows all)

pub csv_is_the_answer : CsvIsTheAnswer
csv_is_the_answer options table format inclusive none whole =
    (λ i. report_of (record { format = format i; form = options.form; inclusive = inclusive i; places = options.places }) table) ∙ csv_is options none table whole
