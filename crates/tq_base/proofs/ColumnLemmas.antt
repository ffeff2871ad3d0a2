-- One column of rows whose values are at equally spaced places of a list.
use Rattle.std.proofs.Common.{inl, inr, cond, suc, zero, ◌≡◌, ◌≤◌, ◌<◌, ◌+◌, ◌*◌, ℕ, List, [], ◌∷◌, length, map, get_or, sym, refl, ap, ◌∙◌, arith}
use Rattle.std.specs.List.{range_with_len}
use Rattle.std.specs.Prelude.{All, Option, pos}
use Rattle.std.proofs.lemmas.Bool.{cases_lt, le-ltb, lt-ltb}
use Rattle.std.proofs.lemmas.List.{get_or_default, get_or_past}
use Rattle.std.proofs.lemmas.List.FromFn.{get_or-map-range_with_len, length-map-range_with_len}
use Rattle.std.proofs.lemmas.Simd.{map-map}
use Rattle.tq_base.specs.RowValues.{value_at}
use Rattle.tq_base.specs.declared.value.Value.{Value}
use Rattle.tq_base.specs.declared.fragment.Fragment.{Fragment}
use Rattle.tq_base.specs.declared.period.Period.{Period}
use Rattle.tq_base.specs.declared.parts.Part.{Part}
use Rattle.tq_base.specs.declared.parts.Place.{Place}
use Rattle.tq_base.specs.Contents.{Int}
use Rattle.tq_base.specs.SortKeyLaws.{all_values}
use Rattle.tq_base.specs.Keys.{no_row}
use Rattle.tq_base.specs.Parts.{cell, chosen_column, column_cells, number_in, rows_at, rows_by_number, value_there, values_there}
use Rattle.tq_base.specs.Relations.{column_of, values_at_number}
use Rattle.tq_base.proofs.RelationLemmas.{column_value}

-- the value of a row that exists, and of one that does not
value_here : (rows : ℕ) (values : List Value) (step place number : ℕ) → number < rows → value_there rows values step place number ≡ value_at values (number * step + place)
value_here rows values step place number less = ap (λ b. cond b (value_at values (number * step + place)) (Int (pos 0))) (lt-ltb number rows less)

pub value_past : (rows : ℕ) (values : List Value) (step place number : ℕ) → rows ≤ number → value_there rows values step place number ≡ Int (pos 0)
value_past rows values step place number past = ap (λ b. cond b (value_at values (number * step + place)) (Int (pos 0))) (le-ltb number rows past)

-- the value of a column in the row with this number, if the column's values are at these places
pub value_found : (items : List Fragment) (rows : ℕ) (values : List Value) (step place column number : ℕ) → rows ≡ length items
    → ((k : ℕ) (d : Fragment) → k < length items → value_at (get_or items k d).values column ≡ value_at values (k * step + place))
    → value_there rows values step place number ≡ value_at (values_at_number items number) column
value_found items rows values step place column number many found = elim (cases_lt number (length items)) [
  | inl less ↦ value_here rows values step place number (omega (arith, many, less)) ∙ sym (found number no_row less)
  | inr past ↦
      value_past rows values step place number (omega (arith, many, past))
      ∙ sym (ap (λ (row : Fragment). value_at row.values column) (get_or_past items number no_row past))
]

-- the value at a place, and at a place that does not exist
pub read_there : (rows : ℕ) (values : List Value) (step column : ℕ) (numbers : Option (List ℕ)) (len row : ℕ) → row < len
    → value_at (values_there rows values step column numbers len) row ≡ value_there rows values step column (number_in numbers row)
read_there rows values step column numbers len row less =
    get_or-map-range_with_len (λ place. value_there rows values step column (number_in numbers place)) 0 len row row (Int (pos 0)) less (omega arith)

pub read_past : (rows : ℕ) (values : List Value) (step column : ℕ) (numbers : Option (List ℕ)) (len row : ℕ) → len ≤ row
    → value_at (values_there rows values step column numbers len) row ≡ Int (pos 0)
read_past rows values step column numbers len row past =
    get_or_past (values_there rows values step column numbers len) row (Int (pos 0))
    (let short : length (values_there rows values step column numbers len) ≤ row = omega (arith, past, length-map-range_with_len (λ place. value_there rows values step column (number_in numbers place)) 0 len) in short)

-- a column of rows that are chosen by number, row by row
columned_from : (parts : List Part) (columns : List (Option Place)) (column place : ℕ) (periods : List Period)
    → map (λ k. cell (rows_at parts k) (chosen_column columns column)) (range_with_len place (length periods)) ≡ column_of (rows_by_number parts columns place periods) column
unfolding rows_by_number
columned_from parts columns column place [] = refl
columned_from parts columns column place (period ∷ periods) =
    let next : place + 1 ≡ suc place = omega arith in
    let rest : map (λ k. cell (rows_at parts k) (chosen_column columns column)) (range_with_len (place + 1) (length periods)) ≡ column_of (rows_by_number parts columns (suc place) periods) column =
    ap (λ n. map (λ k. cell (rows_at parts k) (chosen_column columns column)) (range_with_len n (length periods))) next ∙ columned_from parts columns column (suc place) periods in
    λ i. column_value (rows_at parts place) columns column i ∷ rest i

pub columned : (parts : List Part) (columns : List (Option Place)) (column len : ℕ) (periods : List Period) → len ≡ length periods
    → column_cells parts (chosen_column columns column) len ≡ column_of (rows_by_number parts columns 0 periods) column
columned parts columns column len periods same = ap (column_cells parts (chosen_column columns column)) same ∙ columned_from parts columns column 0 periods

-- the value of a column in a row
pub column_here : (rows : List Fragment) (column row : ℕ) → value_at (column_of rows column) row ≡ value_at (values_at_number rows row) column
column_here [] column row = refl
column_here (r ∷ rows) column zero = refl
column_here (r ∷ rows) column (suc row) = column_here rows column row

-- the values that all columns have in a row are those of the row
pub columns_here : (rows : List Fragment) (width row : ℕ) (d : Fragment) → row < length rows → All (λ (r : Fragment). length r.values ≡ width) rows
    → map (λ column. value_at column row) (map (column_of rows) (range_with_len 0 width)) ≡ (get_or rows row d).values
columns_here rows width row d less wide =
    map-map (λ column. value_at column row) (column_of rows) (range_with_len 0 width)
    ∙ (λ i. map (λ column. column_here rows column row i) (range_with_len 0 width))
    ∙ all_values (values_at_number rows row) width (wide row no_row less)
    ∙ ap (λ (r : Fragment). r.values) (get_or_default rows row no_row d less)
