-- Rows by their numbers in parts, and the effect of changes of parts and columns.
use Rattle.std.proofs.Common.{suc, zero, ◌≡◌, ◌≤◌, ◌<◌, ◌+◌, ◌-◌, ℕ, List, [], ◌∷◌, ◌++◌, length, map, get_or, set, drop, take, subst, sym, refl, ap, ◌∙◌, arith}
use Rattle.std.specs.List.{range_with_len}
use Rattle.std.specs.Prelude.{All, Option, Some, None}
use Rattle.std.proofs.lemmas.Grind.{drop_more_same}
use Rattle.std.proofs.lemmas.List.{drop-set-lt, get_or-append_right, get_or-drop, get_or_append_left, get_or-map, length-map, map-append, same_lists, take_more, take_more_set}
use Rattle.std.proofs.lemmas.List.Elements.{All-append, All-head, All-map, All-tail}
use Rattle.std.proofs.lemmas.Simd.{map-map}
use Rattle.std.proofs.Math.ListN as list
use Rattle.tq_base.specs.RowValues.{value_at}
use Rattle.tq_base.specs.declared.value.Value.{Value}
use Rattle.tq_base.specs.declared.fragment.Fragment.{Fragment}
use Rattle.tq_base.specs.declared.period.Period.{Period}
use Rattle.tq_base.specs.declared.parts.Part.{Part}
use Rattle.tq_base.specs.declared.parts.Place.{Place}
use Rattle.tq_base.specs.declared.relation.RowPeriod.{RowPeriod}
use Rattle.tq_base.specs.declared.relation.Pair.{Pair}
use Rattle.tq_base.specs.SortKeyLaws.{all_values}
use Rattle.tq_base.specs.Keys.{no_row}
use Rattle.tq_base.specs.Parts.{cell, cells, chosen_column, first_column, moved_column, part_values, rows_at, rows_by_number, source_list, IsIn}
use Rattle.tq_base.specs.Relations.{row_period_of, pair_of, projected, row_at, values_at_number}

-- ---- rows by number

pub length-rows_by_number : (parts : List Part) (columns : List (Option Place)) (place : ℕ) (periods : List Period) → length (rows_by_number parts columns place periods) ≡ length periods
unfolding rows_by_number
length-rows_by_number parts columns place [] = refl
length-rows_by_number parts columns place (period ∷ periods) = ap (λ n. suc n) (length-rows_by_number parts columns (suc place) periods)

pub periods-rows_by_number : (parts : List Part) (columns : List (Option Place)) (place : ℕ) (periods : List Period) → map (λ (row : Fragment). row.period) (rows_by_number parts columns place periods) ≡ periods
unfolding rows_by_number
periods-rows_by_number parts columns place [] = refl
periods-rows_by_number parts columns place (period ∷ periods) = ap (λ ps. period ∷ ps) (periods-rows_by_number parts columns (suc place) periods)

-- the values of a row are those of its columns at its place
values_from : (parts : List Part) (columns : List (Option Place)) (place : ℕ) (periods : List Period) (k : ℕ) (d : Fragment) → k < length periods → (get_or (rows_by_number parts columns place periods) k d).values ≡ cells (rows_at parts (place + k)) columns
unfolding rows_by_number
values_from parts columns place [] k d less = absurd (omega (arith, less))
values_from parts columns place (period ∷ periods) zero d less = ap (λ n. cells (rows_at parts n) columns) (let same : place ≡ place + zero = omega arith in same)
values_from parts columns place (period ∷ periods) (suc k) d less =
    values_from parts columns (suc place) periods k d (omega (arith, less))
    ∙ ap (λ n. cells (rows_at parts n) columns) (let same : suc place + k ≡ place + suc k = omega arith in same)

pub values-rows_by_number : (parts : List Part) (columns : List (Option Place)) (periods : List Period) (k : ℕ) (d : Fragment) → k < length periods → (get_or (rows_by_number parts columns 0 periods) k d).values ≡ cells (rows_at parts k) columns
values-rows_by_number parts columns periods k d less =
    values_from parts columns 0 periods k d less ∙ ap (λ n. cells (rows_at parts n) columns) (let same : 0 + k ≡ k = omega arith in same)

pub widths-rows_by_number : (parts : List Part) (columns : List (Option Place)) (periods : List Period) → All (λ (row : Fragment). length row.values ≡ length columns) (rows_by_number parts columns 0 periods)
widths-rows_by_number parts columns periods = λ k d less.
    ap length (values-rows_by_number parts columns periods k d (let inside : k < length periods = omega (arith, less, length-rows_by_number parts columns 0 periods) in inside))
    ∙ length-map columns (cell (rows_at parts k))

-- rows with these periods, and with the values of the columns at each place, are the rows by number
pub same_rows : (parts : List Part) (columns : List (Option Place)) (periods : List Period) (rows : List Fragment) → map (λ (row : Fragment). row.period) rows ≡ periods
    → ((k : ℕ) (d : Fragment) → k < length rows → (get_or rows k d).values ≡ cells (rows_at parts k) columns) → rows_by_number parts columns 0 periods ≡ rows
same_rows parts columns periods rows same values = same_lists (rows_by_number parts columns 0 periods) rows (lengths ∙ len) each
  where
    lengths : length (rows_by_number parts columns 0 periods) ≡ length periods
    lengths = length-rows_by_number parts columns 0 periods

    len : length periods ≡ length rows
    len = ap length (sym same) ∙ length-map rows (λ (row : Fragment). row.period)

    each : (k : ℕ) (d : Fragment) → k < length (rows_by_number parts columns 0 periods) → get_or (rows_by_number parts columns 0 periods) k d ≡ get_or rows k d
    each k d less =
        let inside : k < length periods = omega (arith, less, lengths) in
        let there : k < length rows = omega (arith, inside, len) in
        let here : k < length (rows_by_number parts columns 0 periods) = less in
        let one : (get_or (rows_by_number parts columns 0 periods) k d).values ≡ (get_or rows k d).values = values-rows_by_number parts columns periods k d inside ∙ sym (values k d there) in
        let two : (get_or (rows_by_number parts columns 0 periods) k d).period ≡ (get_or rows k d).period =
        sym (get_or-map (λ (row : Fragment). row.period) (rows_by_number parts columns 0 periods) k d d.period here)
        ∙ ap (λ l. get_or l k d.period) (periods-rows_by_number parts columns 0 periods ∙ sym same)
        ∙ get_or-map (λ (row : Fragment). row.period) rows k d d.period there in
        λ i. record { values = one i; period = two i }

-- ---- one source

first_cells : (row : List Value) (numbers : List ℕ) → cells (row ∷ []) (map first_column numbers) ≡ map (value_at row) numbers
first_cells row [] = refl
first_cells row (number ∷ numbers) = ap (λ l. value_at row number ∷ l) (first_cells row numbers)

pub whole_rows : (part : Part) (columns : List (Option Place)) (width : ℕ) → part.numbers ≡ None → columns ≡ map first_column (range_with_len 0 width)
    → All (λ (row : Fragment). length row.values ≡ width) (source_list part.source).items
    → rows_by_number (part ∷ []) columns 0 (map (λ (row : Fragment). row.period) (source_list part.source).items) ≡ (source_list part.source).items
whole_rows part columns width numbers first wide =
    same_rows (part ∷ []) columns (map (λ (row : Fragment). row.period) (source_list part.source).items) (source_list part.source).items refl
    (λ k d less.
    let row = (get_or (source_list part.source).items k d).values in
    let none : part_values part k ≡ row = rw numbers (ap (λ (row : Fragment). row.values) (get_or_default_row (source_list part.source).items k d less)) in
    sym (rw (none, first) (first_cells row (range_with_len 0 width) ∙ all_values row width (wide k d less))))
  where
    get_or_default_row : (rows : List Fragment) (k : ℕ) (d : Fragment) → k < length rows → get_or rows k no_row ≡ get_or rows k d
    get_or_default_row [] k d less = absurd (omega (arith, less))
    get_or_default_row (row ∷ rows) zero d less = refl
    get_or_default_row (row ∷ rows) (suc k) d less = get_or_default_row rows k d (omega (arith, less))

pub first_columns_in : (numbers : List ℕ) → All (IsIn 1) (map first_column numbers)
first_columns_in numbers = All-map (IsIn 1) first_column numbers (λ k d less. omega arith)

-- ---- rows with periods

pub taken_rows : (old new : List Part) (columns : List (Option Place)) (periods : List Period) (row_periods : List RowPeriod)
    → ((k : ℕ) → k < length (map (λ (row_period : RowPeriod). row_period.row) row_periods) → rows_at new k ≡ rows_at old (get_or (map (λ (row_period : RowPeriod). row_period.row) row_periods) k 0))
    → All (λ (row_period : RowPeriod). row_period.row < length (rows_by_number old columns 0 periods)) row_periods
    → rows_by_number new columns 0 (map (λ (row_period : RowPeriod). row_period.period) row_periods) ≡ map (row_period_of (rows_by_number old columns 0 periods)) row_periods
taken_rows old new columns periods row_periods same within =
    same_rows new columns (map (λ (row_period : RowPeriod). row_period.period) row_periods) (map (row_period_of rows) row_periods)
    (map-map (λ (row : Fragment). row.period) (row_period_of rows) row_periods)
    (λ k d less.
    let inside : k < length row_periods = omega (arith, less, length-map row_periods (row_period_of rows)) in
    let below : k < length (map (λ (row_period : RowPeriod). row_period.row) row_periods) = omega (arith, inside, length-map row_periods (λ (row_period : RowPeriod). row_period.row)) in
    let row_period : RowPeriod = record { row = 0; period = d.period } in
    let here : get_or (map (row_period_of rows) row_periods) k d ≡ row_period_of rows (get_or row_periods k row_period) = get_or-map (row_period_of rows) row_periods k row_period d inside in
    let row : get_or (map (λ (row_period : RowPeriod). row_period.row) row_periods) k 0 ≡ (get_or row_periods k row_period).row = get_or-map (λ (row_period : RowPeriod). row_period.row) row_periods k row_period 0 inside in
    let number = (get_or row_periods k row_period).row in
    let stands : number < length periods = omega (arith, within k row_period inside, length-rows_by_number old columns 0 periods) in
    ap (λ (row : Fragment). row.values) here
    ∙ values-rows_by_number old columns periods number no_row stands
    ∙ ap (λ n. cells (rows_at old n) columns) (sym row)
    ∙ ap (λ l. cells l columns) (sym (same k below)))
  where
    rows : List Fragment
    rows = rows_by_number old columns 0 periods

-- ---- numbers

pub numbered_rows : (old new : List Part) (columns : List (Option Place)) (periods : List Period) (numbers : List ℕ)
    → ((k : ℕ) → k < length numbers → rows_at new k ≡ rows_at old (get_or numbers k 0))
    → All (λ number. number < length (rows_by_number old columns 0 periods)) numbers
    → rows_by_number new columns 0 (map (λ number. get_or (map (λ (row : Fragment). row.period) (rows_by_number old columns 0 periods)) number no_row.period) numbers)
    ≡ map (row_at (rows_by_number old columns 0 periods)) numbers
numbered_rows old new columns periods numbers same within =
    ap (rows_by_number new columns 0) (λ i. map (λ number. list.get_or-map (λ (row : Fragment). row.period) rows number no_row i) numbers)
    ∙ same_rows new columns (map (λ number. (row_at rows number).period) numbers) (map (row_at rows) numbers)
    (map-map (λ (row : Fragment). row.period) (row_at rows) numbers)
    (λ k d less.
    let inside : k < length numbers = omega (arith, less, length-map numbers (row_at rows)) in
    let here : get_or (map (row_at rows) numbers) k d ≡ row_at rows (get_or numbers k 0) = get_or-map (row_at rows) numbers k 0 d inside in
    let number = get_or numbers k 0 in
    let stands : number < length periods = omega (arith, within k 0 inside, length-rows_by_number old columns 0 periods) in
    ap (λ (row : Fragment). row.values) here
    ∙ values-rows_by_number old columns periods number no_row stands
    ∙ ap (λ l. cells l columns) (sym (same k inside)))
  where
    rows : List Fragment
    rows = rows_by_number old columns 0 periods

-- ---- pairs

moved_cell : (left right : List (List Value)) (column : Option Place) → cell (left ++ right) (moved_column (length left) column) ≡ cell right column
moved_cell left right None = refl
moved_cell left right (Some at) =
    ap (λ row. value_at row at.column)
    (get_or-append_right left right (length left) (at.part + length left) [] refl (omega arith)
    ∙ ap (λ n. get_or right n []) (let same : at.part + length left - length left ≡ at.part = omega arith in same))

left_cell : (left right : List (List Value)) (column : Option Place) → IsIn (length left) column → cell (left ++ right) column ≡ cell left column
left_cell left right None is = refl
left_cell left right (Some at) is = ap (λ row. value_at row at.column) (get_or_append_left left right [] at.part is)

left_cells : (left right : List (List Value)) (columns : List (Option Place)) → All (IsIn (length left)) columns → cells (left ++ right) columns ≡ cells left columns
left_cells left right [] are = refl
left_cells left right (column ∷ columns) are =
    λ i. left_cell left right column (All-head (IsIn (length left)) column columns are) i ∷ left_cells left right columns (All-tail (IsIn (length left)) column columns are) i

moved_cells : (left right : List (List Value)) (columns : List (Option Place)) → cells (left ++ right) (map (moved_column (length left)) columns) ≡ cells right columns
moved_cells left right [] = refl
moved_cells left right (column ∷ columns) = λ i. moved_cell left right column i ∷ moved_cells left right columns i

-- the values of the left columns, then those of the right columns
pub both_cells : (left right : List Part) (left_columns right_columns : List (Option Place)) (parts k : ℕ) → parts ≡ length left → All (IsIn (length left)) left_columns
    → cells (rows_at (left ++ right) k) (left_columns ++ map (moved_column parts) right_columns) ≡ cells (rows_at left k) left_columns ++ cells (rows_at right k) right_columns
both_cells left right left_columns right_columns parts k are within =
    ap (λ rows. cells rows (left_columns ++ map (moved_column parts) right_columns)) (map-append (λ part. part_values part k) left right)
    ∙ map-append (cell (rows_at left k ++ rows_at right k)) left_columns (map (moved_column parts) right_columns)
    ∙ (λ i. left_cells (rows_at left k) (rows_at right k) left_columns (rw (length-map left (λ part. part_values part k)) within) i ++ rights i)
  where
    len : parts ≡ length (rows_at left k)
    len = are ∙ sym (length-map left (λ part. part_values part k))

    rights : cells (rows_at left k ++ rows_at right k) (map (moved_column parts) right_columns) ≡ cells (rows_at right k) right_columns
    rights = ap (λ n. cells (rows_at left k ++ rows_at right k) (map (moved_column n) right_columns)) len ∙ moved_cells (rows_at left k) (rows_at right k) right_columns

pub paired_rows : (left right new_left new_right : List Part) (left_columns right_columns both : List (Option Place)) (left_periods right_periods : List Period) (pairs : List Pair) (parts : ℕ)
    → both ≡ left_columns ++ map (moved_column parts) right_columns → parts ≡ length left → length new_left ≡ length left → All (IsIn (length left)) left_columns
    → ((k : ℕ) → k < length (map (λ (pair : Pair). pair.left) pairs) → rows_at new_left k ≡ rows_at left (get_or (map (λ (pair : Pair). pair.left) pairs) k 0))
    → ((k : ℕ) → k < length (map (λ (pair : Pair). pair.right) pairs) → rows_at new_right k ≡ rows_at right (get_or (map (λ (pair : Pair). pair.right) pairs) k 0))
    → All (λ (pair : Pair). pair.left < length (rows_by_number left left_columns 0 left_periods)) pairs
    → All (λ (pair : Pair). pair.right < length (rows_by_number right right_columns 0 right_periods)) pairs
    → rows_by_number (new_left ++ new_right) both 0 (map (λ (pair : Pair). pair.period) pairs)
    ≡ map (pair_of (rows_by_number left left_columns 0 left_periods) (rows_by_number right right_columns 0 right_periods)) pairs
paired_rows left right new_left new_right left_columns right_columns both left_periods right_periods pairs parts both_are parts_are len within same_left same_right lefts rights =
    same_rows (new_left ++ new_right) both (map (λ (pair : Pair). pair.period) pairs) (map (pair_of left_rows right_rows) pairs)
    (map-map (λ (row : Fragment). row.period) (pair_of left_rows right_rows) pairs)
    (λ k d less.
    let inside : k < length pairs = omega (arith, less, length-map pairs (pair_of left_rows right_rows)) in
    let below_left : k < length (map (λ (pair : Pair). pair.left) pairs) = omega (arith, inside, length-map pairs (λ (pair : Pair). pair.left)) in
    let below_right : k < length (map (λ (pair : Pair). pair.right) pairs) = omega (arith, inside, length-map pairs (λ (pair : Pair). pair.right)) in
    let none : Pair = record { left = 0; right = 0; period = d.period } in
    let pair = get_or pairs k none in
    let here : get_or (map (pair_of left_rows right_rows) pairs) k d ≡ pair_of left_rows right_rows pair = get_or-map (pair_of left_rows right_rows) pairs k none d inside in
    let left_row : get_or (map (λ (pair : Pair). pair.left) pairs) k 0 ≡ pair.left = get_or-map (λ (pair : Pair). pair.left) pairs k none 0 inside in
    let right_row : get_or (map (λ (pair : Pair). pair.right) pairs) k 0 ≡ pair.right = get_or-map (λ (pair : Pair). pair.right) pairs k none 0 inside in
    let stands_left : pair.left < length left_periods = omega (arith, lefts k none inside, length-rows_by_number left left_columns 0 left_periods) in
    let stands_right : pair.right < length right_periods = omega (arith, rights k none inside, length-rows_by_number right right_columns 0 right_periods) in
    let left_values : values_at_number left_rows pair.left ≡ cells (rows_at new_left k) left_columns =
    values-rows_by_number left left_columns left_periods pair.left no_row stands_left
    ∙ ap (λ n. cells (rows_at left n) left_columns) (sym left_row)
    ∙ ap (λ l. cells l left_columns) (sym (same_left k below_left)) in
    let right_values : values_at_number right_rows pair.right ≡ cells (rows_at new_right k) right_columns =
    values-rows_by_number right right_columns right_periods pair.right no_row stands_right
    ∙ ap (λ n. cells (rows_at right n) right_columns) (sym right_row)
    ∙ ap (λ l. cells l right_columns) (sym (same_right k below_right)) in
    ap (λ (row : Fragment). row.values) here
    ∙ (λ i. left_values i ++ right_values i)
    ∙ sym (both_cells new_left new_right left_columns right_columns parts k (parts_are ∙ sym len) (subst (λ n. All (IsIn n) left_columns) (sym len) within))
    ∙ ap (cells (rows_at (new_left ++ new_right) k)) (sym both_are))
  where
    left_rows : List Fragment
    left_rows = rows_by_number left left_columns 0 left_periods

    right_rows : List Fragment
    right_rows = rows_by_number right right_columns 0 right_periods

in_more : (parts more : ℕ) (column : Option Place) → parts ≤ more → IsIn parts column → IsIn more column
in_more parts more None least is = tt
in_more parts more (Some at) least is = omega (arith, least, is)

in_moved : (parts left : ℕ) (column : Option Place) → IsIn parts column → IsIn (left + parts) (moved_column left column)
in_moved parts left None is = tt
in_moved parts left (Some at) is = omega (arith, is)

pub both_in : (left right : ℕ) (left_columns right_columns : List (Option Place)) → All (IsIn left) left_columns → All (IsIn right) right_columns → All (IsIn (left + right)) (left_columns ++ map (moved_column left) right_columns)
both_in left right left_columns right_columns lefts rights =
    All-append (IsIn (left + right)) left_columns (map (moved_column left) right_columns)
    (λ k d less. in_more left (left + right) (get_or left_columns k d) (omega arith) (lefts k d less))
    (All-map (IsIn (left + right)) (moved_column left) right_columns (λ k d less. in_moved right left (get_or right_columns k d) (rights k d less)))

-- ---- columns

pub column_value : (rows : List (List Value)) (columns : List (Option Place)) (number : ℕ) → cell rows (chosen_column columns number) ≡ value_at (cells rows columns) number
column_value rows [] number = refl
column_value rows (column ∷ columns) zero = refl
column_value rows (column ∷ columns) (suc number) = column_value rows columns number

column_values : (rows : List (List Value)) (columns : List (Option Place)) (numbers : List ℕ) → cells rows (map (chosen_column columns) numbers) ≡ map (value_at (cells rows columns)) numbers
column_values rows columns [] = refl
column_values rows columns (number ∷ numbers) = λ i. column_value rows columns number i ∷ column_values rows columns numbers i

pub projected_rows : (parts : List Part) (columns : List (Option Place)) (numbers : List ℕ) (place : ℕ) (periods : List Period)
    → rows_by_number parts (map (chosen_column columns) numbers) place periods ≡ map (projected numbers) (rows_by_number parts columns place periods)
unfolding rows_by_number
projected_rows parts columns numbers place [] = refl
projected_rows parts columns numbers place (period ∷ periods) =
    λ i. record { values = column_values (rows_at parts place) columns numbers i; period = period } ∷ projected_rows parts columns numbers (suc place) periods i

chosen_in : (parts : ℕ) (columns : List (Option Place)) → All (IsIn parts) columns → (number : ℕ) → IsIn parts (chosen_column columns number)
chosen_in parts [] are number = tt
chosen_in parts (column ∷ columns) are zero = All-head (IsIn parts) column columns are
chosen_in parts (column ∷ columns) are (suc number) = chosen_in parts columns (All-tail (IsIn parts) column columns are) number

pub all_chosen_in : (parts : ℕ) (columns : List (Option Place)) (numbers : List ℕ) → All (IsIn parts) columns → All (IsIn parts) (map (chosen_column columns) numbers)
all_chosen_in parts columns numbers are = All-map (IsIn parts) (chosen_column columns) numbers (λ k d less. chosen_in parts columns are (get_or numbers k d))

-- ---- parts that are renumbered one by one

rows_more : (parts : List Part) (part : Part) (k : ℕ) → rows_at (parts ++ part ∷ []) k ≡ rows_at parts k ++ part_values part k ∷ []
rows_more parts part k = map-append (λ part. part_values part k) parts (part ∷ [])

same_item : (parts others : List Part) (i : ℕ) (d : Part) → drop i parts ≡ drop i others → get_or parts i d ≡ get_or others i d
same_item parts others i d same =
    ap (λ n. get_or parts n d) (let here : i ≡ i + 0 = omega arith in here)
    ∙ sym (get_or-drop i parts 0 d)
    ∙ ap (λ l. get_or l 0 d) same
    ∙ get_or-drop i others 0 d
    ∙ ap (λ n. get_or others n d) (let here : i + 0 ≡ i = omega arith in here)

pub renumbered_rows : (parts old : List Part) (i : ℕ) (d part : Part) (places : List ℕ) → i < length parts → i < length old → drop i parts ≡ drop i old
    → ((k : ℕ) → k < length places → rows_at (take i parts) k ≡ rows_at (take i old) (get_or places k 0))
    → ((k : ℕ) → k < length places → part_values part k ≡ part_values (get_or parts i d) (get_or places k 0))
    → (k : ℕ) → k < length places → rows_at (take (i + 1) (set parts i part)) k ≡ rows_at (take (i + 1) old) (get_or places k 0)
renumbered_rows parts old i d part places less there same before now k inside =
    let place = get_or places k 0 in
    ap (λ l. rows_at l k) (take_more_set parts i part less)
    ∙ rows_more (take i parts) part k
    ∙ (λ j. before k inside j ++ now k inside j ∷ [])
    ∙ sym (rows_more (take i old) (get_or parts i d) place)
    ∙ ap (λ p. rows_at (take i old ++ p ∷ []) place) (same_item parts old i d same)
    ∙ ap (λ l. rows_at l place) (sym (take_more old i d there))

pub renumbered_rest : (parts old : List Part) (i : ℕ) (part : Part) → drop i parts ≡ drop i old → drop (i + 1) (set parts i part) ≡ drop (i + 1) old
renumbered_rest parts old i part same = drop-set-lt (i + 1) parts i part (omega arith) ∙ drop_more_same parts old i same
