-- Rows of one width, stored one after the other in one list of values.
use Rattle.std.proofs.Common.{suc, zero, ◌≡◌, ◌≤◌, ◌<◌, ◌+◌, ◌*◌, ℕ, List, [], ◌∷◌, ◌++◌, length, take, drop, map, get_or, sym, refl, ap, ◌∙◌, arith, length-drop}
use Rattle.std.specs.Prelude.{All}
use Rattle.std.specs.List.{flat_map}
use Rattle.std.proofs.Math.Seq.{drop-append_seam, take-append_seam}
use Rattle.std.proofs.lemmas.List.{drop-append-le, drop-take, take-append-le, take-take, take_all, take_more, drop-drop, flat_map_more, length-append, length-take-le}
use Rattle.std.proofs.lemmas.List.Elements.{All-cons, All-tail}
use Rattle.tq_base.specs.declared.value.Value.{Value}
use Rattle.tq_base.specs.declared.fragment.Fragment.{Fragment}
use Rattle.tq_base.specs.declared.period.Period.{Period}
use Rattle.tq_base.specs.RowLists.{rows_from, RowList}

pub length-rows_from : (width : ℕ) (values : List Value) (periods : List Period) → length (rows_from width values periods) ≡ length periods
unfolding rows_from
length-rows_from width values [] = refl
length-rows_from width values (period ∷ periods) =
    let rest : length (rows_from width (drop width values) periods) ≡ length periods = length-rows_from width (drop width values) periods in
    ap (λ n. suc n) rest

pub periods-rows_from : (width : ℕ) (values : List Value) (periods : List Period) → map (λ (row : Fragment). row.period) (rows_from width values periods) ≡ periods
unfolding rows_from
periods-rows_from width values [] = refl
periods-rows_from width values (period ∷ periods) = ap (λ ps. period ∷ ps) (periods-rows_from width (drop width values) periods)

-- the values of a row are those from its place on
pub values-rows_from : (width : ℕ) (values : List Value) (periods : List Period) (k : ℕ) (d : Fragment) → k < length periods → (get_or (rows_from width values periods) k d).values ≡ take width (drop (k * width) values)
unfolding rows_from
values-rows_from width values [] k d less = absurd (omega (arith, less))
values-rows_from width values (period ∷ periods) zero d less = let z : zero * width ≡ zero = omega arith in rw z refl
values-rows_from width values (period ∷ periods) (suc k) d less =
    let here : (get_or (rows_from width (drop width values) periods) k d).values ≡ take width (drop (k * width) (drop width values)) = values-rows_from width (drop width values) periods k d (omega arith) in
    let both : drop (k * width) (drop width values) ≡ drop (width + k * width) values = drop-drop (k * width) width values in
    let place : suc k * width ≡ width + k * width = grind arith in
    here ∙ ap (take width) both ∙ ap (λ n. take width (drop n values)) (sym place)

-- each row has as many values as there are columns
pub widths-rows_from : (width : ℕ) (values : List Value) (periods : List Period) → length values ≡ length periods * width → All (λ (row : Fragment). length row.values ≡ width) (rows_from width values periods)
unfolding rows_from
widths-rows_from width values [] fill = λ k d less. absurd (omega (arith, less))
widths-rows_from width values (period ∷ periods) fill =
    let left : length (drop width values) ≡ length periods * width = grind (arith, length-drop width values, fill) in
    let rest : All (λ (row : Fragment). length row.values ≡ width) (rows_from width (drop width values) periods) = widths-rows_from width (drop width values) periods left in
    let first : length (take width values) ≡ width = length-take-le width values (grind (arith, fill)) in
    All-cons (λ (row : Fragment). length row.values ≡ width) (record { values = take width values; period = period }) (rows_from width (drop width values) periods) first rest

-- if a row's values and its period are appended, it is the last row
pub push-rows_from : (width : ℕ) (values row : List Value) (periods : List Period) (period : Period) → length values ≡ length periods * width → length row ≡ width → rows_from width (values ++ row) (periods ++ period ∷ []) ≡ rows_from width values periods ++ record { values = row; period = period } ∷ []
unfolding rows_from
push-rows_from width [] row [] period fill fits =
    let whole : take width row ≡ row = take_all width row (omega (arith, fits)) in
    rw whole refl
push-rows_from width (value ∷ values) row [] period fill fits = absurd (omega (arith, fill))
push-rows_from width values row (first ∷ periods) period fill fits =
    let inside : width ≤ length values = grind (arith, fill) in
    let left : length (drop width values) ≡ length periods * width = grind (arith, length-drop width values, fill) in
    let values_stay : take width (values ++ row) ≡ take width values = take-append-le width values row inside in
    let rest : drop width (values ++ row) ≡ drop width values ++ row = drop-append-le width values row inside in
    let others : rows_from width (drop width values ++ row) (periods ++ period ∷ []) ≡ rows_from width (drop width values) periods ++ record { values = row; period = period } ∷ [] = push-rows_from width (drop width values) row periods period left fits in
    rw (values_stay, rest, others) refl

-- if the values and periods of rows are appended, they are the last rows
pub append-rows_from : (width : ℕ) (values more : List Value) (periods later : List Period) → length values ≡ length periods * width → rows_from width (values ++ more) (periods ++ later) ≡ rows_from width values periods ++ rows_from width more later
unfolding rows_from
append-rows_from width [] more [] later fill = refl
append-rows_from width (value ∷ values) more [] later fill = absurd (omega (arith, fill))
append-rows_from width values more (first ∷ periods) later fill =
    let inside : width ≤ length values = grind (arith, fill) in
    let left : length (drop width values) ≡ length periods * width = grind (arith, length-drop width values, fill) in
    let values_stay : take width (values ++ more) ≡ take width values = take-append-le width values more inside in
    let rest : drop width (values ++ more) ≡ drop width values ++ more = drop-append-le width values more inside in
    let others : rows_from width (drop width values ++ more) (periods ++ later) ≡ rows_from width (drop width values) periods ++ rows_from width more later = append-rows_from width (drop width values) more periods later left in
    rw (values_stay, rest, others) refl

-- the first `len` rows have the first values and periods
pub take-rows_from : (width : ℕ) (values : List Value) (periods : List Period) (k : ℕ) → rows_from width (take (k * width) values) (take k periods) ≡ take k (rows_from width values periods)
unfolding rows_from
take-rows_from width values periods zero = refl
take-rows_from width values [] (suc k) = refl
take-rows_from width values (period ∷ periods) (suc k) =
    let place : suc k * width ≡ width + k * width = grind arith in
    let first : take width (take (width + k * width) values) ≡ take width values = take-take width (width + k * width) values (omega arith) in
    let later : drop width (take (width + k * width) values) ≡ take (k * width) (drop width values) = drop-take width (k * width) values in
    let rest : rows_from width (take (k * width) (drop width values)) (take k periods) ≡ take k (rows_from width (drop width values) periods) = take-rows_from width (drop width values) periods k in
    rw (place, first, later, rest) refl

-- the values of a row are among those of all rows
pub row_inside : (row rows width total : ℕ) → row < rows → total ≡ rows * width → row * width + width ≤ total
row_inside row rows width total less fill = grind (arith, less, fill)

-- the number of values of two lists of rows together
pub fill_both : (values more rows others width : ℕ) → values ≡ rows * width → more ≡ others * width → values + more ≡ (rows + others) * width
fill_both values more rows others width fill fills = grind (arith, fill, fills)

-- the values of rows, one row after the other, with one more row
pub values_more : (rows : List Fragment) (k : ℕ) (d : Fragment) → k < length rows
    → flat_map (λ (row : Fragment). row.values) (take k rows) ++ (get_or rows k d).values ≡ flat_map (λ (row : Fragment). row.values) (take (k + 1) rows)
values_more rows k d less =
    flat_map_more (λ (row : Fragment). row.values) [] (take k rows) (get_or rows k d)
    ∙ ap (flat_map (λ (row : Fragment). row.values)) (sym (take_more rows k d less))

-- the number of values of rows of one width
pub length-values : (width : ℕ) (rows : List Fragment) → All (λ (row : Fragment). length row.values ≡ width) rows → length (flat_map (λ (row : Fragment). row.values) rows) ≡ length rows * width
length-values width [] wide = let none : 0 ≡ 0 * width = omega arith in none
length-values width (row ∷ rows) wide =
    let others : length (flat_map (λ (r : Fragment). r.values) rows) ≡ length rows * width = length-values width rows (All-tail (λ (r : Fragment). length r.values ≡ width) row rows wide) in
    let first : length row.values ≡ width = wide 0 row (omega arith) in
    let both : length (row.values ++ flat_map (λ (r : Fragment). r.values) rows) ≡ length row.values + length (flat_map (λ (r : Fragment). r.values) rows) = length-append row.values (flat_map (λ (r : Fragment). r.values) rows) in
    let all : length (row.values ++ flat_map (λ (r : Fragment). r.values) rows) ≡ suc (length rows) * width = grind (arith, others, first, both) in
    all

-- rows of one width are the rows that their values and periods make
made_again : (width : ℕ) (rows : List Fragment) → All (λ (row : Fragment). length row.values ≡ width) rows
    → rows_from width (flat_map (λ (row : Fragment). row.values) rows) (map (λ (row : Fragment). row.period) rows) ≡ rows
unfolding rows_from
made_again width [] wide = refl
made_again width (row ∷ rows) wide =
    let rest = flat_map (λ (r : Fragment). r.values) rows in
    let first : length row.values ≡ width = wide 0 row (omega arith) in
    let here : take width (row.values ++ rest) ≡ row.values = ap (λ n. take n (row.values ++ rest)) (sym first) ∙ take-append_seam row.values rest in
    let left : drop width (row.values ++ rest) ≡ rest = ap (λ n. drop n (row.values ++ rest)) (sym first) ∙ drop-append_seam row.values rest in
    let others : rows_from width (drop width (row.values ++ rest)) (map (λ (r : Fragment). r.period) rows) ≡ rows =
    ap (λ vs. rows_from width vs (map (λ (r : Fragment). r.period) rows)) left ∙ made_again width rows (All-tail (λ (r : Fragment). length r.values ≡ width) row rows wide) in
    λ i. record { values = here i; period = row.period } ∷ others i

pub list_made_again : (list : RowList) (width : ℕ) (values : List Value) (periods : List Period) → width ≡ list.width → values ≡ flat_map (λ (row : Fragment). row.values) list.items
    → periods ≡ map (λ (row : Fragment). row.period) list.items → All (λ (row : Fragment). length row.values ≡ list.width) list.items
    → record { width = width; items = rows_from width values periods } ≡ list
list_made_again list width values periods same same_values same_periods wide =
    (λ i. record { width = same i; items = rows_from (same i) (same_values i) (same_periods i) })
    ∙ (λ i. record { width = list.width; items = made_again list.width list.items wide i })
