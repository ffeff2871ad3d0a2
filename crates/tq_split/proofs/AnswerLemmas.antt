-- Rows that are read from the text of an answer.
use Rattle.std.proofs.Common.{◌≡◌, ◌<◌, ◌++◌, ◌-◌, ◌==◌, ◌∙◌, ℕ, Bool, true, false, not, List, [], ◌∷◌, None, Err, Ok, Option, Some, ap, append-nil, arith, get_or, length, length-append, refl, subst, suc, sym, take, ◌+◌}
use Rattle.std.specs.Prelude.{All, IfSome, IsSomeAnd, if◌then◌else◌}
use Rattle.std.specs.Ordering.{eq_by_cmp, ordering_reverse, ordering_then}
use Rattle.std.specs.declared.cmp.Ordering.TheVariants.{Greater}
use Rattle.std.proofs.lemmas.Bool.Decides.{nat_tests}
use Rattle.std.proofs.lemmas.List.{length-take-le, take_more}
use Rattle.std.proofs.lemmas.List.Concat.{flat_map-cons}
use Rattle.std.proofs.lemmas.List.Elements.{All-cons, All-nil, All-push}
use Rattle.std.proofs.lemmas.Grind.{flat_map-append}
use Rattle.csv.specs.declared.reader.Reader.{Reader}
use Rattle.tq_base.specs.declared.catalogue.Column.{Column}
use Rattle.tq_base.specs.declared.form.Form.{Form}
use Rattle.tq_base.specs.declared.fragment.Fragment.{Fragment}
use Rattle.tq_base.specs.declared.value.Value.{Value}
use Rattle.tq_base.specs.Groups.{Below, below_differs}
use Rattle.tq_base.specs.NormalizedKeys.{prefixes_rise}
use Rattle.tq_base.specs.Ranges.{one_after_other}
use Rattle.tq_base.specs.ValueOrder.{same_from_eq, values_cmp, values_total}
use Rattle.tq_base.proofs.Unique.{fragment_same, period_same}
use Rattle.tq_event.specs.Entries.{Entry}
use Rattle.tq_base.specs.Results.{and_then}
use Rattle.tq_event.specs.declared.fault.LoadFaultKind.TheVariants.{FieldCount}
use Rattle.tq_event.specs.Loading.{entry_of, period_fields, period_of, value_fields, value_of, values_after}
use Rattle.tq_event.proofs.LoadedLemmas.{passed}
use Rattle.tq_event.specs.Projection.{projected_values}
use Rattle.tq_event.specs.Tables.{row_entry}
use Rattle.tq_split.specs.declared.answer_part.AnswerLayout.{AnswerLayout}
use Rattle.tq_split.specs.declared.answer_part.AnswerPart.{AnswerPart}
use Rattle.tq_split.specs.declared.answer_part.KeyedRow.{KeyedRow}
use Rattle.tq_split.specs.AnswerTexts.{AreAnswers, AreRowsOf, HasNext, HaveRows}
use Rattle.tq_split.specs.declared.combine.Combine.{Combine}
use Rattle.tq_split.specs.Adding.{run_values}
use Rattle.tq_split.specs.Merges.{AreAfter, AreInOrder, BeginsAbove, after_run, run_of, runs_of}
use Rattle.tq_split.specs.RowKeys.{IsKeyOf}

-- without a list of wanted columns all values are kept
pub all_wanted : (values : List Value) → projected_values [] values ≡ values
unfolding projected_values
all_wanted [] = refl
all_wanted (value ∷ values) = refl

-- a record is read as one row only
pub one_row : (form : Form) (columns : List Column) (fields : List (List ℕ)) (one other : Fragment) → entry_of form 0 columns fields ≡ Ok (row_entry 0 one) → entry_of form 0 columns fields ≡ Ok (row_entry 0 other) → one ≡ other
one_row form columns fields one other is_one is_other =
    let same : row_entry 0 one ≡ row_entry 0 other = cc (is_one, is_other) in
    fragment_same one other (ap (λ (e : Entry). e.values) same)
    (period_same one.period other.period (ap (λ (e : Entry). e.from) same) (ap (λ (e : Entry). e.to) same))

-- the row of a record has a value for each column
values_width : (values : List Value) (columns : List Column) (fields : List (List ℕ)) (got : List Value) → length fields ≡ length columns → values_after values columns fields ≡ Ok got → length got ≡ length values + length columns
values_width values [] fields got many is = let same : values ≡ got = cc is in omega (arith, ap length same)
values_width values (c ∷ columns) [] got many is = absurd (omega (arith, many))
values_width values (c ∷ columns) (field ∷ fields) got many is =
    let first = passed (value_of c.kind field) (λ value. values_after (values ++ value ∷ []) columns fields) got is in
    omega (arith, values_width (values ++ first.value ∷ []) columns fields got (omega (arith, many)) first.then_is, length-append values (first.value ∷ []))

row_width : (form : Form) (columns : List Column) (fields : List (List ℕ)) (row : Fragment) → entry_of form 0 columns fields ≡ Ok (row_entry 0 row) → length row.values ≡ length columns
row_width form columns fields row is = by (length fields == length columns + 2) refl is
  where
    made : (values : List Value) → and_then (period_of form (period_fields fields)) (λ period. Ok (record { table = 0; values = values; from = period.0; to = period.1 })) ≡ Ok (row_entry 0 row) → values ≡ row.values
    made values m =
        let p = passed (period_of form (period_fields fields)) _ (row_entry 0 row) m in
        let same : record { table = 0; values = values; from = p.value.0; to = p.value.1 } ≡ row_entry 0 row = cc (p.then_is) in
        ap (λ (e : Entry). e.values) same

    by : (t : Bool) → (length fields == length columns + 2) ≡ t
        → (if not t then Err FieldCount else and_then (values_after [] columns (value_fields fields)) (λ values.
        and_then (period_of form (period_fields fields)) (λ period.
        Ok (record { table = 0; values = values; from = period.0; to = period.1 })))) ≡ Ok (row_entry 0 row) → length row.values ≡ length columns
    by false few i = cc i
    by true many i =
        let v = passed (values_after [] columns (value_fields fields)) _ (row_entry 0 row) i in
        let all : length fields ≡ length columns + 2 = grind (arith, nat_tests) in
        let own : length (value_fields fields) ≡ length columns = omega (arith, all, length-take-le (length fields - 2) fields (omega arith)) in
        omega (arith, ap length (made v.value v.then_is), values_width [] columns (value_fields fields) v.value own v.was)

pub rows_wide : (layout : AnswerLayout) (records : List (List (List ℕ))) (rows : List Fragment) → AreRowsOf layout records rows → All (λ (row : Fragment). length row.values ≡ length layout.columns.items) rows
rows_wide layout [] [] are = All-nil _
rows_wide layout [] (row ∷ rows) are = absurd are
rows_wide layout (fields ∷ records) [] are = absurd are
rows_wide layout (fields ∷ records) (row ∷ rows) are =
    All-cons (λ (row : Fragment). length row.values ≡ length layout.columns.items) row rows (row_width layout.form layout.columns.items fields row are.0) (rows_wide layout records rows are.1)

-- rows whose first values have lesser keys have lesser values
pub keys_below : (key other : ℕ) (values others : List Value) → IsKeyOf (Some key) values → IsKeyOf (Some other) others → key < other → Below values others
keys_below key other [] others is_key is_other less = absurd is_key
keys_below key other (v ∷ vs) [] is_key is_other less = absurd is_other
keys_below key other (v ∷ vs) (w ∷ ws) is_key is_other less =
    ap (λ r. ordering_then r (values_cmp vs ws)) (prefixes_rise v w is_key.1 is_other.1 (omega (arith, less, is_key.0, is_other.0)))

-- and so have their first values, if there is one
pub first_keys_below : (key other : ℕ) (values others : List Value) (n : ℕ) → IsKeyOf (Some key) values → IsKeyOf (Some other) others → key < other → Below (take (suc n) values) (take (suc n) others)
first_keys_below key other [] others n is_key is_other less = absurd is_key
first_keys_below key other (v ∷ vs) [] n is_key is_other less = absurd is_other
first_keys_below key other (v ∷ vs) (w ∷ ws) n is_key is_other less =
    ap (λ r. ordering_then r (values_cmp (take n vs) (take n ws))) (prefixes_rise v w is_key.1 is_other.1 (omega (arith, less, is_key.0, is_other.0)))

-- ---- records that are left

pub no_rows : (layout : AnswerLayout) (records : List (List (List ℕ))) (rows : List Fragment) → records ≡ [] → AreRowsOf layout records rows → rows ≡ []
no_rows layout [] [] none are = refl
no_rows layout [] (row ∷ rows) none are = absurd are
no_rows layout (fields ∷ records) rows none are = cc none

-- the row of the first record, and those of the others
pub record IsFirstRow (layout : AnswerLayout) (fields : List (List ℕ)) (more : List (List (List ℕ))) (rows : List Fragment) : Type 0 where
  pub row : Fragment
  pub others : List Fragment
  pub is : rows ≡ row ∷ others
  pub reads : entry_of layout.form 0 layout.columns.items fields ≡ Ok (row_entry 0 row)
  pub are : AreRowsOf layout more others

pub first_row : (layout : AnswerLayout) (records : List (List (List ℕ))) (fields : List (List ℕ)) (more : List (List (List ℕ))) (rows : List Fragment) → records ≡ fields ∷ more → AreRowsOf layout records rows → IsFirstRow layout fields more rows
first_row layout [] fields more rows split are = cc split
first_row layout (first ∷ records) fields more [] split are = absurd are
first_row layout (first ∷ records) fields more (row ∷ rows) split are =
    let both = subst (λ (l : List (List (List ℕ))). AreRowsOf layout l (row ∷ rows)) split are in
    record { row = row; others = rows; is = refl; reads = both.0; are = both.1 }

-- ---- the next row, and the run

not_equal : (v w : List Value) → Below v w → eq_by_cmp values_cmp w v ≡ false
not_equal v w below = by (eq_by_cmp values_cmp w v) refl
  where
    by : (b : Bool) → eq_by_cmp values_cmp w v ≡ b → eq_by_cmp values_cmp w v ≡ false
    by true is = absurd (below_differs v w below (sym (same_from_eq w v is)))
    by false is = is

pub greater_below : (v w : List Value) → values_cmp w v ≡ Greater → Below v w
greater_below v w greater = values_total.antisymm v w ∙ ap ordering_reverse greater

module _ (combine : Combine) where
  -- rows that begin above a run have none of its rows
  pub after_past : (v : List Value) (rows : List Fragment) → BeginsAbove combine v rows → after_run combine v rows ≡ rows
  after_past v [] begins = refl
  after_past v (row ∷ rows) begins = ap (λ (b : Bool). if b then after_run combine v rows else row ∷ rows) (not_equal v (run_values combine row.values) begins)

  pub run_past : (v : List Value) (rows : List Fragment) → BeginsAbove combine v rows → run_of combine v rows ≡ []
  run_past v [] begins = refl
  run_past v (row ∷ rows) begins = ap (λ (b : Bool). if b then row ∷ run_of combine v rows else []) (not_equal v (run_values combine row.values) begins)

  pub after_within : (v : List Value) (row : Fragment) (rows : List Fragment) → eq_by_cmp values_cmp (run_values combine row.values) v ≡ true → after_run combine v (row ∷ rows) ≡ after_run combine v rows
  after_within v row rows same = ap (λ (b : Bool). if b then after_run combine v rows else row ∷ rows) same

  pub run_within : (v : List Value) (row : Fragment) (rows : List Fragment) → eq_by_cmp values_cmp (run_values combine row.values) v ≡ true → run_of combine v (row ∷ rows) ≡ row ∷ run_of combine v rows
  run_within v row rows same = ap (λ (b : Bool). if b then row ∷ run_of combine v rows else []) same

module _ {R : Type 0} (remaining : R → Option (List ℕ)) (layout : AnswerLayout) (reader : Reader R) where
  -- a part without a next row, or with one of a greater run, has only greater rows first
  pub begins_above : (v : List Value) (next : Option KeyedRow) (rows : List Fragment) → HasNext remaining layout reader next rows → IfSome next (λ (next : KeyedRow). Below v (run_values layout.combine next.row.values)) → BeginsAbove layout.combine v rows
  begins_above v None rows has above = subst (BeginsAbove layout.combine v) (sym has) tt
  begins_above v (Some next) rows has above = subst (BeginsAbove layout.combine v) (sym has.1) above

  -- the first row of a part whose next row belongs to the run
  pub first_within : (v : List Value) (next : Option KeyedRow) (rows : List Fragment) → HasNext remaining layout reader next rows → IsSomeAnd next (λ (next : KeyedRow). eq_by_cmp values_cmp (run_values layout.combine next.row.values) v ≡ true)
      → (row : Fragment) × (others : List Fragment) × (rows ≡ row ∷ others) × (eq_by_cmp values_cmp (run_values layout.combine row.values) v ≡ true)
  first_within v None rows has within = absurd within
  first_within v (Some next) rows has within = (next.row, has.0, has.1, within)

  -- without a next row there are none
  pub none_next : (next : Option KeyedRow) (rows : List Fragment) → HasNext remaining layout reader next rows → next ≡ None → rows ≡ []
  none_next None rows has none = has
  none_next (Some next) rows has none = cc none

-- ---- all parts

empty_all : (lists : List (List Fragment)) → ((k : ℕ) (e : List Fragment) → k < length lists → get_or lists k e ≡ []) → one_after_other lists ≡ []
empty_all [] each = refl
empty_all (rows ∷ lists) each =
    flat_map-cons (λ (l : List Fragment). l) rows lists
    ∙ (λ i. each 0 rows (omega arith) i ++ empty_all lists (λ k e less. each (suc k) e (omega (arith, less))) i)

-- if no part has a next row, no rows are left
pub none_left : {R : Type 0} (remaining : R → Option (List ℕ)) (layout : AnswerLayout) (parts : List (AnswerPart R)) (lists : List (List Fragment)) → HaveRows remaining layout parts lists → All (λ (part : AnswerPart R). part.next ≡ None) parts → one_after_other lists ≡ []
none_left remaining layout [] [] has none = refl
none_left remaining layout [] (rows ∷ lists) has none = absurd (omega (arith, has.many))
none_left remaining layout (part ∷ parts) lists has none =
    empty_all lists (λ k e less.
    let within : k < length (part ∷ parts) = omega (arith, less, has.many) in
    let one = get_or (part ∷ parts) k part in
    none_next remaining layout one.reader one.next (get_or lists k e) (has.each k part e within) (none k part within))

-- ---- the runs of the first lists

module _ (combine : Combine) (v : List Value) (lists : List (List Fragment)) (place : ℕ) (d : List Fragment) (within : place < length lists) where
  pub runs_more : runs_of combine v (take (place + 1) lists) ≡ runs_of combine v (take place lists) ++ run_of combine v (get_or lists place d)
  runs_more =
      ap (runs_of combine v) (take_more lists place d within)
      ∙ flat_map-append (run_of combine v) (take place lists) (get_or lists place d ∷ [])
      ∙ ap (λ (l : List Fragment). runs_of combine v (take place lists) ++ l) (flat_map-cons (run_of combine v) (get_or lists place d) [] ∙ append-nil (run_of combine v (get_or lists place d)))

  pub after_more : AreAfter combine v (take place lists) → BeginsAbove combine v (after_run combine v (get_or lists place d)) → AreAfter combine v (take (place + 1) lists)
  after_more after begins =
      subst (AreAfter combine v) (sym (take_more lists place d within))
      (All-push (λ (rows : List Fragment). BeginsAbove combine v (after_run combine v rows)) (take place lists) (get_or lists place d) after begins)

pub at_middle : {X : Type 0} (xs : List X) (x : X) (ys : List X) (d : X) → get_or (xs ++ x ∷ ys) (length xs) d ≡ x
at_middle [] x ys d = refl
at_middle (first ∷ xs) x ys d = at_middle xs x ys d

-- the rows of answers are in order, and have a value for each column
pub answers_in_order : {R : Type 0} (remaining : R → Option (List ℕ)) (layout : AnswerLayout) (inputs : List R) (lists : List (List Fragment)) → AreAnswers remaining layout inputs lists → All (AreInOrder (length layout.columns.items)) lists
answers_in_order remaining layout [] lists are k d less = absurd (omega (arith, less, are.many))
answers_in_order remaining layout (input ∷ inputs) lists are k d less =
    let within : k < length (input ∷ inputs) = omega (arith, less, are.many) in
    let (text, known, is) = are.each k input d within in (is.ordered, rows_wide layout is.records (get_or lists k d) is.rows_are)
