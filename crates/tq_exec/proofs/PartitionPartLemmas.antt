-- Partitions of the rows of tables: each value goes to one of them, and the texts of the answers over them are that of the answer.
use Rattle.std.proofs.Common.{◌≡◌, ◌<◌, ◌≤◌, ◌+◌, ◌-◌, ◌==◌, ℕ, zero, suc, true, false, Bool, cond, List, [], ◌∷◌, ◌∙◌, ap, arith, get_or, length, map, filter, drop, None, Some, Option, refl, subst, sum_by, sym}
use Rattle.std.specs.Prelude.{All, nat_le}
use Rattle.std.specs.Global.{Vec}
use Rattle.std.specs.List.{range_with_len}
use Rattle.std.proofs.lemmas.List.{drop_all, drop_more, get_or-map, length-map}
use Rattle.std.proofs.lemmas.List.Elements.{All-weaker}
use Rattle.memchr.specs.Find.{Passes, is_byte, places, places_from}
use Rattle.memchr.proofs.lemmas.CallerLemmas.{All-places}
use Rattle.tq_base.specs.declared.catalogue.Catalogue.{Catalogue}
use Rattle.tq_base.specs.declared.fragment.Fragment.{Fragment}
use Rattle.tq_base.specs.declared.value.Value.{Value}
use Rattle.tq_base.specs.Fragments.{at}
use Rattle.tq_base.specs.Periods.{holds}
use Rattle.tq_base.specs.NormalizedKeys.{normalized_key}
use Rattle.tq_base.specs.RowLists.{RowList}
use Rattle.tq_base.specs.declared.key_range.KeyRange.{KeyRange}
use Rattle.tq_base.specs.declared.period.Period.{Period}
use Rattle.tq_event.specs.Tables.{lists_of, rows_in}
use Rattle.tq_base.specs.Ranges.{AreAscending}
use Rattle.tq_base.specs.RowValues.{value_at}
use Rattle.tq_plan.specs.declared.plans.Plan.{Plan}
use Rattle.tq_plan.specs.ValidPlans.{AreQueriesOver}
use Rattle.tq_exec.specs.Answers.{in_tables, times_at, ValidRows}
use Rattle.tq_exec.specs.Scan.{AreRowsIn, HasRowsIn}
use Rattle.tq_exec.proofs.SourceLemmas.{whole_table}
use Rattle.tq_exec.specs.Fitting.{AreFitting}
use Rattle.tq_exec.specs.Partitioning.{ArePartitionedBy, PartitionsHaveAnswers, goes_to, in_partition}
use Rattle.tq_run.specs.Results.{IsResultList}
use Rattle.tq_exec.specs.AnswerParts.{HaveAnswer}
use Rattle.tq_exec.specs.declared.answer_parts.AnswerPart.{AnswerPart}
use Rattle.tq_exec.specs.declared.answer_parts.Wanted.{Wanted}
use Rattle.tq_exec.specs.Partitions.{ArePartitionIds, IsPartitionPart, IsPartitionIds, columns_in, partition_of}
use Rattle.tq_exec.specs.Parts.{AreParts, PartitionsAreParts}
use Rattle.tq_exec.proofs.AnswerPartLemmas.{parts_answer}
use Rattle.tq_exec.proofs.RangeLemmas.{counted_once}

-- a value goes to one of the partitions
pub few_left : (p : ℕ → Bool) (cuts : List ℕ) → length (filter p cuts) < length cuts + 1
few_left p [] = omega arith
few_left p (cut ∷ cuts) = by (p cut) (few_left p cuts)
  where
    by : (b : Bool) → length (filter p cuts) < length cuts + 1 → length (cond b (cut ∷ filter p cuts) (filter p cuts)) < suc (length cuts) + 1
    by true few = omega (arith, few)
    by false few = omega (arith, few)

pub partitions_are_parts : PartitionsHaveAnswers → PartitionsAreParts
partitions_are_parts law partition_of count columns catalogue valid plan below fit over partitioned v t =
    ap (λ (f : ℕ → ℕ). sum_by f (range_with_len 0 count)) (λ k i. law partition_of columns i catalogue valid plan fit over partitioned v t k)
    ∙ counted_once (partition_of (value_at v 0)) (times_at valid plan v t) 0 count (omega arith) (omega (arith, below (value_at v 0)))

-- where the parts stand in order, they are those of the answer
pub have_answer : PartitionsHaveAnswers → (wanted : Wanted) (catalogue : Catalogue) (valid : ValidRows) (plan : Plan) (cuts : List ℕ) (columns : List (Option ℕ)) (partitions : List AnswerPart) → AreFitting catalogue valid → AreQueriesOver catalogue plan
    → ArePartitionedBy (columns_in columns) plan → IsResultList (IsPartitionPart wanted valid plan cuts columns) (length cuts + 1) partitions → AreAscending (map (λ (r : AnswerPart). r.rows) partitions)
    → HaveAnswer wanted (length plan.left.outputs) (times_at valid plan) (map (λ (r : AnswerPart). r.made) partitions)
have_answer law wanted catalogue valid plan cuts columns partitions fit over partitioned are order =
    let part = λ (i : ℕ). times_at (in_partition (partition_of cuts) (columns_in columns) i valid) plan in
    parts_answer wanted (length plan.left.outputs) part partitions (times_at valid plan)
    (subst (λ n. AreParts n part (times_at valid plan)) (sym are.0) (partitions_are_parts law (partition_of cuts) (length cuts + 1) (columns_in columns) catalogue valid plan (λ (value : Value). few_left (λ cut. nat_le cut (normalized_key value)) cuts) fit over partitioned))
    (λ i d less. are.1 i d (omega (arith, less, are.0)))
    order

-- ---- the rows of a partition

-- what is valid of the rows that are left
pub at_left : (p : List Value → Bool) (rows : List Fragment) (t : ℕ) → at (filter (λ (row : Fragment). p row.values) rows) t ≡ filter p (at rows t)
at_left p [] t = refl
at_left p (row ∷ rows) t = by (p row.values) (holds row.period t) refl refl (at_left p rows t)
  where
    by : (b c : Bool) → p row.values ≡ b → holds row.period t ≡ c → at (filter (λ (row : Fragment). p row.values) rows) t ≡ filter p (at rows t) → at (filter (λ (row : Fragment). p row.values) (row ∷ rows)) t ≡ filter p (at (row ∷ rows) t)
    by true true is there rest = rw (is, there) (rw is (ap (λ l. row.values ∷ l) rest))
    by true false is there rest = rw (is, there) rest
    by false true is there rest = rw (is, there) (rw is rest)
    by false false is there rest = rw (is, there) rest

all_left : {X : Type 0} (xs : List X) → filter (λ (x : X). true) xs ≡ xs
all_left [] = refl
all_left (x ∷ xs) = ap (λ l. x ∷ l) (all_left xs)

-- the rows of a table
pub table_rows : (tables : List RowList) (table : ℕ) (rows : RowList) → table < length tables → ((d : RowList) → rows ≡ get_or tables table d) → rows_in (lists_of tables) table ≡ rows.items
table_rows [] table rows within is = absurd (omega (arith, within))
table_rows (first ∷ tables) zero rows within is = ap (λ (r : RowList). r.items) (sym (is rows))
table_rows (first ∷ tables) (suc table) rows within is = table_rows tables table rows (omega (arith, within)) is

-- a table that is not there
pub no_table : (tables : List RowList) (table : ℕ) → length tables ≤ table → rows_in (lists_of tables) table ≡ []
no_table [] table past = refl
no_table (first ∷ tables) zero past = absurd (omega (arith, past))
no_table (first ∷ tables) (suc table) past = no_table tables table (omega (arith, past))

-- what is told of the rows of a table that is partitioned
pub ids_are : (cuts : List ℕ) (columns : List (Option ℕ)) (tables : List RowList) (ids : List (Vec ℕ)) (table column : ℕ) (rows : RowList) (d : Vec ℕ) → ArePartitionIds cuts columns (lists_of tables) ids → columns_in columns table ≡ Some column
    → table < length tables → ((e : RowList) → rows ≡ get_or tables table e) → (get_or ids table d).items ≡ map (λ (row : Fragment). partition_of cuts (value_at row.values column)) rows.items
ids_are cuts columns tables ids table column rows d are some within is =
    subst (λ c. IsPartitionIds cuts c (rows_in (lists_of tables) table) (get_or ids table d).items) some (are.each table d (omega (arith, within, length-map tables (λ (r : RowList). r.items))))
    ∙ ap (map (λ (row : Fragment). partition_of cuts (value_at row.values column))) (table_rows tables table rows within is)

-- rows that are not partitioned go to each partition
pub whole_held : (partition : Value → ℕ) (number : ℕ) (columns : List (Option ℕ)) (valid : ValidRows) (table : ℕ) (window : Period) (keys : KeyRange) (rows : List Fragment) → columns_in columns table ≡ None
    → HasRowsIn window keys (valid table) rows → HasRowsIn window keys (in_partition partition (columns_in columns) number valid table) rows
whole_held partition number columns valid table window keys rows none has =
    λ t inside. subst (λ l. AreRowsIn keys l (at rows t)) (sym (ap (λ c. filter (goes_to partition number c) (valid table t)) none ∙ all_left (valid table t))) (has t inside)

-- rows that are partitioned
pub partition_held : (cuts : List ℕ) (number column : ℕ) (columns : List (Option ℕ)) (tables : List (List Fragment)) (table : ℕ) (window : Period) (keys : KeyRange) (rows : List Fragment) → columns_in columns table ≡ Some column
    → rows ≡ filter (λ (row : Fragment). partition_of cuts (value_at row.values column) == number) (rows_in tables table)
    → HasRowsIn window keys (in_partition (partition_of cuts) (columns_in columns) number (in_tables tables) table) rows
partition_held cuts number column columns tables table window keys rows some is =
    λ t inside.
    whole_table keys (in_partition (partition_of cuts) (columns_in columns) number (in_tables tables) table t) (at rows t)
    (ap (λ l. at l t) is
    ∙ at_left (λ values. partition_of cuts (value_at values column) == number) (rows_in tables table) t
    ∙ ap (λ c. filter (goes_to (partition_of cuts) number c) (at (rows_in tables table) t)) (sym some))

-- ---- the rows at the places at which the number of a partition is told

-- an item that is put in front, or left out
first_or_none : {X Y : Type 0} (f : X → Y) (b : Bool) (x : X) (xs : List X) (ys : List Y) → map f xs ≡ ys → map f (cond b (x ∷ xs) xs) ≡ cond b (f x ∷ ys) ys
first_or_none f true x xs ys rest = ap (λ l. f x ∷ l) rest
first_or_none f false x xs ys rest = rest

-- of those from a place on
from_place : {X : Type 0} (partition : X → ℕ) (number : ℕ) (rows : List X) (d : X) (place n : ℕ) → place + n ≡ length rows → map (λ k. get_or rows k d) (places_from (is_byte number) (map partition rows) place n) ≡ filter (λ row. partition row == number) (drop place rows)
unfolding places_from
from_place partition number rows d place zero is = sym (ap (filter (λ row. partition row == number)) (drop_all place rows (omega (arith, is))))
from_place partition number rows d place (suc n) is =
    let within : place < length rows = omega (arith, is) in
    let later = places_from (is_byte number) (map partition rows) (place + 1) n in
    let left = filter (λ row. partition row == number) (drop (place + 1) rows) in
    ap (λ m. map (λ k. get_or rows k d) (cond (m == number) (place ∷ later) later)) (get_or-map partition rows place d 0 within)
    ∙ first_or_none (λ k. get_or rows k d) (partition (get_or rows place d) == number) place later left (from_place partition number rows d (place + 1) n (omega (arith, is)))
    ∙ sym (ap (filter (λ row. partition row == number)) (drop_more rows place d within))

-- of all
pub at_places : {X : Type 0} (partition : X → ℕ) (number : ℕ) (ids : List ℕ) (rows : List X) (d : X) → ids ≡ map partition rows → map (λ k. get_or rows k d) (places (is_byte number) ids) ≡ filter (λ row. partition row == number) rows
at_places partition number ids rows d is =
    let many : length (map partition rows) - 0 ≡ length rows = omega (arith, length-map rows partition) in
    ap (λ l. map (λ k. get_or rows k d) (places (is_byte number) l)) is
    ∙ ap (λ n. map (λ k. get_or rows k d) (places_from (is_byte number) (map partition rows) 0 n)) many
    ∙ from_place partition number rows d 0 (length rows) (omega arith)

-- at each of the places stands one of so many rows
pub places_within : (number : ℕ) (ids found : List ℕ) (many : ℕ) → found ≡ places (is_byte number) ids → length ids ≡ many → All (λ k. k < many) found
places_within number ids found many are is =
    subst (All (λ k. k < many)) (sym are)
    (All-weaker (λ k. (k < length ids) × Passes (is_byte number) ids k) (λ k. k < many) (λ k here. subst (λ n. k < n) is here.0) (places (is_byte number) ids) (All-places (is_byte number) ids))
