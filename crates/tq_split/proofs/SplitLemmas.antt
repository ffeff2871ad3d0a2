-- Answers over parts of tables, and the answer over the whole tables.
use Rattle.std.proofs.Common.{◌≡◌, ◌<◌, ◌+◌, ◌++◌, ◌∙◌, ℕ, List, [], ◌∷◌, ap, arith, get_or, length, refl, sum_by, sym}
use Rattle.std.specs.List.{range_with_len}
use Rattle.std.proofs.lemmas.List.{get_or-map, length-map}
use Rattle.std.proofs.lemmas.List.Concat.{flat_map-cons}
use Rattle.std.proofs.lemmas.List.Sums.{sum_by-cons}
use Rattle.tq_base.specs.declared.fragment.Fragment.{Fragment}
use Rattle.tq_base.specs.declared.value.Value.{Value}
use Rattle.tq_base.specs.Copies.{copies-append}
use Rattle.tq_base.specs.Fragments.{at, copies}
use Rattle.tq_base.specs.Ranges.{one_after_other}
use Rattle.tq_event.specs.Tables.{rows_in}
use Rattle.tq_plan.specs.declared.plans.Plan.{Plan}
use Rattle.tq_table.specs.declared.table.Table.{Table}
use Rattle.tq_exec.specs.Answers.{in_tables, times_at, ValidRows}
use Rattle.tq_exec.specs.Partitioning.{Columns, goes_to, in_partition}
use Rattle.tq_exec.proofs.PartLemmas.{by_number}
use Rattle.tq_exec.proofs.PartitionPartLemmas.{at_left}
use Rattle.tq_split.specs.Splits.{AddedAnswersAnswer, ArePartAnswers, AreTablesOfPart, MergedAnswersAnswer, rows_of_answers}

copies_of_all : (v : List Value) (t : ℕ) (lists : List (List Fragment)) → copies (one_after_other lists) v t ≡ sum_by (λ (rows : List Fragment). copies rows v t) lists
copies_of_all v t [] = refl
copies_of_all v t (rows ∷ lists) =
    ap (λ l. copies l v t) (flat_map-cons (λ (l : List Fragment). l) rows lists)
    ∙ (let both : copies (rows ++ one_after_other lists) v t ≡ sum_by (λ (l : List Fragment). copies l v t) (rows ∷ lists) =
    omega (arith, copies-append rows (one_after_other lists) v t, copies_of_all v t lists, sum_by-cons (λ (l : List Fragment). copies l v t) rows lists) in
    both)

-- what is valid in the tables of a part
valid_in_part : (part_of : Value → ℕ) (columns : Columns) (number : ℕ) (whole part : List (List Fragment)) → AreTablesOfPart part_of columns number whole part
    → in_tables part ≡ in_partition part_of columns number (in_tables whole)
valid_in_part part_of columns number whole part are =
    λ i table t. (ap (λ l. at l t) (are table) ∙ at_left (goes_to part_of number (columns table)) (rows_in whole table) t) i

module _ (part_of : Value → ℕ) (columns : Columns) (count : ℕ) (whole : List (List Fragment)) (plan : Plan) (answers : List Table) (parts : ArePartAnswers part_of columns count whole plan answers) where
  of_part : (v : List Value) (t i : ℕ) (d : List Fragment) → i < length (rows_of_answers answers) → copies (get_or (rows_of_answers answers) i d) v t ≡ times_at (in_partition part_of columns (0 + i) (in_tables whole)) plan v t
  of_part v t i d less =
      let many = length-map answers (λ (answer : Table). answer.rows) in
      let none : Table = record { columns = []; rows = d } in
      let within : i < length answers = omega (arith, less, many) in
      let (part, are, answer) = parts.each i none (omega (arith, within, parts.many)) in
      let here : i ≡ 0 + i = omega arith in
      ap (λ l. copies l v t) (get_or-map (λ (a : Table). a.rows) answers i none d within)
      ∙ answer.layers.counted v t
      ∙ ap (λ (valid : ValidRows). times_at valid plan v t) (valid_in_part part_of columns i whole part are)
      ∙ ap (λ n. times_at (in_partition part_of columns n (in_tables whole)) plan v t) here

  -- the rows of all answers are those of the plan over all parts
  all_answers : (v : List Value) (t : ℕ) → copies (one_after_other (rows_of_answers answers)) v t ≡ sum_by (λ (i : ℕ). times_at (in_partition part_of columns i (in_tables whole)) plan v t) (range_with_len 0 count)
  all_answers v t =
      let many : length (rows_of_answers answers) ≡ count = omega (arith, parts.many, length-map answers (λ (answer : Table). answer.rows)) in
      copies_of_all v t (rows_of_answers answers)
      ∙ by_number (λ (l : List Fragment). copies l v t) (λ (i : ℕ). times_at (in_partition part_of columns i (in_tables whole)) plan v t) 0 (rows_of_answers answers) (of_part v t)
      ∙ ap (λ n. sum_by (λ (i : ℕ). times_at (in_partition part_of columns i (in_tables whole)) plan v t) (range_with_len 0 n)) many

pub merged_answers : MergedAnswersAnswer
merged_answers part_of columns count catalogue whole plan answers rows add_up below fit over parts merged = record {
  columns = refl;
  layers = record {
    ordered = merged.ordered;
    coalesced = merged.coalesced;
    counted = λ v t. merged.counted v t ∙ all_answers part_of columns count whole plan answers parts v t ∙ add_up part_of count catalogue (in_tables whole) below fit over v t;
  };
}

pub added_answers : AddedAnswersAnswer
added_answers groups part_of columns count catalogue whole plan answers rows add_up below fit over parts added = record {
  columns = refl;
  layers = record {
    ordered = added.ordered;
    coalesced = added.coalesced;
    counted = λ v t.
        added.counted v t
        ∙ add_up part_of count catalogue (in_tables whole) below fit over t (at (one_after_other (rows_of_answers answers)) t) (λ u. sym (all_answers part_of columns count whole plan answers parts u t)) v;
  };
}
