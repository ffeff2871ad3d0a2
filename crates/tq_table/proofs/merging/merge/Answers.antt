use Rattle.std.proofs.Common.{◌≡◌, ◌∙◌, List, ℕ, ap, length, map, subst, sym}
use Rattle.std.specs.Prelude.{All, IsSorted}
use Rattle.std.specs.List.{sum}
use Rattle.tq_base.specs.declared.fragment.Fragment.{Fragment}
use Rattle.tq_base.specs.Fragments.{fragment_cmp}
use Rattle.tq_base.specs.RowLists.{RowList}
use Rattle.tq_table.specs.Merging.{all_rows, cut_by}
use Rattle.tq_table.proofs.MergeLemmas.{cut_in_order, len_of, lens_sum}
use Rattle.tq_table.proofs.merging.merge.Goals as goal

pub merged_row_periods-requires-clause-whole : goal.merged_row_periods-requires-clause-whole
merged_row_periods-requires-clause-whole c =
    let lists = c.args.lists.items in
    let lens : c.deref-2.result.now ≡ map len_of lists = c.deref-2.ensures.value ∙ c.in_ok-lens.ensures ∙ ap (map len_of) c.deref.ensures.value in
    let rows : c.in_ok-rows.rows.items ≡ all_rows lists = ap (λ (r : RowList). r.items) c.in_ok-rows.ensures ∙ c.in_ok-chained.ensures.rows in
    ap sum lens ∙ lens_sum lists ∙ ap length (sym rows)

pub merged_row_periods-requires-clause-in_order : goal.merged_row_periods-requires-clause-in_order
merged_row_periods-requires-clause-in_order c =
    let lists = c.args.lists.items in
    let lens : c.deref-2.result.now ≡ map len_of lists = c.deref-2.ensures.value ∙ c.in_ok-lens.ensures ∙ ap (map len_of) c.deref.ensures.value in
    let rows : c.in_ok-rows.rows.items ≡ all_rows lists = ap (λ (r : RowList). r.items) c.in_ok-rows.ensures ∙ c.in_ok-chained.ensures.rows in
    subst (λ (l : List ℕ). All (IsSorted fragment_cmp) (cut_by l c.in_ok-rows.rows.items)) (sym lens)
    (subst (λ (l : List Fragment). All (IsSorted fragment_cmp) (cut_by (map len_of lists) l)) (sym rows) (cut_in_order lists c.requires.in_order))
