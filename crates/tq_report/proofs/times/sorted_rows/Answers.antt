use Rattle.std.proofs.Common.{◌≡◌, ◌∙◌, ◌<◌, List, IsPermutation, ap, get_or, length, map, subst, sym}
use Rattle.std.specs.Prelude.{All}
use Rattle.std.proofs.lemmas.List.Sorted.{All-permutation, IsPermutation-map}
use Rattle.tq_base.specs.RowLists.{RowList}
use Rattle.tq_base.specs.Relations.{row_period_of}
use Rattle.tq_base.specs.declared.fragment.Fragment.{Fragment}
use Rattle.tq_base.specs.declared.relation.RowPeriod.{RowPeriod}
use Rattle.tq_report.proofs.TimeLemmas.{keys_rows, keys_within}
use Rattle.tq_report.proofs.times.sorted_rows.Goals as goal

pub take_row_periods-requires : goal.take_row_periods-requires
take_row_periods-requires c k d less =
    let rows = c.args.rows.now in
    let keys = c.in_ok-keys.keys.items in
    let sorted = c.sort_keys.new.keys.items in
    let within : All (λ (key : RowPeriod). key.row < length rows) keys = subst (All (λ (key : RowPeriod). key.row < length rows)) (sym c.in_ok-keys.ensures) (keys_within rows) in
    let there = All-permutation (λ (key : RowPeriod). key.row < length rows) keys sorted c.sort_keys.ensures.same within in
    let same : c.in_ok-copy.copy.items ≡ rows = ap (λ (r : RowList). r.items) c.in_ok-copy.ensures ∙ c.in_ok-copied.ensures in
    subst (λ (l : List Fragment). (get_or c.deref.result.now k d).row < length l) (sym same)
    (subst (All (λ (key : RowPeriod). key.row < length rows)) (sym c.deref.ensures.value) there k d less)

pub returns-clause-same : goal.returns-clause-same
returns-clause-same c =
    let rows = c.args.rows.now in
    let row = row_period_of rows in
    let keys = c.in_ok-keys.keys.items in
    let sorted = c.sort_keys.new.keys.items in
    let before : map row keys ≡ rows = ap (map row) c.in_ok-keys.ensures ∙ keys_rows rows in
    let moved = IsPermutation-map row keys sorted c.sort_keys.ensures.same in
    let same : c.in_ok-copy.copy.items ≡ rows = ap (λ (r : RowList). r.items) c.in_ok-copy.ensures ∙ c.in_ok-copied.ensures in
    let after : c.in_ok-take_row_periods.field-0.items ≡ map row sorted =
    c.in_ok-take_row_periods.ensures.rows ∙ ap (λ (l : List Fragment). map (row_period_of l) c.deref.result.now) same ∙ ap (map row) c.deref.ensures.value in
    subst (IsPermutation rows) (sym (c.of.ensures ∙ after)) (subst (λ (l : List Fragment). IsPermutation l (map row sorted)) before moved)
