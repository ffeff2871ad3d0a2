use Rattle.std.proofs.Common.{◌∙◌, List, map, subst, sym}
use Rattle.std.specs.Prelude.{IsPermutation}
use Rattle.tq_base.specs.declared.sort_input.SortKey.{SortKey}
use Rattle.tq_base.specs.Keys.{key_row, SortInputState}
use Rattle.tq_check.proofs.EqualRowLemmas.{meeting_permuted, overlapping_permuted}
use Rattle.tq_check.proofs.equal_rows.tally_relation.Goals as goal

pub returns-clause-overlapping : goal.returns-clause-overlapping
returns-clause-overlapping c =
    let rows = c.args.rows.now.items in
    let s : SortInputState = record { left = rows; right = rows; left_columns = c.deref.result.now; right_columns = c.deref-2.result.now } in
    let moved : IsPermutation rows (map (key_row s) c.deref-3.result.now) = subst (λ (l : List SortKey). IsPermutation rows (map (key_row s) l)) (sym c.deref-3.ensures.value) c.in_ok-keys.ensures.rows in
    c.tally_keys.ensures.overlapping ∙ overlapping_permuted rows (map (key_row s) c.deref-3.result.now) moved

pub returns-clause-meeting : goal.returns-clause-meeting
returns-clause-meeting c =
    let rows = c.args.rows.now.items in
    let s : SortInputState = record { left = rows; right = rows; left_columns = c.deref.result.now; right_columns = c.deref-2.result.now } in
    let moved : IsPermutation rows (map (key_row s) c.deref-3.result.now) = subst (λ (l : List SortKey). IsPermutation rows (map (key_row s) l)) (sym c.deref-3.ensures.value) c.in_ok-keys.ensures.rows in
    c.tally_keys.ensures.meeting ∙ meeting_permuted rows (map (key_row s) c.deref-3.result.now) moved
