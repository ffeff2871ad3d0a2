use Rattle.std.proofs.Common.{◌≡◌, ◌∙◌, ◌≤◌, ◌++◌, ◌∷◌, [], ap, length, map, refl, subst, sym, arith}
use Rattle.std.specs.Prelude.{All, None}
use Rattle.std.specs.List.{range_with_len}
use Rattle.std.proofs.lemmas.List.{length-map}
use Rattle.std.proofs.lemmas.List.FromFn.{length-map-range_with_len}
use Rattle.tq_base.specs.declared.fragment.Fragment.{Fragment}
use Rattle.tq_base.specs.declared.parts.Part.{Part}
use Rattle.tq_base.specs.Parts.{first_column, first_periods, rows_by_number, source_list, IsIn}
use Rattle.tq_base.specs.RowLists.{RowList}
use Rattle.tq_base.proofs.RelationLemmas.{first_columns_in, whole_rows}
use Rattle.tq_base.proofs.relation.whole.Goals as goal

pub invariant_of-result : goal.invariant_of-result
invariant_of-result c =
    let list = source_list c.args.source in
    let part : Part = record { source = c.args.source; numbers = None } in
    let parts : c.push.new.self.items ≡ part ∷ [] = c.in_ok-push.ensures.items ∙ ap (λ l. l ++ part ∷ []) c.in_ok-parts.ensures.items in
    let len : length (first_periods (part ∷ [])) ≡ length list.items = length-map list.items (λ (row : Fragment). row.period) in
    let rows : length c.rows-rows.result.now.items ≡ length list.items = ap (λ (v : RowList). length v.items) c.rows-rows.ensures in
    let few : length (first_periods (part ∷ [])) ≤ 4294967295 = omega (arith, len, rows, c.len-are_few.ensures.len, c.len-are_few.ensures.few) in (
      c.int.ensures,
      subst (λ l. length (first_periods l) ≤ 4294967295) (sym parts) few,
      subst (λ l. All (IsIn (length l)) c.in_ok-columns.columns.items) (sym parts) (subst (All (IsIn 1)) (sym c.in_ok-columns.ensures) (first_columns_in (range_with_len 0 c.width.result))),
    )

pub returns : goal.returns
returns c =
    let list = source_list c.args.source in
    let part : Part = record { source = c.args.source; numbers = None } in
    let parts : c.push.new.self.items ≡ part ∷ [] = c.in_ok-push.ensures.items ∙ ap (λ l. l ++ part ∷ []) c.in_ok-parts.ensures.items in
    let columns = c.in_ok-columns.columns.items in
    let width : c.width.result ≡ list.width = c.width.ensures.width ∙ ap (λ (v : RowList). v.width) c.rows-rows.ensures in
    let wide : All (λ (row : Fragment). length row.values ≡ list.width) list.items =
    subst (λ (v : RowList). All (λ (row : Fragment). length row.values ≡ v.width) v.items) c.rows-rows.ensures c.width.ensures.rows in
    let are : columns ≡ map first_column (range_with_len 0 list.width) = c.in_ok-columns.ensures ∙ ap (λ n. map first_column (range_with_len 0 n)) width in
    let len : length columns ≡ list.width = ap length are ∙ length-map-range_with_len first_column 0 list.width in
    let rows : rows_by_number c.push.new.self.items columns 0 (first_periods c.push.new.self.items) ≡ list.items =
    ap (λ l. rows_by_number l columns 0 (first_periods l)) parts ∙ whole_rows part columns list.width refl are wide in
    λ i. record { width = len i; items = rows i }
