use Rattle.std.proofs.Common.{◌≡◌, ◌∙◌, ◌+◌, ◌<◌, ◌++◌, ◌∷◌, [], List, ℕ, ap, append_assoc, arith, codes, get_or, length, map, subst, sym, take}
use Rattle.std.proofs.lemmas.List.{map-append, take_all, take_more}
use Rattle.tq_import.specs.declared.plan.PlannedColumn.{PlannedColumn}
use Rattle.tq_import.specs.Imports.{column_field, number_header}
use Rattle.tq_import.specs.Records.{HasFields}
use Rattle.tq_import.proofs.writing.header_fields.Goals as goal

pub columns-preserved : goal.columns-preserved
columns-preserved c =
    let numbers = number_header c.args.plan.now.numbered in
    let columns : List PlannedColumn = c.args.plan.now.columns in
    let at = c.columns.column-index in
    let column = c.column-item.result in
    let h = c.in_ok-push_column.ensures (numbers ++ map column_field (take at columns)) c.columns.invariant in
    let less : at < length columns = omega (arith, c.columns-test.true, ap length c.get-column-items.ensures) in
    let is : column ≡ get_or columns at column = c.column-item.is ∙ ap (λ (l : List PlannedColumn). get_or l at column) c.get-column-items.ensures in
    let listed : take (at + 1) columns ≡ take at columns ++ column ∷ [] =
    take_more columns at column less ∙ ap (λ (x : PlannedColumn). take at columns ++ x ∷ []) (sym is) in
    let grown : (numbers ++ map column_field (take at columns)) ++ column_field column ∷ [] ≡ numbers ++ map column_field (take (at + 1) columns) =
    append_assoc numbers (map column_field (take at columns)) (column_field column ∷ [])
    ∙ ap (λ (l : List (List ℕ)). numbers ++ l) (sym (map-append column_field (take at columns) (column ∷ [])) ∙ ap (map column_field) (sym listed)) in
    (h.0 ∙ grown, h.1)

pub returns : goal.returns
returns c =
    let numbers = number_header c.args.plan.now.numbered in
    let columns : List PlannedColumn = c.args.plan.now.columns in
    let at = c.columns.column-index in
    let all = take_all at columns (omega (arith, c.columns-test.false, ap length c.get-column-items.ensures)) in
    let names = numbers ++ map column_field columns in
    let held = subst (λ (l : List PlannedColumn). HasFields c.columns.fields (numbers ++ map column_field l)) all c.columns.invariant in
    let from = c.in_ok-push_field.ensures names held in
    let to = c.in_ok-push_field-2.ensures (names ++ codes "from" ∷ []) from in
    to.0 ∙ append_assoc names (codes "from" ∷ []) (codes "to" ∷ [])
