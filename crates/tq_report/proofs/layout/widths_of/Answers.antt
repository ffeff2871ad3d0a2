use Rattle.std.proofs.Common.{◌≡◌, ◌∙◌, List, ℕ, [], ◌∷◌, ◌++◌, ap, sym, map, arith}
use Rattle.std.proofs.lemmas.List.FromFn.{map-range_with_len_more}
use Rattle.std.specs.List.{range_with_len}
use Rattle.tq_report.specs.Layouts.{column_width}
use Rattle.tq_report.proofs.layout.widths_of.Goals as goal

pub columns-preserved : goal.columns-preserved
columns-preserved c =
    let columns = c.args.table.now.columns in
    let rows = c.args.table.now.rows in
    let width = column_width c.args.options.now.places.items columns rows in
    let at = c.columns.column in
    let this : c.in_ok-column_width.field-0 ≡ width at = c.in_ok-column_width.ensures ∙ ap (λ (l : List ℕ). column_width l columns rows at) c.deref.ensures.value in
    c.in_ok-push.ensures.items
    ∙ ap (λ (l : List ℕ). l ++ c.in_ok-column_width.field-0 ∷ []) c.columns.invariant
    ∙ ap (λ (n : ℕ). map width (range_with_len 0 at) ++ n ∷ []) this
    ∙ sym (map-range_with_len_more width 0 at at (omega arith))
