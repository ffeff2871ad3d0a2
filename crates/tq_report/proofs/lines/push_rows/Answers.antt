use Rattle.std.proofs.Common.{◌≡◌, ◌∙◌, List, ℕ, ◌<◌, ◌++◌, ap, append_assoc, arith, get_or, length}
use Rattle.std.specs.List.{flat_map, range_with_len}
use Rattle.tq_base.specs.Keys.{no_row}
use Rattle.tq_base.specs.declared.fragment.Fragment.{Fragment}
use Rattle.tq_draw.proofs.Steps.{flat_map_step}
use Rattle.tq_report.specs.Reports.{between, row_at, row_text}
use Rattle.tq_report.proofs.lines.push_rows.Goals as goal

pub rows-preserved : goal.rows-preserved
rows-preserved c =
    let rows = c.args.rows.now in
    let lines = c.args.lines.now in
    let options = lines.options.now in
    let at = c.rows.row in
    let text = c.args.text.now.items in
    let written = row_at options lines.layout lines.columns rows in
    let row_is = row_text options lines.layout lines.columns in
    let before = text ++ flat_map written (range_with_len 0 at) in
    let within : at < length rows = omega (arith, c.rows-test.true, c.len-row-end.ensures) in
    let row : Fragment = record { values = c.row.result; period = c.period.result } in
    let values : c.row.result ≡ (get_or rows at no_row).values = c.row.ensures in
    let is : row ≡ get_or rows at no_row = λ i. record { values = values i; period = c.period.ensures no_row i } in
    c.in_ok-push_row.ensures
    ∙ ap (λ (l : List ℕ). l ++ row_is row) c.in_ok-push_between.ensures
    ∙ ap (λ (l : List ℕ). (l ++ between options.format at) ++ row_is row) c.prepare_row.ensures
    ∙ ap (λ (l : List ℕ). (l ++ between options.format at) ++ row_is row) c.rows.invariant
    ∙ ap (λ (r : Fragment). (before ++ between options.format at) ++ row_is r) is
    ∙ append_assoc before (between options.format at) (row_is (get_or rows at no_row))
    ∙ flat_map_step written text at
