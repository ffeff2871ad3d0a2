use Rattle.std.proofs.Common.{◌≡◌, ◌∙◌, List, ℕ, ◌+◌, ◌++◌, ap, get_or}
use Rattle.std.specs.List.{flat_map, range_with_len}
use Rattle.csv.specs.Writing.{row_text}
use Rattle.tq_base.specs.Keys.{no_row}
use Rattle.tq_base.specs.declared.fragment.Fragment.{Fragment}
use Rattle.tq_draw.proofs.Steps.{flat_map_step}
use Rattle.tq_report.specs.TypedTexts.{typed_fields, typed_line}
use Rattle.tq_table.specs.Text.{answer_format}
use Rattle.tq_report.proofs.typed_texts.push_typed_rows.Goals as goal

pub rows-preserved : goal.rows-preserved
rows-preserved c =
    let rows = c.args.rows.now in
    let form = c.args.form in
    let at = c.rows.row in
    let text = c.args.text.now.items in
    let line = λ (row : Fragment). row_text answer_format (typed_fields form (at + 1) row) in
    let before = text ++ flat_map (typed_line form rows) (range_with_len 0 at) in
    let row : Fragment = record { values = c.row.result; period = c.period.result } in
    let values : c.row.result ≡ (get_or rows at no_row).values = c.row.ensures in
    let is : row ≡ get_or rows at no_row = λ i. record { values = values i; period = c.period.ensures no_row i } in
    c.in_ok-push_typed_row.ensures
    ∙ ap (λ (l : List ℕ). l ++ line row) c.rows.invariant
    ∙ ap (λ (r : Fragment). before ++ line r) is
    ∙ flat_map_step (typed_line form rows) text at
