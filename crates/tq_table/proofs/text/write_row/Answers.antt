use Rattle.std.proofs.Common.{ℕ, List, [], ◌∷◌, ◌++◌, append_assoc, map, subst}
use Rattle.csv.specs.Writing.{row_text}
use Rattle.std.specs.Prelude.{OnOk}
use Rattle.tq_base.specs.Numbers.{instant_text}
use Rattle.tq_base.specs.Values.{value_ref}
use Rattle.tq_table.specs.Text.{answer_format, bound_field, value_field}
use Rattle.tq_table.specs.Writing.{HasWritten}
use Rattle.tq_table.proofs.WritingLemmas.{no-fields}
use Rattle.tq_table.proofs.text.write_row.Goals as goal

pub returns : goal.returns
returns c text is =
    let form = c.args.form in
    let start = instant_text form c.args.period.start in
    let end = bound_field form c.args.period.end in
    let values = map value_field (map value_ref c.args.values.now) in
    let written = c.in_ok-write_values.ensures text [] (no-fields c.args.writer.now text is) in
    let begun = c.in_ok-write_instant.ensures text values written in
    let ended = c.in_ok-write_bound.ensures text (values ++ start ∷ []) begun in
    subst (λ (fields : List (List ℕ)). OnOk c.end_line.result (HasWritten c.end_line.new.writer (text ++ row_text answer_format fields)))
    (append_assoc values (start ∷ []) (end ∷ []))
    (c.end_line.ensures text ((values ++ start ∷ []) ++ end ∷ []) ended)
