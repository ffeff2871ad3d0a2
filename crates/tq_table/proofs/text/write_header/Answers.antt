use Rattle.std.proofs.Common.{◌≡◌, ◌∙◌, get_or, ℕ, List, [], ◌∷◌, ◌++◌, append_assoc, arith, codes, subst, take}
use Rattle.std.proofs.lemmas.List.{take_all, take_more}
use Rattle.csv.specs.Writing.{row_text}
use Rattle.std.specs.Prelude.{OnOk}
use Rattle.tq_table.specs.Text.{answer_format}
use Rattle.tq_table.specs.Writing.{HasWritten}
use Rattle.tq_table.proofs.WritingLemmas.{no-fields}
use Rattle.tq_table.proofs.text.write_header.Goals as goal

pub columns-init : goal.columns-init
columns-init c text is = no-fields c.args.writer.now text is

pub columns-preserved : goal.columns-preserved
columns-preserved c text is =
    let columns = c.args.columns.now in
    let at = c.columns.column-index in
    let last = c.column-item.result in
    let field : c.bytes.result.now ≡ get_or columns at last = c.bytes.ensures.value ∙ c.column-item.is in
    rw (take_more columns at last c.columns-test.true, ← field) (c.in_ok-write_field.ensures text (take at columns) (c.columns.invariant text is))

pub returns : goal.returns
returns c text is =
    let columns = c.args.columns.now in
    let all = take_all c.columns.column-index columns (omega (arith, c.columns-test.false)) in
    let from = codes "from" in
    let to = codes "to" in
    let written = rw all at (c.columns.invariant text is) in
    let begun = c.in_ok-write_field-2.ensures text columns written in
    let ended = c.in_ok-write_field-3.ensures text (columns ++ from ∷ []) begun in
    subst (λ (fields : List (List ℕ)). OnOk c.end_line.result (HasWritten c.end_line.new.writer (text ++ row_text answer_format fields)))
    (append_assoc columns (from ∷ []) (to ∷ []))
    (c.end_line.ensures text ((columns ++ from ∷ []) ++ to ∷ []) ended)
