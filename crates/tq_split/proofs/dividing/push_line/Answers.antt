use Rattle.std.proofs.Common.{◌≡◌, ◌∙◌, ◌++◌, ℕ, List, ap, arith, drop, length, refl}
use Rattle.std.specs.Global.{Vec}
use Rattle.std.proofs.lemmas.List.{drop_at, take_rest}
use Rattle.csv.specs.Records.{fields_of}
use Rattle.csv.specs.Writing.{row_text}
use Rattle.tq_table.specs.Text.{answer_format}
use Rattle.tq_split.proofs.dividing.push_line.Goals as goal

pub returns-clause-line : goal.returns-clause-line
returns-clause-line c =
    let (before, was) = c.requires in
    let row = row_text answer_format (fields_of c.args.record.now) in
    let now = c.in_ok-write_through.ensures before was in
    let start : c.len-start.result ≡ length before = omega (arith, c.len-start.ensures, c.get_ref.result.now.ok.0, ap (λ (v : Vec ℕ). length v.items) c.get_ref.ensures, ap length was.held) in
    let lines : c.as_slice-lines.result.now ≡ before ++ row = c.as_slice-lines.ensures.value ∙ ap (λ (v : Vec ℕ). v.items) c.get_ref-2.ensures ∙ now.held in
    c.in_ok-extend_from_slice.ensures.items
    ∙ ap (λ (t : List ℕ). c.args.text.now.items ++ t)
    (take_rest c.as_slice-lines.result.now c.len-start.result ∙ (λ i. drop (start i) (lines i)) ∙ drop_at before row (length before) refl)
