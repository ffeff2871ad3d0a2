use Rattle.std.proofs.Common.{◌≡◌, length, subst, sym}
use Rattle.std.specs.Prelude.{All}
use Rattle.tq_base.specs.declared.fragment.Fragment.{Fragment}
use Rattle.tq_exec.specs.AnswerParts.{IsMade}
use Rattle.tq_exec.proofs.answer_parts.make.Goals as goal

pub returns-in_ok-copies-in-Rows : goal.returns-in_ok-copies-in-Rows
returns-in_ok-copies-in-Rows c = λ width wide.
    let copies = c.in_ok-copies-in-Rows.copies in
    subst (λ wanted. IsMade wanted width c.args.rows.now (record { rows = copies; text = c.new.result; len = c.len.result })) (sym c.in-Rows.is)
    (c.in_ok-copies-in-Rows.ensures, subst (All (λ (row : Fragment). length row.values ≡ width)) (sym c.in_ok-copies-in-Rows.ensures) wide)

pub returns-in_ok-text-in-Text : goal.returns-in_ok-text-in-Text
returns-in_ok-text-in-Text c = λ width wide.
    subst (λ wanted. IsMade wanted width c.args.rows.now (record { rows = c.new-in-Text.result; text = c.in_ok-text-in-Text.text; len = c.len-in-Text.result })) (sym c.in-Text.is)
    (c.in_ok-text-in-Text.ensures, c.len-in-Text.ensures)
