use Rattle.std.proofs.Common.{◌∙◌, ℕ, ◌++◌, ap, append_assoc}
use Rattle.std.specs.Prelude.{codes}
use Rattle.tq_check.specs.Reports.{time_text}
use Rattle.tq_check.proofs.report.push_last.Goals as goal

pub returns : goal.returns
returns c =
    let form = c.args.form in
    let periods = c.args.periods.now in
    let text = c.args.text.now.items in
    let label = codes "\n  last change  " in
    c.in_ok-push_time.ensures
    ∙ append_assoc text label (time_text form periods c.last_change-last.result)
    ∙ ap (λ (n : ℕ). text ++ (label ++ time_text form periods n)) c.last_change-last.ensures.value
