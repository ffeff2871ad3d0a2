use Rattle.std.proofs.Common.{inr}
use Rattle.tq_cli.proofs.RequestLemmas.{passed_on}
use Rattle.tq_cli.proofs.questions.read_draw.Goals as goal

pub returns-in_err-window-clause-refused : goal.returns-in_err-window-clause-refused
returns-in_err-window-clause-refused c =
    passed_on c.from_residual-in_err-window.result c.in_err-window.field-0.0 _ c.from_residual-in_err-window.ensures.1
    (λ bad. inr (inr (inr (c.in_err-window.ensures.refused bad))))
