use Rattle.std.proofs.Common.{rules, ◌≡◌, ◌&&◌, true, inl, inr}
use Rattle.tq_cli.specs.CommandLine.{is_changed}
use Rattle.tq_cli.proofs.RequestLemmas.{passed_on}
use Rattle.tq_cli.proofs.layouts.read_ask.Goals as goal

pub returns-in_err-layout-clause-refused : goal.returns-in_err-layout-clause-refused
returns-in_err-layout-clause-refused c =
    passed_on c.from_residual-in_err-layout.result c.in_err-layout.field-0.0 _ c.from_residual-in_err-layout.ensures.1
    (λ bad. inr (inl (c.in_err-layout.ensures.refused bad)))

pub returns-then-is_changed-clause-refused : goal.returns-then-is_changed-clause-refused
returns-then-is_changed-clause-refused c =
    let layout = c.in_ok-layout.layout in
    let otherwise : (layout.typed && is_changed layout) ≡ true = search rules in
    λ _. inr (inr (layout, c.in_ok-layout.ensures.layout, otherwise))
