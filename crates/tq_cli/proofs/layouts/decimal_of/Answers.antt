use Rattle.std.proofs.Common.{◌≡◌, ◌∙◌, ap, option_map, sym, None, Some}
use Rattle.tq_base.specs.Numbers.{natural_up_to}
use Rattle.tq_cli.specs.CommandLine.{decimal_in}
use Rattle.tq_cli.proofs.DecimalLemmas.{decimal_split, no_decimal}
use Rattle.tq_cli.proofs.RequestLemmas.{passed_on}
use Rattle.tq_cli.proofs.layouts.decimal_of.Goals as goal

pub returns-in_err-name-clause-refused : goal.returns-in_err-name-clause-refused
returns-in_err-name-clause-refused c =
    passed_on c.from_residual.result c.in_err-name.field-0.0 _ c.from_residual.ensures.1
    (λ bad. no_decimal c.args.word.now (c.in_err-name.ensures.refused bad))

pub returns-in-Some-clause-decimal : goal.returns-in-Some-clause-decimal
returns-in-Some-clause-decimal c =
    let name = c.in_ok-name.field-0.name.items in
    let digits = c.in_ok-name.field-0.path.items in
    let places : natural_up_to 18 digits ≡ Some c.in-Some.places = ap (natural_up_to 18) (sym c.deref.ensures.value) ∙ sym c.read_natural.ensures ∙ c.in-Some.is in
    ap decimal_in c.in_ok-name.ensures.split ∙ decimal_split name digits c.in_ok-name.ensures.first ∙ ap (option_map (λ p. (name, p))) places

pub returns-in-None-clause-refused : goal.returns-in-None-clause-refused
returns-in-None-clause-refused c =
    let name = c.in_ok-name.field-0.name.items in
    let digits = c.in_ok-name.field-0.path.items in
    let places : natural_up_to 18 digits ≡ None = ap (natural_up_to 18) (sym c.deref.ensures.value) ∙ sym c.read_natural.ensures ∙ c.in-None.is in
    λ _. ap decimal_in c.in_ok-name.ensures.split ∙ decimal_split name digits c.in_ok-name.ensures.first ∙ ap (option_map (λ p. (name, p))) places
