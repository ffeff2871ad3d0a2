use Rattle.std.proofs.Common.{◌∙◌, ap, refl}
use Rattle.tq_base.specs.Numbers.{instant_of}
use Rattle.tq_base.specs.declared.form.Form.TheVariants.{Dates}
use Rattle.tq_import.specs.Dates.{digits_in, iso_text, no_digits}
use Rattle.tq_import.proofs.MatchLemmas.{none_left, some_left}
use Rattle.tq_import.proofs.dates.read_day.Goals as goal

pub returns-then-not-branch : goal.returns-then-not-branch
returns-then-not-branch c =
    let none = none_left (digits_in c.args.format.now no_digits c.args.bytes.now) c.in_ok-gather_digits.field-0 _ c.in_ok-gather_digits.ensures c.if-not-branch.true in
    rw none refl

pub returns : goal.returns
returns c =
    let (digits, found, gathered_are) = some_left (digits_in c.args.format.now no_digits c.args.bytes.now) c.in_ok-gather_digits.field-0 _ c.in_ok-gather_digits.ensures c.if-not-branch.false in
    rw found (c.read_instant-2.ensures ∙ ap (instant_of Dates) (c.deref.ensures.value ∙ c.in_ok-write_iso.ensures ∙ ap iso_text gathered_are))
