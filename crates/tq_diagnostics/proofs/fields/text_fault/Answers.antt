use Rattle.std.proofs.Common.{◌≡◌, true, false, length, nat_lt, refl, arith}
use Rattle.std.proofs.lemmas.Str.{is_utf8-from_IsUtf8}
use Rattle.std.proofs.lemmas.Bool.Decides.{nat_tests}
use Rattle.tq_event.proofs.FieldUtf8.{no_utf8}
use Rattle.tq_diagnostics.proofs.fields.text_fault.Goals as goal

pub returns-in_default : goal.returns-in_default
returns-in_default c = rw (no_utf8 c.args.field.now c.in_default.ensures.cases.0) refl

pub returns-then-field-gt-MAX_TEXT : goal.returns-then-field-gt-MAX_TEXT
returns-then-field-gt-MAX_TEXT c =
    let long : nat_lt 1000 (length c.args.field.now) ≡ true = grind (arith, nat_tests) in
    rw (is_utf8-from_IsUtf8 c.args.field.now c.in-Ok.ensures.cases.1, long) refl

pub returns : goal.returns
returns c =
    let short : nat_lt 1000 (length c.args.field.now) ≡ false = grind (arith, nat_tests) in
    rw (is_utf8-from_IsUtf8 c.args.field.now c.in-Ok.ensures.cases.1, short) refl
