use Rattle.std.proofs.Common.{◌≡◌, ◌∙◌, true, false, length, nat_lt, refl, arith, sym}
use Rattle.std.specs.Str.{is_utf8}
use Rattle.std.proofs.lemmas.Bool.Decides.{nat_tests}
use Rattle.tq_import.proofs.converting.check_text.Goals as goal

pub returns-then-not-is_utf8-clause-fault : goal.returns-then-not-is_utf8-clause-fault
returns-then-not-is_utf8-clause-fault c =
    let no : is_utf8 c.args.field.now ≡ false = sym c.is_utf8.ensures ∙ c.if-not-is_utf8.true in
    rw no refl

pub returns-then-field-gt-MAX_TEXT-clause-fault : goal.returns-then-field-gt-MAX_TEXT-clause-fault
returns-then-field-gt-MAX_TEXT-clause-fault c =
    let yes : is_utf8 c.args.field.now ≡ true = sym c.is_utf8.ensures ∙ c.if-not-is_utf8.false in
    let long : nat_lt 1000 (length c.args.field.now) ≡ true = grind (arith, nat_tests) in
    rw (yes, long) refl

pub returns-clause-ok : goal.returns-clause-ok
returns-clause-ok c =
    let yes : is_utf8 c.args.field.now ≡ true = sym c.is_utf8.ensures ∙ c.if-not-is_utf8.false in
    let short : nat_lt 1000 (length c.args.field.now) ≡ false = grind (arith, nat_tests) in
    rw (yes, short) refl
