use Rattle.std.proofs.Common.{◌≡◌, true, false, length, nat_lt, refl, arith, ◌∙◌, ap}
use Rattle.std.proofs.lemmas.Str.{is_utf8-from_IsUtf8}
use Rattle.std.proofs.lemmas.Bool.Decides.{nat_tests}
use Rattle.tq_base.specs.Contents.{Text}
use Rattle.tq_event.proofs.FieldUtf8.{no_utf8}
use Rattle.tq_event.proofs.reading.read_text.Goals as goal

pub returns-in_default-clause-fault : goal.returns-in_default-clause-fault
returns-in_default-clause-fault c known = rw (no_utf8 c.args.field.now (c.in_default.ensures.none refl)) refl

pub returns-then-field-gt-MAX_TEXT-clause-fault : goal.returns-then-field-gt-MAX_TEXT-clause-fault
returns-then-field-gt-MAX_TEXT-clause-fault c known =
    let long : nat_lt 1000 (length c.args.field.now) ≡ true = grind (arith, nat_tests) in
    rw (is_utf8-from_IsUtf8 c.args.field.now c.in-Some.ensures.text.1, long) refl

pub returns-then-not-wanted-clause-ok : goal.returns-then-not-wanted-clause-ok
returns-then-not-wanted-clause-ok c =
    let short : nat_lt 1000 (length c.args.field.now) ≡ false = grind (arith, nat_tests) in
    record {
      whole = Text c.args.field.now;
      parsed = rw (is_utf8-from_IsUtf8 c.args.field.now c.in-Some.ensures.text.1, short) refl;
      kept = rw c.if-not-wanted.true c.in_ok-text.ensures.value;
    }

pub returns-clause-ok : goal.returns-clause-ok
returns-clause-ok c =
    let short : nat_lt 1000 (length c.args.field.now) ≡ false = grind (arith, nat_tests) in
    record {
      whole = Text c.args.field.now;
      parsed = rw (is_utf8-from_IsUtf8 c.args.field.now c.in-Some.ensures.text.1, short) refl;
      kept = rw c.if-not-wanted.false (c.in_ok-text-2.ensures.value ∙ ap Text c.in-Some.ensures.text.0);
    }
