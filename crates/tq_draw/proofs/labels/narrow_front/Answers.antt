use Rattle.std.proofs.Common.{◌≡◌, ◌∙◌, ◌<◌, ◌≤◌, ℕ, ap, arith, sym}
use Rattle.std.specs.Fmt.{take_chars}
use Rattle.tq_draw.specs.Labels.{columns_in, narrow_front}
use Rattle.tq_draw.proofs.ColumnLemmas.{front_fits, front_is_wide, front_of_none}
use Rattle.tq_draw.proofs.labels.narrow_front.Goals as goal

pub returns-then-columns_in_bytes-lt-LABEL : goal.returns-then-columns_in_bytes-lt-LABEL
returns-then-columns_in_bytes-lt-LABEL c =
    let bytes = c.args.bytes.now in
    let columns : c.columns_in_bytes.result ≡ columns_in (take_chars c.chars.chars bytes) =
    c.columns_in_bytes.ensures ∙ ap columns_in (c.deref.ensures.value ∙ c.in_ok-front.ensures) in
    let fits : columns_in (take_chars c.chars.chars bytes) < 24 = omega (arith, columns) in
    c.in_ok-front.ensures ∙ front_fits c.chars.chars bytes c.chars-test.true fits ∙ c.chars.invariant

pub chars-preserved : goal.chars-preserved
chars-preserved c =
    let bytes = c.args.bytes.now in
    let columns : c.columns_in_bytes.result ≡ columns_in (take_chars c.chars.chars bytes) =
    c.columns_in_bytes.ensures ∙ ap columns_in (c.deref.ensures.value ∙ c.in_ok-front.ensures) in
    let wide : 24 ≤ columns_in (take_chars c.chars.chars bytes) = omega (arith, columns) in
    front_is_wide c.chars.chars bytes c.chars-test.true wide ∙ c.chars.invariant

pub returns : goal.returns
returns c =
    let bytes = c.args.bytes.now in
    let none : c.chars.chars ≡ 0 = omega arith in
    c.new.ensures.items ∙ sym (front_of_none bytes) ∙ ap (λ (n : ℕ). narrow_front n bytes) (sym none) ∙ c.chars.invariant
