use Rattle.std.proofs.Common.{◌≡◌, take, length, ap, ◌∙◌, arith}
use Rattle.std.proofs.lemmas.List.{length-take-le}
use Rattle.tq_base.specs.NormalizedKeys.{prefix_number, prefix_padded}
use Rattle.tq_base.proofs.short_text.ShortText.prefix.Goals as goal

-- the zeros after the text change no digits
pub returns-clause-prefix : goal.returns-clause-prefix
returns-clause-prefix c =
    let inside = c.self.inside in
    let text = take inside.len inside.bytes in
    let digits : prefix_number 14 0 inside.bytes ≡ prefix_number 14 0 text = ap (prefix_number 14 0) c.self.invariant.2 ∙ prefix_padded 14 0 text in
    let size : length text ≡ inside.len = length-take-le inside.len inside.bytes (omega (arith, c.self.told, c.self.invariant.0)) in
    rw (← c.self.view_is) (omega (arith, c.text_prefix.ensures.prefix, digits, size, c.self.invariant.0))
