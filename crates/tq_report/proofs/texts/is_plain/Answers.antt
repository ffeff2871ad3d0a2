use Rattle.std.proofs.Common.{◌≡◌, ◌∙◌, List, ℕ, [], ◌∷◌, ◌++◌, ap, ap₂, get_or, sym, take}
use Rattle.std.proofs.lemmas.List.{flat_map_more, take_more}
use Rattle.json.specs.Print.{escape, escape_byte}
use Rattle.tq_report.proofs.TextLemmas.{byte_kept}
use Rattle.tq_report.proofs.texts.is_plain.Goals as goal

pub bytes-preserved : goal.bytes-preserved
bytes-preserved c =
    let bytes = c.args.bytes.now in
    let at = c.bytes.byte-index in
    let b = get_or bytes at 0 in
    let is = c.is_plain_byte.ensures in
    let is_true = c.if-not-is_plain_byte.false in
    let kept : escape_byte b ≡ b ∷ [] = byte_kept b (is.low is_true) (is.quote is_true) (is.backslash is_true) in
    ap escape (take_more bytes at 0 c.bytes-test.true)
    ∙ sym (flat_map_more escape_byte [] (take at bytes) b)
    ∙ ap₂ (λ (l m : List ℕ). l ++ m) c.bytes.invariant kept
    ∙ sym (take_more bytes at 0 c.bytes-test.true)
