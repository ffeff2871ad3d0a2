use Rattle.std.proofs.Common.{◌∙◌, List, ℕ, ◌++◌, ap, get_or}
use Rattle.tq_report.specs.Texts.{markdown_byte}
use Rattle.tq_draw.proofs.Steps.{items_step}
use Rattle.tq_report.proofs.texts.push_markdown.Goals as goal

pub bytes-preserved : goal.bytes-preserved
bytes-preserved c =
    let bytes = c.args.bytes.now in
    let at = c.bytes.byte-index in
    c.in_ok-push_markdown_byte.ensures
    ∙ ap (λ (l : List ℕ). l ++ markdown_byte (get_or bytes at 0)) c.bytes.invariant
    ∙ items_step markdown_byte c.args.text.now.items bytes at 0 c.bytes-test.true
