use Rattle.std.proofs.Common.{◌∙◌, List, ℕ, ◌++◌, ap, get_or}
use Rattle.tq_report.specs.Texts.{tsv_byte}
use Rattle.tq_draw.proofs.Steps.{items_step}
use Rattle.tq_report.proofs.texts.push_tsv.Goals as goal

pub bytes-preserved : goal.bytes-preserved
bytes-preserved c =
    let bytes = c.args.bytes.now in
    let at = c.bytes.byte-index in
    c.in_ok-push_tsv_byte.ensures
    ∙ ap (λ (l : List ℕ). l ++ tsv_byte (get_or bytes at 0)) c.bytes.invariant
    ∙ items_step tsv_byte c.args.text.now.items bytes at 0 c.bytes-test.true
