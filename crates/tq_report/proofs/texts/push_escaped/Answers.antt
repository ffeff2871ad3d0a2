use Rattle.std.proofs.Common.{◌∙◌, List, ℕ, [], ◌∷◌, ◌++◌, ap, append_assoc, get_or, sym, take}
use Rattle.std.proofs.lemmas.List.{append-nil, take_more}
use Rattle.csv.specs.Writing.{escaped}
use Rattle.csv.proofs.WriteFacts.{escaped-append}
use Rattle.tq_table.specs.Text.{answer_format}
use Rattle.tq_report.proofs.texts.push_escaped.Goals as goal

pub bytes-init : goal.bytes-init
unfolding escaped
bytes-init c = sym (append-nil c.args.text.now.items)

pub bytes-preserved : goal.bytes-preserved
bytes-preserved c =
    let bytes = c.args.bytes.now in
    let at = c.bytes.byte-index in
    let text = c.args.text.now.items in
    let this = get_or bytes at 0 ∷ [] in
    c.in_ok-push_escaped_byte.ensures
    ∙ ap (λ (l : List ℕ). l ++ escaped answer_format this) c.bytes.invariant
    ∙ append_assoc text (escaped answer_format (take at bytes)) (escaped answer_format this)
    ∙ ap (λ (l : List ℕ). text ++ l) (sym (escaped-append answer_format (take at bytes) this))
    ∙ ap (λ (l : List ℕ). text ++ escaped answer_format l) (sym (take_more bytes at 0 c.bytes-test.true))
