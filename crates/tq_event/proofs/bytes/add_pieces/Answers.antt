use Rattle.std.proofs.Common.{◌∙◌, ◌++◌, ap, append_assoc, append-nil, sym, take}
use Rattle.std.proofs.lemmas.List.{take_all}
use Rattle.tq_event.specs.FileBytes.{bytes_in}
use Rattle.tq_event.proofs.FileBytesLemmas.{bytes_step}
use Rattle.tq_event.proofs.bytes.add_pieces.Goals as goal

pub pieces-init : goal.pieces-init
pieces-init c = sym (append-nil c.args.bytes.now.items)

pub pieces-preserved : goal.pieces-preserved
pieces-preserved c =
    let old = c.args.bytes.now.items in
    let pieces = c.args.pieces.now in
    let piece = c.piece-item.result in
    let i = c.pieces.piece-index in
    c.in_ok-extend_from_slice.ensures.items
    ∙ ap (λ l. l ++ c.deref.result.now) c.pieces.invariant
    ∙ ap (λ l. (old ++ bytes_in (take i pieces)) ++ l) c.deref.ensures.value
    ∙ append_assoc old (bytes_in (take i pieces)) piece.items
    ∙ ap (λ l. old ++ l) (sym (bytes_step pieces i piece c.pieces-test.true c.piece-item.is))

pub returns : goal.returns
returns c = c.pieces.invariant ∙ ap (λ l. c.args.bytes.now.items ++ bytes_in l) (take_all c.pieces.piece-index c.args.pieces.now c.pieces-test.false)
