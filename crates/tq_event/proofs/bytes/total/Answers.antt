use Rattle.std.proofs.Common.{◌∙◌, ◌+◌, ap, arith, length, length-append, take}
use Rattle.std.proofs.lemmas.List.{take_all}
use Rattle.tq_event.specs.FileBytes.{bytes_in}
use Rattle.tq_event.proofs.FileBytesLemmas.{bytes_step}
use Rattle.tq_event.proofs.bytes.total.Goals as goal

pub pieces-init : goal.pieces-init
pieces-init c = omega arith

pub pieces-preserved : goal.pieces-preserved
pieces-preserved c =
    let pieces = c.args.pieces.now in
    let piece = c.piece-item.result in
    omega (
      arith,
      c.in_ok-len.ensures.1,
      c.len.ensures,
      piece.ok.0,
      c.pieces.invariant,
      ap length (bytes_step pieces c.pieces.piece-index piece c.pieces-test.true c.piece-item.is),
      length-append (bytes_in (take c.pieces.piece-index pieces)) piece.items,
    )

pub returns : goal.returns
returns c = c.pieces.invariant ∙ ap (λ l. c.args.front + length (bytes_in l)) (take_all c.pieces.piece-index c.args.pieces.now c.pieces-test.false)
