use Rattle.std.proofs.Common.{◌≡◌, ◌∙◌, ◌++◌, ◌+◌, ◌-◌, ◌≤◌, ap, arith, length, length-drop, drop, refl, sym}
use Rattle.std.proofs.lemmas.List.{take_all}
use Rattle.tq_event.specs.FileBytes.{bytes_in}
use Rattle.tq_event.proofs.FileBytesLemmas.{bytes_rest, rest_behind, rest_here}
use Rattle.tq_event.proofs.bytes.piece_in.Goals as goal

pub pieces-init : goal.pieces-init
pieces-init c = refl

pub returns-then-rest-len : goal.returns-then-rest-len
returns-then-rest-len c =
    let pieces = c.args.pieces.now in
    let piece = c.piece-item.result in
    let i = c.pieces.piece-index in
    let rest = c.pieces.rest in
    let here = c.deref.result.now in
    let within : rest ≤ length piece.items = omega (arith, c.if-rest-len.true, c.len.ensures, piece.ok.0) in (
      bytes_in (drop (i + 1) pieces),
      c.pieces.invariant
          ∙ ap (drop rest) (bytes_rest pieces i piece c.pieces-test.true c.piece-item.is)
          ∙ rest_here piece (bytes_in (drop (i + 1) pieces)) rest within
          ∙ ap (λ l. drop rest l ++ bytes_in (drop (i + 1) pieces)) (sym c.deref.ensures.value)
          ∙ ap (λ l. l ++ bytes_in (drop (i + 1) pieces)) (sym (take_all (length here - rest) (drop rest here) (omega (arith, length-drop rest here)))),
    )

pub pieces-preserved : goal.pieces-preserved
pieces-preserved c =
    let pieces = c.args.pieces.now in
    let piece = c.piece-item.result in
    let i = c.pieces.piece-index in
    let rest = c.pieces.rest in
    let past : length piece.items ≤ rest = omega (arith, c.if-rest-len.false, c.len.ensures, piece.ok.0) in
    let size : length piece.items ≡ c.len-rest.result = omega (arith, c.len-rest.ensures, piece.ok.0) in
    c.pieces.invariant
    ∙ ap (drop rest) (bytes_rest pieces i piece c.pieces-test.true c.piece-item.is)
    ∙ rest_behind piece (bytes_in (drop (i + 1) pieces)) rest past
    ∙ ap (λ n. drop (rest - n) (bytes_in (drop (i + 1) pieces))) size
