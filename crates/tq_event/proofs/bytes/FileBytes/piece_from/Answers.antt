use Rattle.std.proofs.Common.{◌≡◌, ◌∙◌, ◌++◌, ◌+◌, ◌-◌, ◌≤◌, ap, arith, length, length-drop, drop, sym}
use Rattle.std.proofs.Math.Seq.{drop-append-add}
use Rattle.std.proofs.lemmas.List.{drop-append-le, take_all}
use Rattle.tq_event.specs.FileBytes.{optional_bytes_in, bytes_in}
use Rattle.tq_event.proofs.bytes.FileBytes.piece_from.Goals as goal

pub returns-then-start-len : goal.returns-then-start-len
returns-then-start-len c =
    let start = c.args.start in
    let front = c.self.inside.front in
    let more = optional_bytes_in c.self.inside.more in
    let here = c.deref.result.now in
    let within : start ≤ length front.items = omega (arith, c.if-start-len.true, c.len-len.ensures, front.ok.0) in (
      more,
      ap (drop start) (sym c.self.view_is)
          ∙ drop-append-le start front.items more within
          ∙ ap (λ l. drop start l ++ more) (sym c.deref.ensures.value)
          ∙ ap (λ l. l ++ more) (sym (take_all (length here - start) (drop start here) (omega (arith, length-drop start here)))),
    )

pub returns-in-Some : goal.returns-in-Some
returns-in-Some c =
    let start = c.args.start in
    let front = c.self.inside.front in
    let all = bytes_in c.in-Some.pieces.items in
    let rest = c.piece_in.ensures in
    let size : length front.items ≡ c.len-len.result = omega (arith, c.len-len.ensures, front.ok.0) in
    let place : start ≡ length front.items + (start - length front.items) = omega (arith, size, c.if-start-len.false) in (
      rest.0,
      ap (drop start) (sym c.self.view_is)
          ∙ ap (λ m. drop start (front.items ++ optional_bytes_in m)) c.in-Some.is
          ∙ ap (λ n. drop n (front.items ++ all)) place
          ∙ drop-append-add front.items all (start - length front.items)
          ∙ ap (λ n. drop (start - n) all) size
          ∙ ap (λ l. drop (start - c.len-len.result) (bytes_in l)) (sym c.deref-in-Some.ensures.value)
          ∙ rest.1,
    )
