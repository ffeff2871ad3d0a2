use Rattle.std.proofs.Common.{◌∙◌, List, ℕ, ◌+◌, ◌<◌, ◌≤◌, [], ◌∷◌, ◌++◌, ap, sym, arith, drop, get_or, length}
use Rattle.std.proofs.lemmas.List.{drop_all}
use Rattle.std.specs.Fmt.{take_chars}
use Rattle.tq_draw.proofs.CharLemmas.{front_begins, front_ends, front_goes_on, front_whole}
use Rattle.tq_draw.proofs.labels.front.Goals as goal
use Rattle.tq_draw.proofs.labels.front.Goals.{then-begins_char+else-left-eq0, else-begins_char}

pub returns-then-left-eq0 : goal.returns-then-left-eq0
returns-then-left-eq0 c =
    let bytes = c.args.bytes.now in
    let rest = drop c.bytes.byte-index bytes in
    front_ends c.bytes.front.items bytes (take_chars c.args.chars bytes) c.bytes.byte-index c.bytes-test.true (sym c.if-begins_char.ensures)
    (ap (λ (n : ℕ). c.bytes.front.items ++ take_chars n rest) (sym c.if-left-eq0.true) ∙ c.bytes.invariant)

pub bytes-preserved : goal.bytes-preserved
bytes-preserved c =
    let bytes = c.args.bytes.now in
    let at = c.bytes.byte-index in
    let front = c.bytes.front.items in
    let whole = take_chars c.args.chars bytes in
    let rest = drop (at + 1) bytes in
    let pushed = ap (λ (l : List ℕ). l ++ take_chars c.if-begins_char.left rest) c.in_ok-push.ensures.items in
    elim c.if-begins_char.branch [
      | then-begins_char+else-left-eq0 w ↦
          let some : 0 < c.bytes.left = omega (arith, w.if-left-eq0.false) in
          pushed ∙ ap (λ (n : ℕ). (front ++ get_or bytes at 0 ∷ []) ++ take_chars n rest) w.left-is
          ∙ front_begins front bytes whole c.bytes.left at c.bytes-test.true (sym w.if-begins_char.ensures) some c.bytes.invariant
      | else-begins_char w ↦
          pushed ∙ ap (λ (n : ℕ). (front ++ get_or bytes at 0 ∷ []) ++ take_chars n rest) w.left-is
          ∙ front_goes_on front bytes whole c.bytes.left at c.bytes-test.true (sym w.if-begins_char.ensures) c.bytes.invariant
    ]

pub returns : goal.returns
returns c =
    let bytes = c.args.bytes.now in
    let end : length bytes ≤ c.bytes.byte-index = omega (arith, c.bytes-test.false) in
    front_whole c.bytes.front.items (take_chars c.args.chars bytes) c.bytes.left
    (ap (λ (l : List ℕ). c.bytes.front.items ++ take_chars c.bytes.left l) (sym (drop_all c.bytes.byte-index bytes end)) ∙ c.bytes.invariant)
