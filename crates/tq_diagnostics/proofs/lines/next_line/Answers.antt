use Rattle.std.proofs.Common.{◌≡◌, ◌∙◌, ◌+◌, ◌++◌, [], ℕ, List, ap, arith, drop, length, sym, slice_get}
use Rattle.std.proofs.lemmas.List.{drop_all}
use Rattle.tq_diagnostics.specs.Lines.{line_if_start, lines_from, state_of}
use Rattle.tq_diagnostics.proofs.FaultLemmas.{lines_next}
use Rattle.tq_diagnostics.proofs.lines.next_line.Goals as goal

pub bytes-preserved : goal.bytes-preserved
bytes-preserved c =
    let bytes = c.args.bytes.now in
    let place = c.bytes.place in
    let next = lines_next (state_of c.bytes.reader_state) (state_of c.after-reader_state.result) c.bytes.line c.line_after_byte-line.result bytes place c.bytes-test.true c.after-reader_state.ensures c.line_after_byte-line.ensures.value in
    record {
      few = omega (arith, c.bytes.invariant.few, c.line_after_byte-line.ensures.few);
      same = sym (next ∙ ap (λ b. line_if_start b c.bytes.line ++ lines_from (state_of c.after-reader_state.result) c.line_after_byte-line.result (drop (place + 1) bytes)) (sym c.begins_record-begins.ensures ∙ c.if-begins.false)) ∙ c.bytes.invariant.same;
    }

pub returns-then-begins-clause-first : goal.returns-then-begins-clause-first
returns-then-begins-clause-first c =
    let bytes = c.args.bytes.now in
    let place = c.bytes.place in
    let next = lines_next (state_of c.bytes.reader_state) (state_of c.after-reader_state.result) c.bytes.line c.line_after_byte-line.result bytes place c.bytes-test.true c.after-reader_state.ensures c.line_after_byte-line.ensures.value in
    let whole = sym c.bytes.invariant.same ∙ next ∙ ap (λ b. line_if_start b c.bytes.line ++ lines_from (state_of c.after-reader_state.result) c.line_after_byte-line.result (drop (place + 1) bytes)) (sym c.begins_record-begins.ensures ∙ c.if-begins.true) in
    sym (ap (λ (l : List ℕ). slice_get l 0) whole)

pub returns-then-begins-clause-rest : goal.returns-then-begins-clause-rest
returns-then-begins-clause-rest c =
    let bytes = c.args.bytes.now in
    let place = c.bytes.place in
    let next = lines_next (state_of c.bytes.reader_state) (state_of c.after-reader_state.result) c.bytes.line c.line_after_byte-line.result bytes place c.bytes-test.true c.after-reader_state.ensures c.line_after_byte-line.ensures.value in
    let whole = sym c.bytes.invariant.same ∙ next ∙ ap (λ b. line_if_start b c.bytes.line ++ lines_from (state_of c.after-reader_state.result) c.line_after_byte-line.result (drop (place + 1) bytes)) (sym c.begins_record-begins.ensures ∙ c.if-begins.true) in
    sym (ap (λ (l : List ℕ). drop 1 l) whole)

pub returns-clause-first : goal.returns-clause-first
returns-clause-first c =
    let bytes = c.args.bytes.now in
    let none : drop c.bytes.place bytes ≡ [] = drop_all c.bytes.place bytes (omega (arith, c.bytes-test.false)) in
    sym (ap (λ (l : List ℕ). slice_get l 0) (sym c.bytes.invariant.same ∙ ap (lines_from (state_of c.bytes.reader_state) c.bytes.line) none))

pub returns-clause-rest : goal.returns-clause-rest
returns-clause-rest c =
    let bytes = c.args.bytes.now in
    let none : drop c.bytes.place bytes ≡ [] = drop_all c.bytes.place bytes (omega (arith, c.bytes-test.false)) in
    let end : drop (length bytes) bytes ≡ [] = drop_all (length bytes) bytes (omega arith) in
    ap (lines_from (state_of c.bytes.reader_state) c.bytes.line) end ∙ sym (ap (λ (l : List ℕ). drop 1 l) (sym c.bytes.invariant.same ∙ ap (lines_from (state_of c.bytes.reader_state) c.bytes.line) none))
