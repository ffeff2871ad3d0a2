use Rattle.std.proofs.Common.{◌≡◌, ◌∙◌, drop}
use Rattle.std.proofs.lemmas.List.{take_rest}
use Rattle.tq_draw.specs.Labels.{hidden_left, escaped_after}
use Rattle.tq_draw.proofs.LabelLemmas.{left_begins, left_stays, shown_next}
use Rattle.tq_draw.proofs.labels.escaped.Goals.{then-hidden-eq0, else-hidden-eq0}
use Rattle.tq_draw.proofs.labels.escaped.Goals as goal

pub bytes-preserved : goal.bytes-preserved
bytes-preserved c =
    let rest = drop c.bytes.place c.args.bytes.now in
    let left : c.if-hidden-eq0.hidden ≡ hidden_left c.bytes.hidden rest =
    elim c.if-hidden-eq0.branch [
      | then-hidden-eq0 w ↦ w.hidden-is ∙ rw (take_rest c.args.bytes.now c.bytes.place) at w.hidden_len-hidden.ensures.value ∙ left_begins c.bytes.hidden rest w.if-hidden-eq0.true
      | else-hidden-eq0 w ↦ w.hidden-is ∙ left_stays c.bytes.hidden rest w.if-hidden-eq0.false
    ] in
    record {
      text = rw (c.in_ok-push_shown.ensures, c.saturating_sub-hidden.ensures)
          (shown_next c.args.has_lines c.bytes.text.items (escaped_after c.args.has_lines 0 c.args.bytes.now) c.args.bytes.now c.bytes.place c.bytes.hidden c.if-hidden-eq0.hidden c.bytes-test.true left c.bytes.invariant.text);
    }
