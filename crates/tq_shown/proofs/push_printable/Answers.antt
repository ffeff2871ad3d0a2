use Rattle.std.proofs.Common.{◌≡◌, ◌++◌, ap, ◌∙◌, arith, drop, subst}
use Rattle.std.proofs.lemmas.List.{take_rest}
use Rattle.tq_shown.specs.Printable.{hidden_len, printable_after, printable_text}
use Rattle.tq_shown.proofs.ShownLemmas.{shown_next, shown_skip}
use Rattle.tq_shown.proofs.push_printable.Goals.{then-hidden-eq0+in_ok-push, else-hidden-eq0}
use Rattle.tq_shown.proofs.push_printable.Goals as goal

pub bytes-preserved : goal.bytes-preserved
bytes-preserved c = record {
  text = elim c.if-hidden-eq0.branch [
    | then-hidden-eq0+in_ok-push w ↦
        let rest = drop c.bytes.place c.args.bytes.now in
        let len : w.hidden_len-hidden.result ≡ hidden_len rest = rw (take_rest c.args.bytes.now c.bytes.place) at w.hidden_len-hidden.ensures.value in
        rw (w.text-is, w.in_ok-push.ensures.items, w.mark_of.ensures, c.saturating_sub-hidden.ensures, w.hidden-is, len)
        (shown_next c.bytes.text.items (c.args.text.now.items ++ printable_text c.args.bytes.now) c.args.bytes.now c.bytes.place c.bytes-test.true
        (subst (λ n. c.bytes.text.items ++ printable_after n rest ≡ c.args.text.now.items ++ printable_text c.args.bytes.now) w.if-hidden-eq0.true c.bytes.invariant.text))
    | else-hidden-eq0 w ↦
        rw (w.text-is, c.saturating_sub-hidden.ensures, w.hidden-is)
        (ap (λ l. c.bytes.text.items ++ l) (shown_skip c.bytes.hidden c.args.bytes.now c.bytes.place (omega (arith, w.if-hidden-eq0.false)) c.bytes-test.true) ∙ c.bytes.invariant.text)
  ];
}
