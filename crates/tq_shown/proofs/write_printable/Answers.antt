use Rattle.std.proofs.Common.{◌≡◌, ◌++◌, ap, ◌∙◌, arith, drop, subst, [], ◌∷◌}
use Rattle.std.proofs.KnownBytes.{Appends-trans}
use Rattle.std.proofs.lemmas.List.{take_rest}
use Rattle.tq_shown.specs.Printable.{hidden_len, printable_after, printable_text}
use Rattle.tq_shown.proofs.ShownLemmas.{shown_next, shown_skip}
use Rattle.tq_shown.proofs.write_printable.Goals.{then-hidden-eq0+in_ok-write_all, else-hidden-eq0}
use Rattle.tq_shown.proofs.write_printable.Goals as goal

pub bytes-preserved : goal.bytes-preserved
bytes-preserved g c =
    let (sent, appended, is) = c.bytes.invariant in
    let rest = drop c.bytes.place c.args.bytes.now in
    elim c.if-hidden-eq0.branch [
      | then-hidden-eq0+in_ok-write_all w ↦
          let len : w.hidden_len-hidden.result ≡ hidden_len rest = rw (take_rest c.args.bytes.now c.bytes.place) at w.hidden_len-hidden.ensures.value in (
            sent ++ w.mark_of.result ∷ [],
            rw w.writer-is (Appends-trans _ _ _ _ _ appended w.in_ok-write_all.ensures.bytes),
            rw (w.mark_of.ensures, c.saturating_sub-hidden.ensures, w.hidden-is, len)
                (shown_next sent (printable_text c.args.bytes.now) c.args.bytes.now c.bytes.place c.bytes-test.true
                (subst (λ n. sent ++ printable_after n rest ≡ printable_text c.args.bytes.now) w.if-hidden-eq0.true is)),
          )
      | else-hidden-eq0 w ↦ (
        sent,
        rw w.writer-is appended,
        rw (c.saturating_sub-hidden.ensures, w.hidden-is)
            (ap (λ l. sent ++ l) (shown_skip c.bytes.hidden c.args.bytes.now c.bytes.place (omega (arith, w.if-hidden-eq0.false)) c.bytes-test.true) ∙ is),
      )
    ]
