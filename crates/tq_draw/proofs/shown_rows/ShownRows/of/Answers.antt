use Rattle.std.proofs.Common.{◌≡◌, ◌∙◌, ◌<◌, ap, arith, get_or, length, sym}
use Rattle.std.proofs.lemmas.List.Elements.{All-push}
use Rattle.tq_base.specs.Keys.{no_row}
use Rattle.tq_base.specs.declared.fragment.Fragment.{Fragment}
use Rattle.tq_base.specs.declared.period.Period.{Period}
use Rattle.tq_draw.specs.Scales.{is_in_window}
use Rattle.tq_draw.proofs.ShownLemmas.{shown_more, shown_same}
use Rattle.tq_draw.proofs.shown_rows.ShownRows.of.Goals as goal
use Rattle.tq_draw.proofs.shown_rows.ShownRows.of.Goals.{then-is_in_window+in_ok-push, else-is_in_window}

pub rows-preserved : goal.rows-preserved
rows-preserved c =
    let rows = c.args.rows.now in
    let at = c.rows.place in
    let window = c.args.window.now in
    let passes = λ (row : Fragment). is_in_window window row.period in
    let within : at < length rows = omega (arith, c.rows-test.true, c.len-place-end.ensures) in
    let is : c.is_in_window.result ≡ passes (get_or rows at no_row) =
    c.is_in_window.ensures ∙ ap (λ (p : Period). is_in_window window p) (c.period.ensures no_row) in
    elim c.if-is_in_window.branch [
      | then-is_in_window+in_ok-push w ↦
          rw (w.places-is, w.in_ok-push.ensures.items)
          (record {
            rows = shown_more passes rows c.rows.places.items at within c.rows.invariant.rows (sym is ∙ w.if-is_in_window.true);
            within = All-push (λ place. place < length rows) c.rows.places.items at c.rows.invariant.within within;
          })
      | else-is_in_window w ↦
          rw w.places-is
          (record {
            rows = shown_same passes rows c.rows.places.items at within c.rows.invariant.rows (sym is ∙ w.if-is_in_window.false);
            within = c.rows.invariant.within;
          })
    ]
