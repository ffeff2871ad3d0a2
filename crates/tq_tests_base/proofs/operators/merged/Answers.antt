use Rattle.std.proofs.Common.{◌∙◌, subst, sym}
use Rattle.std.proofs.lemmas.List.Elements.{All-push}
use Rattle.tq_table.specs.Merging.{AreInOrder, AreOfWidth}
use Rattle.tq_tests_base.proofs.operators.merged.Goals.{then-width+in_ok-layers+in_ok-push, else-width}
use Rattle.tq_tests_base.proofs.operators.merged.Goals as goal

pub lists-preserved : goal.lists-preserved
lists-preserved c =
    let before = c.lists.pieces.items in
    elim c.if-width.branch [
      | then-width+in_ok-layers+in_ok-push w ↦
          let layers = w.in_ok-layers.field-0 in
          let wide = subst (λ n. AreOfWidth n layers) (sym c.width.ensures.width ∙ w.if-width.true) w.in_ok-layers.ensures.width in
          record {
            wide = rw (w.pieces-is, w.in_ok-push.ensures.items) (All-push (AreOfWidth c.args.width) before layers c.lists.invariant.wide wide);
            in_order = rw (w.pieces-is, w.in_ok-push.ensures.items) (All-push AreInOrder before layers c.lists.invariant.in_order w.in_ok-layers.ensures.in_order);
          }
      | else-width w ↦ record {
        wide = rw w.pieces-is c.lists.invariant.wide;
        in_order = rw w.pieces-is c.lists.invariant.in_order;
      }
    ]
