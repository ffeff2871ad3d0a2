use Rattle.std.proofs.Common.{◌∙◌, ◌++◌, subst, sym}
use Rattle.tq_check.specs.KeyReports.{wanted_text}
use Rattle.tq_check.specs.KeyRows.{IsKeyOrder}
use Rattle.tq_check.specs.declared.findings.Finding.TheVariants.{Overlap, Gap}
use Rattle.tq_check.proofs.key_report.wanted_lines.Goals as goal

pub push_wanted-requires : goal.push_wanted-requires
push_wanted-requires c = subst (IsKeyOrder c.args.rows.now.items) (sym c.deref.ensures.value) c.in_ok-order.ensures

pub push_wanted-requires-2 : goal.push_wanted-requires-2
push_wanted-requires-2 c = subst (IsKeyOrder c.args.rows.now.items) (sym c.deref-2.ensures.value) c.in_ok-order.ensures

pub returns : goal.returns
returns c =
    let form = c.args.form in
    let rows = c.args.rows.now.items in
    let keys = c.args.keys in
    record {
      order = c.in_ok-order.order.items;
      is_order = λ wanted. c.in_ok-order.ensures;
      told =
          c.in_ok-push_wanted-2.ensures
          ∙ (λ i. (c.in_ok-push_wanted.ensures ∙ (λ j. c.new-text.ensures.items j ++ wanted_text keys.overlaps form Overlap rows (c.deref.ensures.value j))) i
          ++ wanted_text keys.gaps form Gap rows (c.deref-2.ensures.value i));
    }
