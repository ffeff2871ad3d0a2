use Rattle.std.proofs.Common.{◌∙◌, ◌++◌, ap, length}
use Rattle.tq_check.specs.Orphans.{linked_rows}
use Rattle.tq_check.specs.ReferenceReports.{listed_text, reference_head}
use Rattle.tq_check.proofs.LinkLemmas.{orphan_number}
use Rattle.tq_check.proofs.reference_report.lines_between.Goals as goal

pub returns : goal.returns
returns c =
    let form = c.args.form in
    let children = c.args.children.now.items in
    let column = c.args.reference.now.child.column in
    let linked = linked_rows children c.args.parents.now.items c.args.reference.now in
    let head = reference_head c.args.schemas.now c.args.reference.now in
    let order = c.in_ok-order.order.items in
    record {
      order = order;
      is_order = c.in_ok-order.ensures;
      text_is =
          c.in_ok-push_listed.ensures
          ∙ (λ i. (c.in_ok-push_head.ensures ∙ (λ j. c.new-text.ensures.items j ++ head)) i ++ listed_text form children column (length (c.deref.ensures.value i)) (c.deref.ensures.value i))
          ∙ ap (λ n. head ++ listed_text form children column n order) (orphan_number linked order c.in_ok-order.ensures);
    }
