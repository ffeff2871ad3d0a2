use Rattle.std.proofs.Common.{◌≡◌, ◌≢◌, ◌<◌, ◌≤◌, length, drop, get_or, arith}
use Rattle.std.specs.Prelude.{All}
use Rattle.std.proofs.lemmas.List.{drop_more, drop_all, get_or_read}
use Rattle.tq_base.specs.Sweep.{begun, finished, drop_read, opens_by, cancels_by, closes_by, opened_before, some_open_by, all_after}
use Rattle.tq_table.proofs.layering.unordered.Goals as goal
use Rattle.tq_table.proofs.layering.unordered.Goals.{then-begins_at, else-begins_at+in-Some+in_ok-push-2, else-begins_at+in_default}

pub ends-init : goal.ends-init
ends-init c = record {
  sweep = rw (c.new-opened.ensures.items, c.new-made.ensures.items, c.deref-end-items.ensures.value)
      (begun c.args.periods.now c.in_ok-starts.starts.items c.in_ok-ends.ends.items c.in_ok-starts.ensures.same c.in_ok-starts.ensures.sorted c.in_ok-ends.ensures.same c.in_ok-ends.ensures.sorted);
  no_more = omega (arith, c.new-made.ensures.len);
}

pub starts-preserved : goal.starts-preserved
starts-preserved c =
    let starts = c.in_ok-starts.starts.items in
    let here : c.starts.next < length starts = rw c.deref.ensures.value at c.starts-test.ensures.yes.0 in
    let before : get_or starts c.starts.next 0 < c.end-item.result = rw c.deref.ensures.value at c.starts-test.ensures.yes.1 in
    rw c.in_ok-push.ensures.items
    (opens_by c.args.periods.now c.starts.invariant c.index.result.now c.end-item.result _ _
    (drop_read starts c.starts.next c.index.result.now here c.index.ensures)
    (drop_read c.deref-end-items.result.now c.ends.end-index c.end-item.result c.ends-test.true c.end-item.is)
    (rw (get_or_read starts c.starts.next c.index.result.now here c.index.ensures 0) before))

pub invariant_of-push : goal.invariant_of-push
invariant_of-push c =
    record {
      ordered = opened_before c.args.periods.now c.starts.invariant c.in-Some.start c.end-item.result _ _
          (drop_read c.deref-end-items.result.now c.ends.end-index c.end-item.result c.ends-test.true c.end-item.is)
          c.in-Some.ensures.items;
    }

pub ends-preserved : goal.ends-preserved
ends-preserved c =
    let starts = c.in_ok-starts.starts.items in
    let ends_split = drop_read c.deref-end-items.result.now c.ends.end-index c.end-item.result c.ends-test.true c.end-item.is in
    let not_before : c.starts.next < length starts → c.end-item.result ≤ get_or starts c.starts.next 0 = rw c.deref.ensures.value at c.starts-test.ensures.no in
    let after : (c.starts.next < length starts → get_or starts c.starts.next 0 ≢ c.end-item.result) → All (λ s. c.end-item.result < s) (drop c.starts.next starts) =
    λ not_at. all_after starts c.starts.next c.end-item.result c.starts.invariant.starts_rise (λ below. let n = not_before below in let m = not_at below in omega arith) in
    elim c.if-begins_at.branch [
      | then-begins_at w ↦
          let here : c.starts.next < length starts = rw c.deref-in-ends.ensures.value at w.if-begins_at.ensures.yes.0 in
          let same : get_or starts c.starts.next 0 ≡ c.end-item.result = rw c.deref-in-ends.ensures.value at w.if-begins_at.ensures.yes.1 in
          record {
            sweep = rw (w.opened-is, w.made-is, w.next-is)
                (cancels_by c.args.periods.now c.starts.invariant (get_or starts c.starts.next 0) c.end-item.result _ _ (drop_more starts c.starts.next 0 here) ends_split same);
            no_more = rw w.made-is (omega (arith, c.ends.invariant.no_more));
          }
      | else-begins_at+in-Some+in_ok-push-2 w ↦
          record {
            sweep = rw (w.opened-is, w.made-is, w.next-is, w.in_ok-push-2.ensures.items)
                (closes_by c.args.periods.now c.starts.invariant _ _ _ ends_split w.in-Some.ensures.items (after (rw c.deref-in-ends.ensures.value at w.if-begins_at.ensures.no)));
            no_more = rw (w.made-is, w.in_ok-push-2.ensures.len) (omega (arith, c.ends.invariant.no_more));
          }
      | else-begins_at+in_default w ↦
          let some = some_open_by c.args.periods.now c.starts.invariant c.end-item.result _ ends_split (after (rw c.deref-in-ends.ensures.value at w.if-begins_at.ensures.no)) in
          absurd (omega (arith, w.in_default.ensures.cases.0, c.starts.opened.ok.0))
    ]

pub returns-clause-layering : goal.returns-clause-layering
returns-clause-layering c =
    finished c.args.periods.now _ _ _ (rw (drop_all c.ends.end-index c.deref-end-items.result.now (omega arith)) at c.ends.invariant.sweep)
