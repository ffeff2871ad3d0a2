use Rattle.std.proofs.Common.{◌≡◌, ◌-◌, get_or, length, map, sym, ap, ◌∙◌, subst}
use Rattle.std.specs.Prelude.{All}
use Rattle.std.specs.List.{range_with_len}
use Rattle.tq_base.specs.declared.fragment.Fragment.{Fragment}
use Rattle.tq_base.specs.Keys.{SortInputState}
use Rattle.tq_base.specs.Relations.{row_period_of}
use Rattle.tq_base.specs.Fragments.{copies}
use Rattle.tq_ops.specs.Differences.{AreKeysOfBoth}
use Rattle.tq_ops.proofs.Cutting.{inside_from_counts, outside_from_counts}
use Rattle.tq_ops.proofs.Widths.{whole}
use Rattle.tq_ops.proofs.difference.remaining_periods.Goals as goal

pub add_differences-requires : goal.add_differences-requires
add_differences-requires c =
    let s : SortInputState = record { left = c.args.left.now.items; right = c.args.right.now.items; left_columns = c.deref.result.now; right_columns = c.deref-2.result.now } in
    let width = c.args.left.now.width in
    let keys : AreKeysOfBoth s c.args.window.now c.deref-3.result.now = subst (AreKeysOfBoth s c.args.window.now) (sym c.deref-3.ensures.value) c.in_ok-keys.ensures in
    let rights : All (λ (row : Fragment). length row.values ≡ width) s.right = subst (λ n. All (λ (row : Fragment). length row.values ≡ n) s.right) c.requires c.width-2.ensures.rows in
    let columns : c.in_ok-columns.columns.items ≡ range_with_len 0 width = c.in_ok-columns.ensures ∙ ap (range_with_len 0) c.width.ensures.width in
    record {
      keys = keys;
      whole = λ k d lt. whole s width c.width.ensures.rows rights (c.deref.ensures.value ∙ columns) (c.deref-2.ensures.value ∙ columns) (get_or c.deref-3.result.now k d) (keys.each k d lt);
      empty = c.new-lines.ensures.items;
    }

pub returns-clause-inside : goal.returns-clause-inside
returns-clause-inside c = inside_from_counts c.args.window.now (map (row_period_of c.args.left.now.items) c.add_differences.new.lines.items) (λ t v. copies c.args.left.now.items v t - copies c.args.right.now.items v t) c.in_ok-add_differences.ensures.counted

pub returns-clause-outside : goal.returns-clause-outside
returns-clause-outside c = outside_from_counts c.args.window.now (map (row_period_of c.args.left.now.items) c.add_differences.new.lines.items) (λ t v. copies c.args.left.now.items v t - copies c.args.right.now.items v t) c.in_ok-add_differences.ensures.counted
