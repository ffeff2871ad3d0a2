use Rattle.std.proofs.Common.{◌≡◌, ◌≤◌, ◌<◌, ◌+◌, ◌*◌, ◌++◌, ◌∙◌, ap, get_or, length, map, arith}
use Rattle.std.specs.List.{range_with_len}
use Rattle.std.proofs.lemmas.List.FromFn.{length-map-range_with_len}
use Rattle.tq_base.specs.RowValues.{value_at}
use Rattle.tq_base.specs.Keys.{no_row}
use Rattle.tq_base.specs.Relations.{column_of}
use Rattle.tq_base.proofs.ColumnLemmas.{columns_here}
use Rattle.tq_base.proofs.RowListLemmas.{row_inside, values_more}
use Rattle.tq_base.proofs.relation.Relation.copied_values.Goals as goal

pub push_values-requires : goal.push_values-requires
push_values-requires c =
    let items = c.args.self.now.items in
    let width = c.args.self.now.width in
    let columns : c.deref.result.now ≡ map (column_of items) (range_with_len 0 width) = c.deref.ensures.value ∙ c.in_ok-columns.ensures in
    let as_many : length c.deref.result.now ≡ width = ap length columns ∙ length-map-range_with_len (column_of items) 0 width in
    let inside : c.rows.row < length items = omega (arith, c.rows-test.true, c.len-row-end.ensures.len) in
    let fits : c.rows.row * width + width ≤ length items * width = row_inside c.rows.row (length items) width (length items * width) inside (λ i. length items * width) in
    omega (arith, as_many, fits, c.rows.invariant.len, c.rows.invariant.room)

pub rows-preserved : goal.rows-preserved
rows-preserved c =
    let items = c.args.self.now.items in
    let width = c.args.self.now.width in
    let row = c.rows.row in
    let columns : c.deref.result.now ≡ map (column_of items) (range_with_len 0 width) = c.deref.ensures.value ∙ c.in_ok-columns.ensures in
    let as_many : length c.deref.result.now ≡ width = ap length columns ∙ length-map-range_with_len (column_of items) 0 width in
    let inside : row < length items = omega (arith, c.rows-test.true, c.len-row-end.ensures.len) in
    let shown : map (λ column. value_at column row) c.deref.result.now ≡ (get_or items row no_row).values =
    ap (map (λ column. value_at column row)) columns ∙ columns_here items width row no_row inside c.width.ensures.rows in
    let next : (row + 1) * width ≡ row * width + width = grind arith in
    record {
      values = c.in_ok-push_values.ensures.values ∙ (λ i. c.rows.invariant.values i ++ shown i) ∙ values_more items row no_row inside;
      len = omega (arith, next, as_many, c.rows.invariant.len, c.in_ok-push_values.ensures.len);
      room = omega (arith, c.rows.invariant.room, c.in_ok-push_values.ensures.capacity);
    }
