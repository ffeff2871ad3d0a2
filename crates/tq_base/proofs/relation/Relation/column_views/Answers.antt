use Rattle.std.proofs.Common.{◌≡◌, ◌+◌, sym, arith}
use Rattle.std.proofs.lemmas.List.FromFn.{map-range_with_len_more}
use Rattle.tq_base.specs.Relations.{column_of}
use Rattle.tq_base.proofs.relation.Relation.column_views.Goals as goal

pub columns-preserved : goal.columns-preserved
columns-preserved c =
    let next : 0 + c.columns.column ≡ c.columns.column = omega arith in
    rw (c.in_ok-push.ensures.items, c.columns.invariant, c.column.ensures) (sym (map-range_with_len_more (column_of c.args.self.now.items) 0 c.columns.column c.columns.column next))
