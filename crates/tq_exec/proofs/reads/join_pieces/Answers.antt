use Rattle.std.proofs.Common.{◌≡◌, ◌+◌, ◌<◌, ◌≤◌, ◌∙◌, ◌∷◌, [], ℕ, ap, arith, drop, get_or, length, length-append, subst, sym, take}
use Rattle.tq_base.specs.RowLists.{RowList}
use Rattle.tq_exec.specs.Answers.{as_of}
use Rattle.tq_exec.specs.declared.read_pieces.TablePieces.{TablePieces}
use Rattle.tq_exec.specs.Reads.{AreRead, IsCut, IsReadTable, all_pieces}
use Rattle.tq_exec.proofs.ChunkLemmas.{pushed}
use Rattle.tq_exec.proofs.ReadLemmas.{later_read, lists_long, table_read}
use Rattle.tq_exec.proofs.reads.join_pieces.Goals as goal

pub split_off-requires : goal.split_off-requires
split_off-requires c =
    let db = c.args.db.now in
    let lists = c.tables.lists.items in
    let long =
    subst (λ (s : TablePieces). length s.pieces.items ≤ length lists) (sym c.table-item.is)
    (lists_long db.catalogue db.events c.args.n c.args.plan.now.window c.args.pieces.now c.tables.table-index c.table-item.result c.tables-test.true lists c.tables.invariant.read) in
    omega (arith, long, c.len.ensures, c.table-item.result.pieces.ok.0, c.tables.lists.ok.0)

pub read_table-requires-clause-cut : goal.read_table-requires-clause-cut
read_table-requires-clause-cut c =
    let P = IsCut c.args.db.now.events c.args.n c.args.plan.now in
    let here = c.requires.cut.each c.tables.table-index c.table-item.result c.tables-test.true in
    subst (λ (s : TablePieces). P s.table s) (sym c.table-item.is) (subst (λ k. P k (get_or c.args.pieces.now c.tables.table-index c.table-item.result)) (sym here.same) here)

pub read_table-requires-clause-read : goal.read_table-requires-clause-read
read_table-requires-clause-read c =
    let db = c.args.db.now in
    let lists = c.tables.lists.items in
    let many : length c.table-item.result.pieces.items ≡ c.len.result = omega (arith, c.len.ensures, c.table-item.result.pieces.ok.0) in
    subst (AreRead db.catalogue db.events c.args.n c.args.plan.now.window c.table-item.result.pieces.items) (ap (λ k. take k lists) many ∙ sym c.in_ok-later.ensures.items)
    (subst (λ (s : TablePieces). AreRead db.catalogue db.events c.args.n c.args.plan.now.window s.pieces.items (take (length s.pieces.items) lists)) (sym c.table-item.is)
    (table_read db.catalogue db.events c.args.n c.args.plan.now.window c.args.pieces.now c.tables.table-index c.table-item.result c.tables-test.true lists c.tables.invariant.read))

pub tables-preserved : goal.tables-preserved
tables-preserved c =
    let db = c.args.db.now in
    let lists = c.tables.lists.items in
    let tables = c.tables.tables.items in
    let next = c.in_ok-read_table.field-0 in
    let here = c.requires.cut.each c.tables.table-index c.table-item.result c.tables-test.true in
    let rest = all_pieces (drop (c.tables.table-index + 1) c.args.pieces.now) in
    let many : length c.table-item.result.pieces.items ≡ c.len.result = omega (arith, c.len.ensures, c.table-item.result.pieces.ok.0) in
    let P : ℕ → RowList → Type 0 = IsReadTable db.catalogue (as_of db.events c.args.n) c.args.plan.now in
    let grown = c.in_ok-push.ensures.items in
    let number : c.table-item.result.table ≡ c.tables.table-index = ap (λ (s : TablePieces). s.table) c.table-item.is ∙ here.same in
    let last = subst (λ k. P k next) (number ∙ sym c.tables.invariant.many) c.in_ok-read_table.ensures in
    record {
      read =
          subst (AreRead db.catalogue db.events c.args.n c.args.plan.now.window rest) (ap (λ k. drop k lists) many ∙ sym c.in_ok-later.ensures.tail)
          (subst (λ (s : TablePieces). AreRead db.catalogue db.events c.args.n c.args.plan.now.window rest (drop (length s.pieces.items) lists)) (sym c.table-item.is)
          (later_read db.catalogue db.events c.args.n c.args.plan.now.window c.args.pieces.now c.tables.table-index c.table-item.result c.tables-test.true lists c.tables.invariant.read));
      many = omega (arith, ap length grown, length-append tables (next ∷ []), c.tables.invariant.many);
      each = λ k d less. subst (λ l. P k (get_or l k d)) (sym grown) (pushed P tables next c.tables.invariant.each last k d (subst (λ l. k < length l) grown less));
    }

pub returns : goal.returns
returns c = record {
  many = omega (arith, c.tables.invariant.many, c.tables-test.false, c.tables.auto.table-index-end, c.requires.cut.many);
  each = c.tables.invariant.each;
}
