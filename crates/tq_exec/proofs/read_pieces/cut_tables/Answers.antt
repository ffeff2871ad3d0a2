use Rattle.std.proofs.Common.{◌≡◌, ◌<◌, ◌∷◌, [], ℕ, ap, arith, get_or, length, length-append, subst, sym}
use Rattle.tq_exec.specs.declared.read_pieces.TablePieces.{TablePieces}
use Rattle.tq_exec.specs.Reads.{IsCut}
use Rattle.tq_exec.proofs.ChunkLemmas.{pushed}
use Rattle.tq_exec.proofs.read_pieces.cut_tables.Goals as goal

pub tables-preserved : goal.tables-preserved
tables-preserved c =
    let tables = c.tables.tables.items in
    let next = c.in_ok-cut_table.field-0 in
    let P : ℕ → TablePieces → Type 0 = IsCut c.args.db.now.events c.args.n c.args.plan.now in
    let grown = c.in_ok-push.ensures.items in
    let same : c.in-Ok.table ≡ length tables = omega (arith, c.in-Ok.ensures, c.tables.invariant.many) in
    let last = subst (λ k. P k next) same c.in_ok-cut_table.ensures in
    record {
      many = omega (arith, ap length grown, length-append tables (next ∷ []), c.tables.invariant.many);
      each = λ k d less. subst (λ l. P k (get_or l k d)) (sym grown) (pushed P tables next c.tables.invariant.each last k d (subst (λ l. k < length l) grown less));
    }
