use Rattle.std.proofs.Common.{◌∷◌, [], ◌∙◌, ℕ, length, length-append, ap, subst, sym, arith}
use Rattle.std.specs.Prelude.{All}
use Rattle.std.proofs.lemmas.List.Elements.{All-push}
use Rattle.tq_snapshot.specs.declared.open_index.TableRows.{TableRows}
use Rattle.tq_snapshot.specs.OpenIndex.{AreTableRows}
use Rattle.tq_snapshot.proofs.open_index.no_tables.Goals as goal

pub tables-preserved : goal.tables-preserved
tables-preserved c =
    let items = c.in_ok-push.ensures.items in
    let len = length-append c.tables.none.items (c.new.result ∷ []) in
    let before = c.tables.invariant.len in
    let Good = λ (rows : TableRows). (table : ℕ) → AreTableRows [] table rows in
    record {
      len = ap length items ∙ omega (arith, len, before);
      each = subst (All Good) (sym items) (All-push Good c.tables.none.items c.new.result c.tables.invariant.each c.new.ensures);
    }
