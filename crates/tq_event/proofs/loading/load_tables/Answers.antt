use Rattle.std.proofs.Common.{sym, subst}
use Rattle.tq_event.specs.Tables.{AreRead, AreRowsOf, entries_from, lists_of}
use Rattle.tq_event.proofs.TableLemmas.{rows_are_told}
use Rattle.tq_event.proofs.loading.load_tables.Goals as goal

pub returns-clause-tables : goal.returns-clause-tables
returns-clause-tables c =
    let schemas = c.in_ok-schemas.schemas.items in
    let rows = c.in_ok-schemas.rows.items in
    record {
      contents = record { tables = schemas; entries = entries_from 0 rows };
      is_contents = c.in_ok-schemas.ensures.ok;
      catalogue = c.of.ensures;
      read = subst (AreRead schemas) (sym c.of-2.ensures) c.in_ok-schemas.ensures.read;
      rows = subst (λ tables. AreRowsOf (entries_from 0 rows) (lists_of tables)) (sym c.of-2.ensures) (rows_are_told rows);
    }
