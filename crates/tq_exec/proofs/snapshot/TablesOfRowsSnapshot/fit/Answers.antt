use Rattle.tq_event.specs.Tables.{lists_of}
use Rattle.tq_exec.proofs.HeldRows.{tables_fit}
use Rattle.tq_exec.proofs.snapshot.TablesOfRowsSnapshot.fit.Goals as goal

pub returns : goal.returns
returns c = tables_fit c.args.self.now.catalogue.now (lists_of c.args.self.now.tables.now) c.args.self.now.fit
