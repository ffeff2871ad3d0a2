use Rattle.std.proofs.Common.{subst, sym}
use Rattle.tq_event.specs.Tables.{lists_of}
use Rattle.tq_exec.specs.Fitting.{AreAllFitting}
use Rattle.tq_tests_execution.proofs.texts.in_ranges.Goals as goal

pub invariant_of-all : goal.invariant_of-all
invariant_of-all g c = record { fit = subst (λ rows. AreAllFitting c.args.tables.now.catalogue (lists_of rows)) (sym c.get-rows.ensures) c.requires.fit }
