use Rattle.std.proofs.Common.{subst, sym}
use Rattle.tq_event.specs.History.{CanHappen, IsNotBefore}
use Rattle.tq_store.proofs.AdmissibleLemmas.{end_possible, possible_end}
use Rattle.tq_store.proofs.db.is_admissible.Goals as goal

pub returns-in-End-clause-admissible : goal.returns-in-End-clause-admissible
returns-in-End-clause-admissible c = (
  λ can.
      let possible = end_possible c.args.catalogue.now c.args.events.now c.args.indexes.now c.in-End.table c.in-End.row c.in-End.at c.requires.tables (c.can_end.ensures.0 can) in (
        subst (IsNotBefore c.args.events.now) c.at-at.ensures (c.is_not_before.ensures.0 c.if-not-is_not_before.false),
        subst (CanHappen c.args.catalogue.now c.args.events.now) (sym c.in-End.is) possible,
      ),
  λ fits.
      let happens = subst (CanHappen c.args.catalogue.now c.args.events.now) c.in-End.is fits.1 in
      c.can_end.ensures.1 (possible_end c.args.catalogue.now c.args.events.now c.args.indexes.now c.in-End.table c.in-End.row c.in-End.at c.requires.tables c.requires.indexes happens),
)
