use Rattle.tq_snapshot.proofs.HistoryLemmas.{history_taken}
use Rattle.tq_snapshot.proofs.shared.SharedStore.filled.Goals as goal

pub prove-unreachable-requires : goal.prove-unreachable-requires
prove-unreachable-requires c =
    history_taken c.args.catalogue c.args.events.now c.loop-event.event-index c.event-item.result c.loop-event.db c.in_ok-taken.taken c.requires.history c.loop-event-test.true c.event-item.is c.loop-event.invariant c.in_ok-taken.ensures.admissible c.if-prove.true
