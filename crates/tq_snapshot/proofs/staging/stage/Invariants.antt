use Rattle.std.proofs.Common.{◌≡◌, ◌-◌, drop, length}
use Rattle.tq_snapshot.specs.Sound.{IsStaged}
use Rattle.tq_snapshot.proofs.staging.stage.Given as goal

abbrev pub invariant-pending : goal.invariant-pending
invariant-pending g l = record {
  shown : l.inner.desk.shown.value ≡ l.fn.inner.desk.shown.value;
  handed : IsStaged l.prefix.book l.inner.desk.shown.value.events (drop l.inner.behind l.inner.log.items) l.pending l.sent;
}

abbrev pub decreases-pending : goal.decreases-pending
decreases-pending g l = length l.pending - l.sent
