use Rattle.std.proofs.Common.{refl}
use Rattle.tq_diagnostics.proofs.faults.is_invalid.Goals as goal

pub returns-in-Ok : goal.returns-in-Ok
returns-in-Ok c = rw (c.in-Ok.ensures.ok.parsed 0) refl
