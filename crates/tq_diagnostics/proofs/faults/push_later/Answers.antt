use Rattle.tq_diagnostics.proofs.faults.push_later.Goals as goal

pub returns-in-Ok : goal.returns-in-Ok
returns-in-Ok c = rw c.in-Ok.ensures.ok (rw c.deref.ensures.value at c.push_later_under.ensures)
