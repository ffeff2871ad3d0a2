use Rattle.tq_exec.proofs.HeldRows.{fit_as_of}
use Rattle.tq_exec.proofs.as_of.AsOfSnapshot.fit.Goals as goal

pub returns : goal.returns
returns c = fit_as_of c.args.self.now.db.now.catalogue c.args.self.now.db.now.events c.args.self.now.n c.count-count.ensures.history
