use Rattle.tq_snapshot.proofs.FindLemmas.{some_learnt}
use Rattle.tq_snapshot.proofs.reader.Reader.learn.Goals as goal

pub invariant_of-self : goal.invariant_of-self
invariant_of-self g c = (c.note.invariant, some_learnt c.self.inside.inner _ c.self.inside.observed.list c.note.inside.prefix.list c.self.inside.own c.self.invariant.1 c.if-begins.ensures)
