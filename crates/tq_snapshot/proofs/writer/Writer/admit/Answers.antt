use Rattle.tq_snapshot.proofs.FindLemmas.{admits}
use Rattle.tq_snapshot.proofs.writer.Writer.admit.Goals as goal

pub reader-requires : goal.reader-requires
reader-requires g c = admits g.J.StoreId.catalogue g.J.StoreId.book
