use Rattle.std.proofs.Common.{length, refl}
use Rattle.std.proofs.lemmas.Option.{slice_get_read}
use Rattle.tq_store.proofs.db.can_end.Goals as goal

pub is_open_before-requires : goal.is_open_before-requires
is_open_before-requires c =
    let found = c.in-Some.ensures.lookup in
    c.requires.each c.args.table c.in-Some.index.now (slice_get_read c.args.indexes.now (length c.args.indexes.now) c.args.table c.in-Some.index.now refl found.3.0 found.1)
