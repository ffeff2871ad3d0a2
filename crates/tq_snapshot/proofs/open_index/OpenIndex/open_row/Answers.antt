use Rattle.std.proofs.Common.{length, refl}
use Rattle.std.proofs.lemmas.Option.{slice_get_read}
use Rattle.tq_snapshot.proofs.open_index.OpenIndex.open_row.Goals as goal

pub first_open-requires-clause-rows : goal.first_open-requires-clause-rows
first_open-requires-clause-rows c =
    let tables = c.args.self.now.tables.items in
    let rows = c.index-rows.result.now in
    c.requires.index.each c.args.table rows (slice_get_read tables (length tables) c.args.table rows refl c.requires.table c.index-rows.ensures)
