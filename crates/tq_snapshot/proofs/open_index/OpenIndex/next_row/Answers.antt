use Rattle.std.proofs.Common.{◌++◌, length, refl, rules}
use Rattle.std.proofs.lemmas.Option.{slice_get_read}
use Rattle.tq_snapshot.proofs.OpenIndexLemmas.{next_row_is}
use Rattle.tq_snapshot.proofs.open_index.OpenIndex.next_row.Goals as goal

pub returns : goal.returns
returns c =
    let tables = c.args.self.now.tables.items in
    let rows = c.index.result.now in
    let is = next_row_is (c.args.published.now ++ c.args.pending.now) c.args.table rows (c.requires.index.each c.args.table rows (slice_get_read tables (length tables) c.args.table rows refl c.requires.table c.index.ensures)) in
    search (rules, is)
