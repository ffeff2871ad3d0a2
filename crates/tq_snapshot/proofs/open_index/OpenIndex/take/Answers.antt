use Rattle.std.proofs.Common.{◌<◌, ◌++◌, ◌∷◌, [], length, refl, subst, sym, arith}
use Rattle.std.proofs.lemmas.Option.{slice_get_read}
use Rattle.tq_snapshot.specs.OpenIndex.{AreTableRows, table_count}
use Rattle.tq_store.proofs.AdmissibleLemmas.{ordered_push}
use Rattle.tq_store.proofs.IndexLemmas.{length_push, on_err, on_ok}
use Rattle.tq_snapshot.proofs.OpenIndexLemmas.{can_follow, table_within, tables_after, tables_kept}
use Rattle.tq_snapshot.proofs.open_index.OpenIndex.take.Goals as goal

pub take-requires-clause-rows : goal.take-requires-clause-rows
take-requires-clause-rows c =
    let es = c.args.published.now ++ c.args.pending.now in
    let tables = c.args.self.now.tables.items in
    let rows = c.index_mut-rows.result.now in
    let less = subst (λ n. n < length tables) (sym c.table.ensures) (table_within (table_count c.args.self.now) es c.args.event.now c.requires.follows) in
    subst (λ n. AreTableRows es n rows) c.table.ensures
    (c.requires.index.each c.table.result rows (slice_get_read tables (length tables) c.table.result rows refl less c.index_mut-rows.ensures.value))

pub take-requires-clause-can : goal.take-requires-clause-can
take-requires-clause-can c =
    let es = c.args.published.now ++ c.args.pending.now in
    let tables = c.args.self.now.tables.items in
    let rows = c.index_mut-rows.result.now in
    let less = subst (λ n. n < length tables) (sym c.table.ensures) (table_within (table_count c.args.self.now) es c.args.event.now c.requires.follows) in
    let are = subst (λ n. AreTableRows es n rows) c.table.ensures
    (c.requires.index.each c.table.result rows (slice_get_read tables (length tables) c.table.result rows refl less c.index_mut-rows.ensures.value)) in
    let time = c.at.ensures in
    let value = c.number-finite.ensures.value in
    let finite = c.number-finite.ensures.in_range in
    can_follow (table_count c.args.self.now) es c.args.event.now c.requires.follows are.good (omega (arith, time, value, finite))

pub returns-clause-ok : goal.returns-clause-ok
returns-clause-ok c = on_ok c.take.result c.take.ensures.ok (λ is.
    let es = c.args.published.now ++ c.args.pending.now in
    let e = c.args.event.now in
    let tables = c.args.self.now.tables.items in
    let less = subst (λ n. n < length tables) (sym c.table.ensures) (table_within (table_count c.args.self.now) es e c.requires.follows) in
    let len = length_push es e in
    let room = c.requires.room in
    record {
      each = tables_after es tables c.table.result c.take.new.self c.requires.index.each less e (sym c.table.ensures) (subst (λ n. AreTableRows (es ++ e ∷ []) n c.take.new.self) (sym c.table.ensures) is);
      ordered = ordered_push es e c.requires.index.ordered c.requires.follows.admissible.0;
      few = omega (arith, len, room);
    })

pub returns-clause-err : goal.returns-clause-err
returns-clause-err c = on_err c.take.result c.take.ensures.err (λ is.
    let es = c.args.published.now ++ c.args.pending.now in
    let tables = c.args.self.now.tables.items in
    let less = subst (λ n. n < length tables) (sym c.table.ensures) (table_within (table_count c.args.self.now) es c.args.event.now c.requires.follows) in
    record {
      each = tables_kept es tables c.table.result c.take.new.self c.requires.index.each less (subst (λ n. AreTableRows es n c.take.new.self) (sym c.table.ensures) is);
      ordered = c.requires.index.ordered;
      few = c.requires.index.few;
    })
