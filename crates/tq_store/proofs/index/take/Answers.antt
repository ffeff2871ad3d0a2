use Rattle.std.proofs.Common.{◌++◌, ◌∷◌, ◌<◌, [], length, slice_set, subst, refl, sym}
use Rattle.std.specs.Prelude.{slice_index_or}
use Rattle.std.proofs.lemmas.Option.{get_or_from_slice_get, slice_get_read}
use Rattle.tq_event.specs.Recorded.{table_of}
use Rattle.tq_store.specs.Index.{AreIndexes, HasWidth, IsIndexOf, widths_of}
use Rattle.tq_store.proofs.IndexLemmas.{indexes_after, indexes_kept, on_err, on_ok, width_at, widths_kept}
use Rattle.tq_store.proofs.index.take.Goals as goal

pub take-requires-clause-next : goal.take-requires-clause-next
take-requires-clause-next c =
    let next = c.requires.next in
    let indexes = c.args.indexes.now.items in
    let index = c.index_mut-index.result.now in
    let less : c.table.result < length indexes = subst (λ n. n < length indexes) (sym c.table.ensures) c.requires.table in
    record {
      events = next.events;
      counted = next.counted;
      is = subst (λ n. IsIndexOf next.events n index) c.table.ensures
          (next.are.each c.table.result index (slice_get_read indexes (length indexes) c.table.result index refl less c.index_mut-index.ensures.value));
      can = next.can;
    }

pub take-requires-clause-width : goal.take-requires-clause-width
take-requires-clause-width c =
    let indexes = c.args.indexes.now.items in
    let index = c.index_mut-index.result.now in
    let less : c.table.result < length indexes = subst (λ n. n < length indexes) (sym c.table.ensures) c.requires.table in
    let here = slice_get_read indexes (length indexes) c.table.result index refl less c.index_mut-index.ensures.value in
    subst (λ w. HasWidth w c.args.event.now) (get_or_from_slice_get (widths_of indexes) c.table.result index.kept.width 0 (width_at indexes c.table.result index here))
    (subst (λ n. HasWidth (slice_index_or (widths_of indexes) n 0) c.args.event.now) (sym c.table.ensures) c.requires.width)

pub returns-clause-widths : goal.returns-clause-widths
returns-clause-widths c =
    let indexes = c.args.indexes.now.items in
    let index = c.index_mut-index.result.now in
    let less : c.table.result < length indexes = subst (λ n. n < length indexes) (sym c.table.ensures) c.requires.table in
    widths_kept indexes c.table.result index c.take.new.self (slice_get_read indexes (length indexes) c.table.result index refl less c.index_mut-index.ensures.value) c.take.ensures.width

pub returns-clause-ok : goal.returns-clause-ok
returns-clause-ok c es counted are can =
    let indexes = c.args.indexes.now.items in
    let index = c.index_mut-index.result.now in
    let less : c.table.result < length indexes = subst (λ n. n < length indexes) (sym c.table.ensures) c.requires.table in
    let here = subst (λ n. IsIndexOf es n index) c.table.ensures (are.each c.table.result index (slice_get_read indexes (length indexes) c.table.result index refl less c.index_mut-index.ensures.value)) in
    on_ok c.take.result (c.take.ensures.ok es counted here can) (λ is.
    subst (λ n. AreIndexes (es ++ c.args.event.now ∷ []) (slice_set c.args.indexes.now.items n c.take.new.self)) (sym c.table.ensures)
    (indexes_after es c.args.event.now c.args.indexes.now.items c.take.new.self are c.requires.table is))

pub returns-clause-err : goal.returns-clause-err
returns-clause-err c es are =
    let indexes = c.args.indexes.now.items in
    let index = c.index_mut-index.result.now in
    let less : c.table.result < length indexes = subst (λ n. n < length indexes) (sym c.table.ensures) c.requires.table in
    let here = subst (λ n. IsIndexOf es n index) c.table.ensures (are.each c.table.result index (slice_get_read indexes (length indexes) c.table.result index refl less c.index_mut-index.ensures.value)) in
    on_err c.take.result (c.take.ensures.err es here) (λ is.
    subst (λ n. AreIndexes es (slice_set c.args.indexes.now.items n c.take.new.self)) (sym c.table.ensures)
    (indexes_kept es (table_of c.args.event.now) c.args.indexes.now.items c.take.new.self are c.requires.table is))
