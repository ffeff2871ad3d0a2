use Rattle.std.proofs.Common.{◌≡◌, ◌++◌, ◌∷◌, ◌<◌, ◌+◌, ◌∙◌, [], length, subst, sym, ap, arith, true, ℕ, List, None}
use Rattle.std.specs.Prelude.{slice_index_or, slice_set}
use Rattle.std.proofs.lemmas.Option.{get_or_from_slice_get}
use Rattle.tq_base.specs.RowLists.{RowList}
use Rattle.tq_event.specs.declared.event.Event.{Event}
use Rattle.tq_event.specs.declared.event.Event.TheVariants.{End}
use Rattle.tq_event.specs.Recorded.{table_of}
use Rattle.tq_mvbt.specs.TreeState.{lives_of}
use Rattle.tq_store.specs.declared.index.Index.{Index}
use Rattle.tq_store.specs.declared.index.RowEvents.{RowEvents}
use Rattle.tq_base.specs.KeyRanges.{key_of}
use Rattle.tq_base.specs.declared.period.TheConstants.{FOREVER}
use Rattle.tq_store.specs.Keys.{shifted, tree_key}
use Rattle.tq_store.specs.Index.{Begins, CanTake, HasWidth, IsIndexOf, Ends, ended, events_of, tree_key_of}
use Rattle.tq_store.proofs.IndexLemmas.{IsOpenRow, index_end, index_like, index_start, on_both, on_both_err, on_three, on_three_err, open_row}
use Rattle.tq_store.proofs.index.Index.take.Goals as goal

-- the row that the event ends
ending_row : (es : List Event) (event : Event) (t row at : ℕ) (index : Index) → event ≡ End t row at → length es < 16777216 → IsIndexOf es (table_of event) index → CanTake es event → IsOpenRow es t row at index
ending_row es event t row at index is few of_table can =
    open_row es t row at index few (subst (λ e. IsIndexOf es (table_of e) index) is of_table) (subst (CanTake es) is can).0

-- its events are those in the index
known : (es : List Event) (t row at : ℕ) (index : Index) (k : RowEvents) → (open_there : IsOpenRow es t row at index) → k ≡ slice_index_or index.rows.items row k → k ≡ events_of open_there.life
known es t row at index k open_there is = is ∙ get_or_from_slice_get index.rows.items row (events_of open_there.life) k open_there.kept

small : (es : List Event) (number : ℕ) → length es ≡ number → number < 16777216 → length es < 16777216
small es number counted few = omega (arith, counted, few)

pub end-requires-clause-alive : goal.end-requires-clause-alive
end-requires-clause-alive c =
    let next = c.requires.next in
    let row = ending_row next.events c.args.event.now c.in-End.table c.in-End.row c.in-End.at c.args.self.now c.in-End.is (small next.events c.args.number next.counted c.requires.few) next.is next.can in
    let same = known next.events c.in-End.table c.in-End.row c.in-End.at c.args.self.now c.index-known.result.now row c.index-known.ensures in
    subst (λ (k : RowEvents). lives_of c.args.self.now.tree.nodes (tree_key_of k c.in-End.row) c.args.self.now.tree.version ≡ true) (sym same) row.alive

pub returns-in-Start-clause-ok : goal.returns-in-Start-clause-ok
returns-in-Start-clause-ok c es counted is takes = on_three c.start.result c.start.ensures.rows c.start.ensures.tree c.start.ensures.kept (λ rows tree kept.
    let of_table = subst (λ e. IsIndexOf es (table_of e) c.args.self.now) c.in-Start.is is in
    let can = subst (CanTake es) c.in-Start.is takes in
    subst (λ e. IsIndexOf (es ++ e ∷ []) (table_of e) c.start.new.self) (sym c.in-Start.is)
    (index_start es c.in-Start.table c.in-Start.values c.in-Start.at c.args.self.now c.start.new.self (small es c.args.number counted c.requires.few) of_table can.0 can.1
    (rows ∙ ap (λ n. c.args.self.now.rows.items ++ record { start = n; end = None; from = c.in-Start.at; to = FOREVER; key = shifted (key_of c.in-Start.values) } ∷ []) (sym counted))
    (subst (λ n. Begins c.args.self.now.tree c.start.new.self.tree (tree_key c.in-Start.values (length c.args.self.now.rows.items)) (n + 1)) (sym counted) tree) kept))

pub returns-in-End-clause-ok : goal.returns-in-End-clause-ok
returns-in-End-clause-ok c es counted is takes = on_both c.end.result c.end.ensures.rows c.end.ensures.tree (λ rows tree.
    let few = small es c.args.number counted c.requires.few in
    let row = ending_row es c.args.event.now c.in-End.table c.in-End.row c.in-End.at c.args.self.now c.in-End.is few is takes in
    let same = known es c.in-End.table c.in-End.row c.in-End.at c.args.self.now c.index-known.result.now row c.index-known.ensures in
    let of_table = subst (λ e. IsIndexOf es (table_of e) c.args.self.now) c.in-End.is is in
    let can = subst (CanTake es) c.in-End.is takes in
    subst (λ e. IsIndexOf (es ++ e ∷ []) (table_of e) c.end.new.self) (sym c.in-End.is)
    (index_end es c.in-End.table c.in-End.row c.in-End.at c.args.self.now c.end.new.self row.life few of_table can.1 row.stands row.none row.from
    (rows ∙ ap (λ (k : RowEvents). slice_set c.args.self.now.rows.items c.in-End.row (ended c.args.number c.in-End.at k)) same
    ∙ ap (λ n. slice_set c.args.self.now.rows.items c.in-End.row (ended n c.in-End.at (events_of row.life))) (sym counted))
    (subst (λ n. Ends c.args.self.now.tree c.end.new.self.tree (tree_key_of (events_of row.life) c.in-End.row) (n + 1)) (sym counted)
    (subst (λ (k : RowEvents). Ends c.args.self.now.tree c.end.new.self.tree (tree_key_of k c.in-End.row) (c.args.number + 1)) same tree))
    c.end.ensures.kept))

pub start-requires-clause-width : goal.start-requires-clause-width
start-requires-clause-width c = subst (HasWidth c.args.self.now.kept.width) c.in-Start.is c.requires.width

pub returns-in-Start-clause-err : goal.returns-in-Start-clause-err
returns-in-Start-clause-err c es is = on_three_err c.start.result c.start.ensures.same_tree c.start.ensures.same_rows c.start.ensures.same_kept (λ tree rows kept.
    index_like es (table_of c.args.event.now) c.args.self.now c.start.new.self tree rows kept is)

pub returns-in-End-clause-err : goal.returns-in-End-clause-err
returns-in-End-clause-err c es is = on_both_err c.end.result c.end.ensures.same_tree c.end.ensures.same_rows (λ tree rows.
    index_like es (table_of c.args.event.now) c.args.self.now c.end.new.self tree rows (ap (λ (r : RowList). r.items) c.end.ensures.kept) is)
