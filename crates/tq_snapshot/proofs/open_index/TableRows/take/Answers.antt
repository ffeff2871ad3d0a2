use Rattle.std.proofs.Common.{◌++◌, ◌∷◌, ◌∙◌, ◌&&◌, ◌+◌, not, [], length, length-append, refl, subst, sym, ap}
use Rattle.std.specs.Option.{option_map_or}
use Rattle.std.specs.Ordering.{eq_by_cmp, nat_cmp}
use Rattle.tq_event.specs.Recorded.{table_of}
use Rattle.tq_store.specs.Index.{CanTake}
use Rattle.tq_snapshot.specs.OpenRows.{has, index_key}
use Rattle.tq_snapshot.specs.OpenIndex.{AreTableRows}
use Rattle.tq_store.specs.Stored.{values_in}
use Rattle.tq_store.proofs.IndexLemmas.{on_both}
use Rattle.tq_snapshot.proofs.OpenIndexLemmas.{open_life, rows_end, rows_start}
use Rattle.tq_snapshot.proofs.open_index.TableRows.take.Goals as goal

pub returns-in-Start-clause-ok : goal.returns-in-Start-clause-ok
returns-in-Start-clause-ok c = on_both c.start.result c.start.ensures.starts c.start.ensures.opened (λ starts opened.
    let es = c.args.published.now ++ c.args.pending.now in
    let of_table = subst (λ e. AreTableRows es (table_of e) c.args.self.now) c.in-Start.is c.requires.rows in
    let can = subst (CanTake es) c.in-Start.is c.requires.can in
    let counted = ap (λ n. n + length c.args.pending.now) c.len.ensures.len ∙ sym (length-append c.args.published.now c.args.pending.now) in
    let number = ap (λ n. c.args.self.now.starts.items ++ n ∷ []) counted in
    subst (λ e. AreTableRows (es ++ e ∷ []) (table_of e) c.start.new.self) (sym c.in-Start.is)
    (rows_start es c.in-Start.table c.in-Start.values c.in-Start.at c.args.self.now c.start.new.self c.requires.few of_table can.0 can.1 (starts ∙ number) opened))

pub returns-in_ok-values-in-End-clause-ok : goal.returns-in_ok-values-in-End-clause-ok
returns-in_ok-values-in-End-clause-ok c =
    let es = c.args.published.now ++ c.args.pending.now in
    let of_table = subst (λ e. AreTableRows es (table_of e) c.args.self.now) c.in-End.is c.requires.rows in
    let can = subst (CanTake es) c.in-End.is c.requires.can in
    let row = open_life es c.in-End.table c.in-End.row c.in-End.at can.0 in
    let key = c.open_key.ensures ∙ ap (λ v. index_key v c.in-End.row) (c.in_ok-values-in-End.ensures ∙ ap (λ o. option_map_or values_in o []) (c.start_of-start.ensures.life row.life row.stands)) in
    subst (λ e. AreTableRows (es ++ e ∷ []) (table_of e) (record { starts = c.args.self.now.starts; opened = c.remove.new.self })) (sym c.in-End.is)
    (rows_end es c.in-End.table c.in-End.row c.in-End.at c.args.self.now (record { starts = c.args.self.now.starts; opened = c.remove.new.self }) row.life c.requires.few of_table can.1 row.stands row.none row.from refl
    (λ k. c.remove.ensures k ∙ ap (λ q. has c.args.self.now.opened k && not (eq_by_cmp nat_cmp q k)) key))
