use Rattle.std.proofs.Common.{◌≡◌, ◌++◌, ◌∙◌, [], List, ap, get_or, length, refl, sym}
use Rattle.std.proofs.lemmas.Result.{on_ok_weaker}
use Rattle.tq_base.specs.declared.value.Value.{Value as AnyValue}
use Rattle.tq_base.specs.Keys.{no_row}
use Rattle.tq_base.specs.RowLists.{RowList}
use Rattle.tq_base.proofs.SlotLemmas.{copied_seen, seen_dense}
use Rattle.tq_base.proofs.rows.Rows.push_row.Goals as goal

pub push_copy-requires : goal.push_copy-requires
push_copy-requires c =
    let self_none : c.self.inside.slots.items ≡ [] = sym c.deref.ensures.value ∙ c.if-has_all_columns.ensures.all refl in
    let rows_none : c.rows.inside.slots.items ≡ [] = sym c.deref-then-has_all_columns.ensures.value ∙ c.if-has_all_columns-2.ensures.all refl in
    let rows : c.rows.inside.dense ≡ c.args.rows.now = seen_dense c.rows.inside.slots.items c.rows.inside.dense c.args.rows.now rows_none c.rows.view_is in
    ap length (c.values.ensures no_row ∙ ap (λ (v : RowList). (get_or v.items c.args.row no_row).values) rows)
    ∙ c.requires.width no_row
    ∙ ap (λ (v : RowList). v.width) (sym (seen_dense c.self.inside.slots.items c.self.inside.dense c.args.self.now self_none c.self.view_is))

pub returns-then-has_all_columns-2-clause-pushed : goal.returns-then-has_all_columns-2-clause-pushed
returns-then-has_all_columns-2-clause-pushed c d =
    let r = c.self.inside in
    let from = c.rows.inside in
    let self_none : r.slots.items ≡ [] = sym c.deref.ensures.value ∙ c.if-has_all_columns.ensures.all refl in
    let rows_none : from.slots.items ≡ [] = sym c.deref-then-has_all_columns.ensures.value ∙ c.if-has_all_columns-2.ensures.all refl in
    let rows : from.dense ≡ c.args.rows.now = seen_dense from.slots.items from.dense c.args.rows.now rows_none c.rows.view_is in
    on_ok_weaker c.push_copy.result
    (λ put. copied_seen r.slots.items from.slots.items r.dense.width from.dense.width r.dense.items c.push_copy.new.self.items from.dense.items c.args.self.now c.args.rows.now c.args.row c.values.result.now c.period-period.result d no_row
    (self_none ∙ sym rows_none) c.self.view_is c.rows.view_is c.requires.row (c.values.ensures no_row)
    (c.period-period.ensures no_row ∙ ap (λ (v : RowList). (get_or v.items c.args.row no_row).period) (sym rows)) put)
    c.push_copy.ensures.pushed

pub push-requires : goal.push-requires
push-requires c =
    ap length (c.in_ok-show.ensures no_row ∙ ap (λ (l : List AnyValue). l ++ (get_or c.args.rows.now.items c.args.row no_row).values) c.new-values.ensures.items)
    ∙ c.requires.width no_row
