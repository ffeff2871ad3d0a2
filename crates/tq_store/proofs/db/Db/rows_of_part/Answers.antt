use Rattle.std.proofs.Common.{◌≡◌, ◌<◌, ◌≤◌, ◌∙◌, ℕ, List, Option, Some, None, arith, length, map, refl, slice_get, sym, ap, subst}
use Rattle.std.specs.Option.{option_map, option_map_or}
use Rattle.std.specs.Prelude.{All, slice_index_or}
use Rattle.std.proofs.lemmas.Option.{slice_get-map, slice_get_read}
use Rattle.std.proofs.lemmas.Result.{IfOk-weaker}
use Rattle.tq_base.specs.declared.catalogue.Catalogue.{Catalogue}
use Rattle.tq_base.specs.declared.catalogue.Schema.{Schema}
use Rattle.tq_base.specs.declared.period.Period.{Period}
use Rattle.tq_base.specs.declared.relation.RowPeriod.{RowPeriod}
use Rattle.tq_base.specs.RowLists.{RowList}
use Rattle.tq_base.specs.Relations.{row_period_of}
use Rattle.tq_event.specs.declared.event.Event.{Event}
use Rattle.tq_event.specs.Recorded.{Recorded}
use Rattle.tq_store.specs.declared.index.Index.{Index}
use Rattle.tq_store.specs.declared.index.RowEvents.{RowEvents}
use Rattle.tq_store.specs.Index.{IsDb, IsIndexOf, stored_rows}
use Rattle.tq_store.specs.Log.{logged}
use Rattle.tq_store.specs.Stored.{IsLasting, IsMet, HaveSameValidity}
use Rattle.tq_store.specs.Valid.{ArePart, width_of}
use Rattle.tq_store.proofs.ReadLemmas.{lines_within, readable_lasts, rows_met, part_of_lines}
use Rattle.tq_store.proofs.ValidLemmas.{none_there, no_width}
use Rattle.tq_store.proofs.db.Db.rows_of_part.Goals as goal

-- the index of the table
index_of : (r : Recorded) (catalogue : Catalogue) (es : List Event) (indexes : List Index) (table : ℕ) (index : Index) → record { catalogue = catalogue; events = es } ≡ r → IsDb catalogue es indexes → table < length indexes
    → index ≡ slice_index_or indexes table index → IsIndexOf r.events table index
index_of r catalogue es indexes table index view db less is =
    subst (λ (s : Recorded). IsIndexOf s.events table index) view
    (db.indexed.each table index (slice_get_read indexes (length indexes) table index refl less is))

-- its rows are as wide as the table
kept_width : (r : Recorded) (catalogue : Catalogue) (es : List Event) (indexes : List Index) (table : ℕ) (index : Index) → record { catalogue = catalogue; events = es } ≡ r → IsDb catalogue es indexes → table < length indexes
    → index ≡ slice_index_or indexes table index → index.kept.width ≡ width_of r.catalogue table
kept_width r catalogue es indexes table index view db less is =
    let here = slice_get_read indexes (length indexes) table index refl less is in
    ap (λ o. option_map_or (λ (w : ℕ). w) o 0)
    (sym (ap (option_map (λ (i : Index). i.kept.width)) here) ∙ sym (slice_get-map (λ (i : Index). i.kept.width) indexes table) ∙ ap (λ l. slice_get l table) db.widths ∙ slice_get-map (λ (s : Schema). length s.columns) catalogue.tables table)
    ∙ unmapped (slice_get catalogue.tables table)
    ∙ ap (λ (s : Recorded). width_of s.catalogue table) view
  where
    unmapped : (o : Option Schema) → option_map_or (λ (w : ℕ). w) (option_map (λ (s : Schema). length s.columns) o) 0 ≡ option_map_or (λ (s : Schema). length s.columns) o 0
    unmapped None = refl
    unmapped (Some s) = refl

pub returns-then-table-len-clause-rows : goal.returns-then-table-len-clause-rows
returns-then-table-len-clause-rows c =
    let past : length c.self.inside.catalogue.tables ≤ c.args.table = let on = c.if-table-len.true in omega (arith, on, c.len.ensures, c.self.invariant.db.tables) in
    IfOk-weaker c.owned.result _ _
    (λ relation same. subst (λ (r : Recorded). ArePart r.events c.args.n c.args.table c.args.range.now c.args.period.now c.args.part.now relation.items) c.self.view_is
    (none_there c.self.inside.catalogue (logged c.self.inside.indexes.items c.self.inside.log.items) c.args.n c.args.table c.args.range.now c.args.period.now c.args.part.now relation.items c.self.invariant.db.history past
    (ap (λ (r : RowList). r.items) same ∙ c.new.ensures.rows)))
    c.owned.ensures

pub returns-then-table-len-clause-width : goal.returns-then-table-len-clause-width
returns-then-table-len-clause-width c =
    let past : length c.self.inside.catalogue.tables ≤ c.args.table = let on = c.if-table-len.true in omega (arith, on, c.len.ensures, c.self.invariant.db.tables) in
    IfOk-weaker c.owned.result _ _
    (λ relation same. ap (λ (r : RowList). r.width) same ∙ c.new.ensures.width ∙ no_width c.self.inside.catalogue c.args.table past ∙ ap (λ (r : Recorded). width_of r.catalogue c.args.table) c.self.view_is)
    c.owned.ensures

pub find_unsorted-requires-clause-table : goal.find_unsorted-requires-clause-table
find_unsorted-requires-clause-table c =
    let viewed = ap (λ (r : Recorded). length r.catalogue.tables) c.self.view_is in
    let off = c.if-table-len.false in
    omega (arith, off, c.len.ensures, c.self.invariant.db.tables, viewed)

pub row_periods_of_keys-requires-clause-lasting : goal.row_periods_of_keys-requires-clause-lasting
row_periods_of_keys-requires-clause-lasting c =
    let there : c.args.table < length c.self.inside.indexes.items = let off = c.if-table-len.false in omega (arith, off, c.len.ensures) in
    let index = c.index-index.result.now in
    let of_table = index_of c.args.self.now c.self.inside.catalogue (logged c.self.inside.indexes.items c.self.inside.log.items) c.self.inside.indexes.items c.args.table index c.self.view_is c.self.invariant.db there c.index-index.ensures in
    let events = c.args.self.now.events in
    subst (λ keys. All (IsLasting c.deref.result.now) keys) (sym c.get.ensures)
    (subst (λ rows. All (IsLasting rows) c.in_ok-found.found.keys) (sym (c.deref.ensures.value ∙ of_table.rows))
    (readable_lasts events (stored_rows events c.args.table) c.in_ok-found.found.keys c.in_ok-found.ensures.readable))

pub row_periods_of_keys-requires-clause-met : goal.row_periods_of_keys-requires-clause-met
row_periods_of_keys-requires-clause-met c =
    let there : c.args.table < length c.self.inside.indexes.items = let off = c.if-table-len.false in omega (arith, off, c.len.ensures) in
    let index = c.index-index.result.now in
    let of_table = index_of c.args.self.now c.self.inside.catalogue (logged c.self.inside.indexes.items c.self.inside.log.items) c.self.inside.indexes.items c.args.table index c.self.view_is c.self.invariant.db there c.index-index.ensures in
    let events = c.args.self.now.events in
    subst (λ keys. All (IsMet c.deref.result.now c.args.n c.args.period.now) keys) (sym c.get.ensures)
    (subst (λ rows. All (IsMet rows c.args.n c.args.period.now) c.in_ok-found.found.keys) (sym (c.deref.ensures.value ∙ of_table.rows))
    (rows_met events (stored_rows events c.args.table) c.args.n c.args.table c.args.range.now c.args.period.now c.args.part.now c.in_ok-found.found.keys c.in_ok-found.ensures.rows))

-- the validity of the row numbers
named : (rows deref_rows : List RowEvents) (n : ℕ) (period : Period) (keys deref_keys : List ℕ) (row_periods : List RowPeriod) → deref_rows ≡ rows → deref_keys ≡ keys → HaveSameValidity deref_rows n period deref_keys row_periods → HaveSameValidity rows n period keys row_periods
named rows deref_rows n period keys deref_keys row_periods rows_are keys_are stand =
    subst (λ ks. HaveSameValidity rows n period ks row_periods) keys_are (subst (λ rs. HaveSameValidity rs n period deref_keys row_periods) rows_are stand)

pub take_row_periods-requires : goal.take_row_periods-requires
take_row_periods-requires c =
    let there : c.args.table < length c.self.inside.indexes.items = let off = c.if-table-len.false in omega (arith, off, c.len.ensures) in
    let index = c.index-index.result.now in
    let of_table = index_of c.args.self.now c.self.inside.catalogue (logged c.self.inside.indexes.items c.self.inside.log.items) c.self.inside.indexes.items c.args.table index c.self.view_is c.self.invariant.db there c.index-index.ensures in
    let keys : List ℕ = c.in_ok-found.found.keys in
    let stand = named index.rows.items c.deref.result.now c.args.n c.args.period.now keys c.get.result.now c.in_ok-row_periods.row_periods.items c.deref.ensures.value c.get.ensures c.in_ok-row_periods.ensures in
    subst (λ row_periods. All (λ (line : RowPeriod). line.row < length c.in_ok-of.field-0.items) row_periods) (sym c.deref-2.ensures.value)
    (subst (λ (r : RowList). All (λ (line : RowPeriod). line.row < length r.items) c.in_ok-row_periods.row_periods.items) (sym c.in_ok-of.ensures)
    (lines_within c.args.self.now.events c.args.table index of_table c.args.n c.args.period.now keys c.in_ok-found.ensures.readable c.in_ok-row_periods.row_periods.items stand))

pub returns-clause-rows : goal.returns-clause-rows
returns-clause-rows c =
    let there : c.args.table < length c.self.inside.indexes.items = let off = c.if-table-len.false in omega (arith, off, c.len.ensures) in
    let index = c.index-index.result.now in
    let of_table = index_of c.args.self.now c.self.inside.catalogue (logged c.self.inside.indexes.items c.self.inside.log.items) c.self.inside.indexes.items c.args.table index c.self.view_is c.self.invariant.db there c.index-index.ensures in
    let keys : List ℕ = c.in_ok-found.found.keys in
    let stand = named index.rows.items c.deref.result.now c.args.n c.args.period.now keys c.get.result.now c.in_ok-row_periods.row_periods.items c.deref.ensures.value c.get.ensures c.in_ok-row_periods.ensures in
    IfOk-weaker c.take_row_periods.result _ _
    (λ rows is. part_of_lines c.args.self.now.events c.args.table index of_table c.args.n c.args.period.now keys c.in_ok-found.ensures.readable c.in_ok-row_periods.row_periods.items stand
    c.args.range.now c.args.part.now rows.items c.in_ok-found.ensures.rows
    (is ∙ ap (map (row_period_of c.in_ok-of.field-0.items)) c.deref-2.ensures.value ∙ ap (λ (r : RowList). map (row_period_of r.items) c.in_ok-row_periods.row_periods.items) c.in_ok-of.ensures))
    c.take_row_periods.ensures.rows

pub returns-clause-width : goal.returns-clause-width
returns-clause-width c =
    let there : c.args.table < length c.self.inside.indexes.items = let off = c.if-table-len.false in omega (arith, off, c.len.ensures) in
    IfOk-weaker c.take_row_periods.result _ _
    (λ rows is. is ∙ ap (λ (r : RowList). r.width) c.in_ok-of.ensures ∙ kept_width c.args.self.now c.self.inside.catalogue (logged c.self.inside.indexes.items c.self.inside.log.items) c.self.inside.indexes.items c.args.table c.index-index.result.now c.self.view_is c.self.invariant.db there c.index-index.ensures)
    c.take_row_periods.ensures.width
