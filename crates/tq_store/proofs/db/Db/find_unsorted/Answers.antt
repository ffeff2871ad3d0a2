use Rattle.std.proofs.Common.{◌≡◌, ◌<◌, ◌≤◌, ◌∙◌, arith, length, map, refl, sym, ap, subst, ℕ, List}
use Rattle.std.specs.Prelude.{All, FitsSigned, IfOk, Result, Ok, Err, slice_index_or}
use Rattle.std.specs.Int.{w64}
use Rattle.std.proofs.lemmas.Option.{slice_get_read}
use Rattle.tq_base.specs.declared.catalogue.Catalogue.{Catalogue}
use Rattle.tq_base.specs.declared.key_range.KeyRange.{KeyRange}
use Rattle.tq_base.specs.declared.period.Period.{Period}
use Rattle.tq_base.specs.declared.period.TheConstants.{FOREVER}
use Rattle.tq_event.specs.declared.event.Event.{Event}
use Rattle.tq_event.specs.Recorded.{Recorded}
use Rattle.tq_scan.specs.declared.window.Part.{Part}
use Rattle.tq_scan.specs.declared.window.Window.{Window}
use Rattle.tq_scan.specs.Lists.{ListsOnce}
use Rattle.tq_scan.specs.Scans.{FoundIn}
use Rattle.tq_scan.specs.Windows.{whole_of}
use Rattle.tq_store.specs.declared.index.Index.{Index}
use Rattle.tq_store.specs.Index.{IsDb, IsIndexOf, stored_rows}
use Rattle.tq_store.specs.Log.{logged}
use Rattle.tq_store.specs.Rows.{HasPartRows, whole_window}
use Rattle.tq_store.specs.Stored.{IsReadable, row_of_key}
use Rattle.tq_store.proofs.RowLemmas.{part_rows_once, readable}
use Rattle.tq_store.proofs.db.Db.find_unsorted.Goals as goal

-- a consequence of what holds of a result
if_ok : {T E : Type 0} → (r : Result T E) {P Q : T → Type 0} → IfOk r P → ((x : T) → P x → Q x) → IfOk r Q
if_ok (Ok x) is step = step x is
if_ok (Err e) is step = is

-- the index of the table
index_of : (catalogue : Catalogue) (es : List Event) (indexes : List Index) (table : ℕ) (index : Index) → IsDb catalogue es indexes → table < length catalogue.tables → index ≡ slice_index_or indexes table index → IsIndexOf es table index
index_of catalogue es indexes table index db less is =
    let tables = db.tables in
    db.indexed.each table index (slice_get_read indexes (length indexes) table index refl (omega (arith, less, tables)) is)

-- the found keys of the table's tree are read as the rows of the part
module _ (catalogue : Catalogue) (es : List Event) (indexes : List Index) (n table : ℕ) (index : Index) (range : KeyRange) (period : Period) (w : Window) (p : Part) (keys : List ℕ)
    (db : IsDb catalogue es indexes) (le : n ≤ length es) (is : IsIndexOf es table index) (window_is : whole_of w ≡ whole_window es n range period)
    (fits_low : FitsSigned w64 range.low) (fits_high : FitsSigned w64 range.high) (finite : period.start < FOREVER) (lists : ListsOnce (FoundIn index.tree.nodes w p) keys) where
  all_readable : All (IsReadable es (stored_rows es table)) keys
  all_readable k d less =
      readable es n table range period index.tree.nodes index.tree.version w p db.ordered db.few le is.tree window_is fits_low fits_high finite (slice_index_or keys k d) (lists.all k d less)

  all_rows : HasPartRows es n table range period p (map (row_of_key es (stored_rows es table) n) keys)
  all_rows = (part_rows_once es n table range period index.tree.nodes index.tree.version w p db.ordered db.few le is.tree window_is fits_low fits_high finite keys lists)

pub returns-clause-readable : goal.returns-clause-readable
returns-clause-readable c = if_ok c.scan_unsorted.result c.scan_unsorted.ensures.keys (λ found lists.
    let es = logged c.self.inside.indexes.items c.self.inside.log.items in
    let index = c.index-index.result.now in
    let view : c.args.self.now ≡ record { catalogue = c.self.inside.catalogue; events = es } = sym c.self.view_is in
    let le : c.args.n ≤ length es = subst (λ (r : Recorded). c.args.n ≤ length r.events) view c.requires.known in
    let in_catalogue : c.args.table < length c.self.inside.catalogue.tables = subst (λ (r : Recorded). c.args.table < length r.catalogue.tables) view c.requires.table in
    let of_table = index_of c.self.inside.catalogue es c.self.inside.indexes.items c.args.table index c.self.invariant.db in_catalogue c.index-index.ensures in
    let window_is = c.make_window-window.ensures.window ∙ ap (λ l. whole_window l c.args.n c.args.range.now c.args.period.now) (c.events.ensures.value ∙ ap (λ (r : Recorded). r.events) view) in
    subst (λ (r : Recorded). All (IsReadable r.events (stored_rows r.events c.args.table)) found.keys) (sym view)
    (all_readable c.self.inside.catalogue es c.self.inside.indexes.items c.args.n c.args.table index c.args.range.now c.args.period.now c.make_window-window.result c.args.part.now found.keys
    c.self.invariant.db le of_table window_is c.make_window-window.ensures.low c.make_window-window.ensures.high c.make_window-window.ensures.finite lists))

pub returns-clause-rows : goal.returns-clause-rows
returns-clause-rows c = if_ok c.scan_unsorted.result c.scan_unsorted.ensures.keys (λ found lists.
    let es = logged c.self.inside.indexes.items c.self.inside.log.items in
    let index = c.index-index.result.now in
    let view : c.args.self.now ≡ record { catalogue = c.self.inside.catalogue; events = es } = sym c.self.view_is in
    let le : c.args.n ≤ length es = subst (λ (r : Recorded). c.args.n ≤ length r.events) view c.requires.known in
    let in_catalogue : c.args.table < length c.self.inside.catalogue.tables = subst (λ (r : Recorded). c.args.table < length r.catalogue.tables) view c.requires.table in
    let of_table = index_of c.self.inside.catalogue es c.self.inside.indexes.items c.args.table index c.self.invariant.db in_catalogue c.index-index.ensures in
    let window_is = c.make_window-window.ensures.window ∙ ap (λ l. whole_window l c.args.n c.args.range.now c.args.period.now) (c.events.ensures.value ∙ ap (λ (r : Recorded). r.events) view) in
    subst (λ (r : Recorded). HasPartRows r.events c.args.n c.args.table c.args.range.now c.args.period.now c.args.part.now (map (row_of_key r.events (stored_rows r.events c.args.table) c.args.n) found.keys)) (sym view)
    (all_rows c.self.inside.catalogue es c.self.inside.indexes.items c.args.n c.args.table index c.args.range.now c.args.period.now c.make_window-window.result c.args.part.now found.keys
    c.self.invariant.db le of_table window_is c.make_window-window.ensures.low c.make_window-window.ensures.high c.make_window-window.ensures.finite lists))
