use Rattle.std.proofs.Common.{◌≡◌, ◌<◌, ◌≤◌, ◌+◌, ◌*◌, ◌/◌, ◌∙◌, arith, length, map, refl, sym, ap, subst, ℕ, List}
use Rattle.std.specs.Prelude.{All, IfOk, Result, Ok, Err, slice_index_or}
use Rattle.std.proofs.lemmas.List.{length-map}
use Rattle.std.proofs.lemmas.Option.{slice_get_read}
use Rattle.tq_base.specs.declared.catalogue.Catalogue.{Catalogue}
use Rattle.tq_event.specs.declared.event.Event.{Event}
use Rattle.tq_event.specs.Recorded.{Recorded}
use Rattle.tq_store.specs.declared.index.Index.{Index}
use Rattle.tq_store.specs.Index.{IsDb, stored_rows}
use Rattle.tq_store.specs.Log.{logged}
use Rattle.tq_store.specs.Rows.{ArePartRows}
use Rattle.tq_store.specs.Stored.{IsReadable, row_of_key, row_view}
use Rattle.tq_store.proofs.db.Db.rows_part.Goals as goal

if_ok : {T E : Type 0} → (r : Result T E) {P Q : T → Type 0} → IfOk r P → ((x : T) → P x → Q x) → IfOk r Q
if_ok (Ok x) is step = step x is
if_ok (Err e) is step = is

-- the rows of the table's index are those of its events
kept : (catalogue : Catalogue) (es : List Event) (indexes : List Index) (table : ℕ) (index : Index) → IsDb catalogue es indexes → table < length catalogue.tables → index ≡ slice_index_or indexes table index → index.rows.items ≡ stored_rows es table
kept catalogue es indexes table index db less is =
    let tables = db.tables in
    (db.indexed.each table index (slice_get_read indexes (length indexes) table index refl (omega (arith, less, tables)) is)).rows

pub read_rows-requires : goal.read_rows-requires
read_rows-requires c =
    let es = logged c.self.inside.indexes.items c.self.inside.log.items in
    let index = c.index-index.result.now in
    let events : c.args.self.now.events ≡ es = sym (ap (λ (r : Recorded). r.events) c.self.view_is) in
    let in_catalogue : c.args.table < length c.self.inside.catalogue.tables = subst (λ (r : Recorded). c.args.table < length r.catalogue.tables) (sym c.self.view_is) c.requires.table in
    let kept_is = c.deref.ensures.value ∙ kept c.self.inside.catalogue es c.self.inside.indexes.items c.args.table index c.self.invariant.db in_catalogue c.index-index.ensures in
    let found : List ℕ = c.in_ok-found.found.keys in
    subst (λ keys. All (IsReadable c.events.result c.deref.result.now) keys) (sym c.get.ensures)
    (subst (λ l. All (IsReadable l c.deref.result.now) found) (sym (c.events.ensures.value ∙ events))
    (subst (λ r. All (IsReadable es r) found) (sym kept_is)
    (subst (λ l. All (IsReadable l (stored_rows l c.args.table)) found) events c.in_ok-found.ensures.readable)))

pub returns-clause-rows : goal.returns-clause-rows
returns-clause-rows c = if_ok c.read_rows.result c.read_rows.ensures (λ rows same.
    let es = logged c.self.inside.indexes.items c.self.inside.log.items in
    let index = c.index-index.result.now in
    let events : c.args.self.now.events ≡ es = sym (ap (λ (r : Recorded). r.events) c.self.view_is) in
    let in_catalogue : c.args.table < length c.self.inside.catalogue.tables = subst (λ (r : Recorded). c.args.table < length r.catalogue.tables) (sym c.self.view_is) c.requires.table in
    let kept_is = c.deref.ensures.value ∙ kept c.self.inside.catalogue es c.self.inside.indexes.items c.args.table index c.self.invariant.db in_catalogue c.index-index.ensures in
    let found : List ℕ = c.in_ok-found.found.keys in
    let read = same ∙ ap (λ l. map (row_of_key l c.deref.result.now c.args.n) c.get.result.now) (c.events.ensures.value ∙ events)
    ∙ ap (λ r. map (row_of_key es r c.args.n) c.get.result.now) kept_is
    ∙ ap (λ keys. map (row_of_key es (stored_rows es c.args.table) c.args.n) keys) c.get.ensures
    ∙ ap (λ l. map (row_of_key l (stored_rows l c.args.table) c.args.n) found) (sym events) in
    subst (ArePartRows c.args.self.now.events c.args.n c.args.table c.args.range.now c.args.period.now c.args.part.now) (sym read) c.in_ok-found.ensures.rows)

pub returns-clause-counted : goal.returns-clause-counted
returns-clause-counted c = if_ok c.read_rows.result c.read_rows.ensures (λ rows same. c.in_ok-found.ensures.counted)

pub returns-clause-reads : goal.returns-clause-reads
returns-clause-reads c = if_ok c.read_rows.result c.read_rows.ensures (λ rows same one.
    let keys : length rows.items ≡ length c.in_ok-found.found.keys =
    sym (length-map rows.items row_view) ∙ ap length same ∙ length-map c.get.result.now (row_of_key c.events.result c.deref.result.now c.args.n) ∙ ap length c.get.ensures in
    subst (λ k. c.find.new.meter ≤ c.args.meter.now + 10 * (k / 5 + 2)) (sym keys) (c.in_ok-found.ensures.reads one))
