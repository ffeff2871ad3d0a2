use Rattle.std.proofs.Common.{◌≡◌, ◌<◌, ◌≤◌, ◌∙◌, ◌+◌, ◌-◌, ◌*◌, ◌/◌, arith, length, map, refl, sym, ap, subst, ℕ, List, count_by}
use Rattle.std.specs.Prelude.{All, FitsSigned, IfOk, Result, Ok, Err, slice_index_or}
use Rattle.std.specs.Int.{w64}
use Rattle.std.proofs.Math.Nat.{mul-le-mul}
use Rattle.std.proofs.lemmas.List.{length-map}
use Rattle.std.proofs.lemmas.List.Sums.{count_by-le-length}
use Rattle.std.proofs.lemmas.Option.{get_or_from_slice_get, slice_get-get_or, slice_get_read}
use Rattle.tq_base.specs.declared.catalogue.Catalogue.{Catalogue}
use Rattle.tq_base.specs.declared.period.Period.{Period}
use Rattle.tq_base.specs.declared.period.TheConstants.{FOREVER}
use Rattle.tq_event.specs.declared.event.Event.{Event}
use Rattle.tq_event.specs.Recorded.{Recorded}
use Rattle.tq_event.specs.Versions.{version_at}
use Rattle.tq_scan.specs.declared.window.Part.{Part}
use Rattle.tq_scan.specs.declared.window.Window.{Window}
use Rattle.tq_scan.specs.Lists.{ListsJust}
use Rattle.tq_arena.specs.declared.arena.NodeNo.{NodeNo}
use Rattle.tq_scan.specs.Scans.{FoundIn, IsMetLeaf, alive_at}
use Rattle.tq_scan.specs.Windows.{whole_of}
use Rattle.tq_store.specs.declared.index.Index.{Index}
use Rattle.tq_base.specs.declared.key_range.KeyRange.{KeyRange}
use Rattle.tq_store.specs.Index.{IsDb, IsIndexOf, stored_rows}
use Rattle.tq_store.specs.Log.{logged}
use Rattle.tq_store.specs.Rows.{ArePartRows, whole_window}
use Rattle.tq_store.specs.Stored.{IsReadable, row_of_key}
use Rattle.tq_mvbt.specs.TreeState.{height_of}
use Rattle.tq_store.proofs.LeafLemmas.{in_part, leaf_at, lower}
use Rattle.tq_store.proofs.RowLemmas.{part_rows, readable}
use Rattle.tq_store.proofs.VersionLemmas.{version_within}
use Rattle.tq_store.proofs.db.Db.find.Goals as goal

-- a consequence of what holds of a result
if_ok : {T E : Type 0} → (r : Result T E) {P Q : T → Type 0} → IfOk r P → ((x : T) → P x → Q x) → IfOk r Q
if_ok (Ok x) is step = step x is
if_ok (Err e) is step = is

if_both : {T E : Type 0} → (r : Result T E) {P Q R : T → Type 0} → IfOk r P → IfOk r Q → ((x : T) → P x → Q x → R x) → IfOk r R
if_both (Ok x) p q step = step x p q
if_both (Err e) p q step = p

-- the index of the table
index_of : (catalogue : Catalogue) (es : List Event) (indexes : List Index) (table : ℕ) (index : Index) → IsDb catalogue es indexes → table < length catalogue.tables → index ≡ slice_index_or indexes table index → IsIndexOf es table index
index_of catalogue es indexes table index db less is =
    let tables = db.tables in
    db.indexed.each table index (slice_get_read indexes (length indexes) table index refl (omega (arith, less, tables)) is)

-- the found keys of the table's tree are read as the rows of the part
module _ (catalogue : Catalogue) (es : List Event) (indexes : List Index) (n table : ℕ) (index : Index) (range : KeyRange) (period : Period) (w : Window) (p : Part) (keys : List ℕ)
    (db : IsDb catalogue es indexes) (le : n ≤ length es) (is : IsIndexOf es table index) (window_is : whole_of w ≡ whole_window es n range period)
    (fits_low : FitsSigned w64 range.low) (fits_high : FitsSigned w64 range.high) (finite : period.start < FOREVER) (just : ListsJust (FoundIn index.tree.nodes w p) keys) where
  all_readable : (k d : ℕ) → k < length keys → IsReadable es (stored_rows es table) (slice_index_or keys k d)
  all_readable k d less =
      readable es n table range period index.tree.nodes index.tree.version w p db.ordered db.few le is.tree window_is fits_low fits_high finite (slice_index_or keys k d)
      ((just.just (slice_index_or keys k d)).0 (k, less, get_or_from_slice_get keys k (slice_index_or keys k d) (slice_index_or keys k d) (slice_get-get_or keys k d less)))

  all_rows : ArePartRows es n table range period p (map (row_of_key es (stored_rows es table) n) keys)
  all_rows = part_rows es n table range period index.tree.nodes index.tree.version w p db.ordered db.few le is.tree window_is fits_low fits_high finite keys just

pub returns-clause-readable : goal.returns-clause-readable
returns-clause-readable c = if_ok c.scan.result c.scan.ensures.keys (λ found just.
    let es = logged c.self.inside.indexes.items c.self.inside.log.items in
    let index = c.index-index.result.now in
    let view : c.args.self.now ≡ record { catalogue = c.self.inside.catalogue; events = es } = sym c.self.view_is in
    let le : c.args.n ≤ length es = subst (λ (r : Recorded). c.args.n ≤ length r.events) view c.requires.known in
    let in_catalogue : c.args.table < length c.self.inside.catalogue.tables = subst (λ (r : Recorded). c.args.table < length r.catalogue.tables) view c.requires.table in
    let of_table = index_of c.self.inside.catalogue es c.self.inside.indexes.items c.args.table index c.self.invariant.db in_catalogue c.index-index.ensures in
    let window_is = c.make_window-window.ensures.window ∙ ap (λ l. whole_window l c.args.n c.args.range.now c.args.period.now) (c.events.ensures.value ∙ ap (λ (r : Recorded). r.events) view) in
    subst (λ (r : Recorded). All (IsReadable r.events (stored_rows r.events c.args.table)) found.keys) (sym view) (λ k d less.
    all_readable c.self.inside.catalogue es c.self.inside.indexes.items c.args.n c.args.table index c.args.range.now c.args.period.now c.make_window-window.result c.args.part.now found.keys
    c.self.invariant.db le of_table window_is c.make_window-window.ensures.low c.make_window-window.ensures.high c.make_window-window.ensures.finite just k d less))

pub returns-clause-rows : goal.returns-clause-rows
returns-clause-rows c = if_ok c.scan.result c.scan.ensures.keys (λ found just.
    let es = logged c.self.inside.indexes.items c.self.inside.log.items in
    let index = c.index-index.result.now in
    let view : c.args.self.now ≡ record { catalogue = c.self.inside.catalogue; events = es } = sym c.self.view_is in
    let le : c.args.n ≤ length es = subst (λ (r : Recorded). c.args.n ≤ length r.events) view c.requires.known in
    let in_catalogue : c.args.table < length c.self.inside.catalogue.tables = subst (λ (r : Recorded). c.args.table < length r.catalogue.tables) view c.requires.table in
    let of_table = index_of c.self.inside.catalogue es c.self.inside.indexes.items c.args.table index c.self.invariant.db in_catalogue c.index-index.ensures in
    let window_is = c.make_window-window.ensures.window ∙ ap (λ l. whole_window l c.args.n c.args.range.now c.args.period.now) (c.events.ensures.value ∙ ap (λ (r : Recorded). r.events) view) in
    subst (λ (r : Recorded). ArePartRows r.events c.args.n c.args.table c.args.range.now c.args.period.now c.args.part.now (map (row_of_key r.events (stored_rows r.events c.args.table) c.args.n) found.keys)) (sym view)
    (all_rows c.self.inside.catalogue es c.self.inside.indexes.items c.args.n c.args.table index c.args.range.now c.args.period.now c.make_window-window.result c.args.part.now found.keys
    c.self.invariant.db le of_table window_is c.make_window-window.ensures.low c.make_window-window.ensures.high c.make_window-window.ensures.finite just))

-- at most ten nodes for each leaf
few_reads : (before after levels leaves alive keys : ℕ) → after ≤ before + leaves + (levels - 1) * alive → levels ≤ 10 → alive ≤ leaves → leaves ≤ keys / 5 + 2 → after ≤ before + 10 * (keys / 5 + 2)
few_reads before after levels leaves alive keys at_most few less one =
    let down : (levels - 1) * alive ≤ 9 * leaves = mul-le-mul (omega (arith, few)) less in
    omega (arith, at_most, down, one)

pub returns-clause-reads : goal.returns-clause-reads
returns-clause-reads c = if_both c.scan.result c.scan.ensures.at_most c.scan.ensures.one_version (λ found at_most of_one one.
    let index = c.index-index.result.now in
    let window = c.make_window-window.ensures.window in
    let end_is : c.args.period.now.end - 1 ≡ c.args.period.now.start = omega (arith, one) in
    let one_version : c.make_window-window.result.first ≡ c.make_window-window.result.last =
    ap (λ (q : Part). q.first) window ∙ sym (ap (version_at c.events.result c.args.n) end_is) ∙ sym (ap (λ (q : Part). q.last) window) in
    let few = c.levels-levels.ensures.few in
    let levels = c.levels-levels.ensures.levels in
    let last = c.requires.inside.last in
    let within = version_within c.args.self.now.events c.args.n (c.args.period.now.end - 1) in
    let view = ap (λ (r : Recorded). length r.events) c.self.view_is in
    let known = c.requires.known in
    let small = c.self.invariant.db.few in
    let low : c.levels-levels.result ≤ 10 = few (omega (arith, last, within, view, known, small)) in
    let tree = index.tree in
    few_reads c.args.meter.now c.scan.new.meter (height_of tree.roots c.args.part.now.last) (length found.leaves) (count_by (alive_at tree.nodes c.args.part.now.last) found.leaves) (length found.keys)
    at_most (subst (λ h. h ≤ 10) levels low) (count_by-le-length (alive_at tree.nodes c.args.part.now.last) found.leaves) (of_one one_version))

pub returns-clause-counted : goal.returns-clause-counted
returns-clause-counted c = if_both c.scan.result c.scan.ensures.leaves c.scan.ensures.at_least (λ found all at_least.
    let leaves = found.leaves in
    let tree = c.index-index.result.now.tree in
    let p = c.args.part.now in
    let inside = c.requires.inside in
    let high = inside.high in
    let high_is = ap (λ (q : Part). q.high) c.make_window-window.ensures.window in
    let in_keys = c.make_window-window.result.in_keys in
    let wide = inside.wide in
    let small_key : p.low < 79228162514264337593543950336 = omega (arith, wide, high, high_is, in_keys) in
    let last = inside.last in
    let within = version_within c.args.self.now.events c.args.n (c.args.period.now.end - 1) in
    let view = ap (λ (r : Recorded). length r.events) c.self.view_is in
    let known = c.requires.known in
    let few = c.self.invariant.db.few in
    let small_version : p.last < 4294967295 = omega (arith, last, within, view, known, few) in
    let tiling = c.trees_tile.ensures tree.version tree.nodes tree.roots c.version-version.ensures.tree in
    let leaf = leaf_at 0 p.low p.last tree.nodes small_version (tiling.one_region p.low p.last small_key small_version) in
    let met : IsMetLeaf tree.nodes p leaf.number = record { node = leaf.node; stands = leaf.stands; leaf = leaf.leaf; key = p.low; version = p.last; held = leaf.held; inside = in_part p wide inside.long } in
    let among = (all.just leaf.number).1 met in
    let place = among.1 in
    let counted = length-map leaves (λ (n : NodeNo). n.0) in
    lower (c.args.meter.now + 1) (c.args.meter.now + length leaves + (height_of tree.roots p.last - 1)) _ c.scan.new.meter (omega (arith, place, counted)) at_least)
