use Rattle.std.proofs.Common.{◌≡◌, ◌<◌, ◌∙◌, ◌∷◌, ◌++◌, ◌+◌, [], List, rules, set, refl, sym, ap, arith, length, get_or, map}
use Rattle.std.proofs.lemmas.Bool.{false≢true}
use Rattle.std.proofs.lemmas.Grind.{common_steps}
use Rattle.std.proofs.lemmas.Option.{get_or_from_slice_get}
use Rattle.std.proofs.lemmas.List.{get_or-map, get_or_default, length-map, map-set}
use Rattle.tq_event.specs.declared.event.Event.{Event}
use Rattle.tq_event.specs.declared.event.Event.TheVariants.{Start, End}
use Rattle.tq_event.specs.Entries.{Entry, entry_in}
use Rattle.tq_event.specs.declared.order.RowId.{RowId}
use Rattle.tq_event.proofs.RowIdLemmas.{end_by, few_started, place_of, row_in, rows_in, rows_put, start_by, table_below_by, table_by, table_in, tables_in, tables_of_entries, tables_put, within_by}
use Rattle.tq_event.proofs.order.place_events.Goals as goal
use Rattle.tq_event.proofs.order.place_events.Goals.{then-endpoint, else-endpoint}

pub index-requires : goal.index-requires
index-requires c =
    let below = within_by (map entry_in c.args.entries.items) c.args.marks.now c.args.tables c.requires.all c.marks.endpoint-index c.endpoint-item.result c.endpoint-item.result c.marks-test.true c.endpoint-item.is in
    omega (arith, below, c.marks.invariant.placing.rows_len, length-map c.marks.places.items (λ (p : RowId). p.row), c.marks.places.ok.0)

pub index_mut-requires : goal.index_mut-requires
index_mut-requires c =
    let below = within_by (map entry_in c.args.entries.items) c.args.marks.now c.args.tables c.requires.all c.marks.endpoint-index c.endpoint-item.result c.endpoint-item.result c.marks-test.true c.endpoint-item.is in
    omega (arith, below, c.marks.invariant.placing.now_len, length-map c.marks.entries.items entry_in, c.marks.entries.ok.0)

pub index_mut-requires-then-endpoint : goal.index_mut-requires-then-endpoint
index_mut-requires-then-endpoint c =
    let below = within_by (map entry_in c.args.entries.items) c.args.marks.now c.args.tables c.requires.all c.marks.endpoint-index c.endpoint-item.result c.endpoint-item.result c.marks-test.true c.endpoint-item.is in
    omega (arith, below, c.marks.invariant.placing.rows_len, length-map c.marks.places.items (λ (p : RowId). p.row), c.marks.places.ok.0)

pub index-requires-else-endpoint : goal.index-requires-else-endpoint
index-requires-else-endpoint c =
    let below = within_by (map entry_in c.args.entries.items) c.args.marks.now c.args.tables c.requires.all c.marks.endpoint-index c.endpoint-item.result c.endpoint-item.result c.marks-test.true c.endpoint-item.is in
    omega (arith, below, c.marks.invariant.placing.rows_len, length-map c.marks.places.items (λ (p : RowId). p.row), c.marks.places.ok.0)

pub index_mut-requires-then-endpoint-2 : goal.index_mut-requires-then-endpoint-2
index_mut-requires-then-endpoint-2 c =
    let t = c.index.result.now.table in
    let in_places : c.endpoint-item.result.entry < length c.marks.places.items = omega (arith, within_by (map entry_in c.args.entries.items) c.args.marks.now c.args.tables c.requires.all c.marks.endpoint-index c.endpoint-item.result c.endpoint-item.result c.marks-test.true c.endpoint-item.is, c.marks.invariant.placing.rows_len, length-map c.marks.places.items (λ (p : RowId). p.row)) in
    let stood = table_in c.marks.places.items (map (λ (x : Entry). x.table) (map entry_in c.args.entries.items)) c.endpoint-item.result.entry c.index.result.now c.marks.invariant.tables in_places c.index.ensures in
    let (e, table) = table_by (map entry_in c.args.entries.items) c.args.marks.now c.args.tables c.requires.all c.marks.endpoint-index c.endpoint-item.result c.endpoint-item.result (map entry_in c.marks.entries.items) (rows_in c.marks.places.items) c.marks.next_rows.items c.marks.events.items t
    c.marks-test.true c.endpoint-item.is c.marks.invariant.placing stood in
    let below = table_below_by (map entry_in c.args.entries.items) c.args.marks.now c.args.tables c.requires.all c.marks.endpoint-index c.endpoint-item.result c.endpoint-item.result e (map entry_in c.marks.entries.items) (rows_in c.marks.places.items) c.marks.next_rows.items c.marks.events.items
    c.marks-test.true c.endpoint-item.is c.requires.tables c.marks.invariant.placing in
    omega (arith, below, table, c.marks.invariant.placing.next_len, c.marks.next_rows.ok.0)

pub start_entry-event-requires : goal.start_entry-event-requires
start_entry-event-requires c =
    let t = c.index.result.now.table in
    let in_places : c.endpoint-item.result.entry < length c.marks.places.items = omega (arith, within_by (map entry_in c.args.entries.items) c.args.marks.now c.args.tables c.requires.all c.marks.endpoint-index c.endpoint-item.result c.endpoint-item.result c.marks-test.true c.endpoint-item.is, c.marks.invariant.placing.rows_len, length-map c.marks.places.items (λ (p : RowId). p.row)) in
    let stood = table_in c.marks.places.items (map (λ (x : Entry). x.table) (map entry_in c.args.entries.items)) c.endpoint-item.result.entry c.index.result.now c.marks.invariant.tables in_places c.index.ensures in
    let (e, table) = table_by (map entry_in c.args.entries.items) c.args.marks.now c.args.tables c.requires.all c.marks.endpoint-index c.endpoint-item.result c.endpoint-item.result (map entry_in c.marks.entries.items) (rows_in c.marks.places.items) c.marks.next_rows.items c.marks.events.items t
    c.marks-test.true c.endpoint-item.is c.marks.invariant.placing stood in
    let small = table_below_by (map entry_in c.args.entries.items) c.args.marks.now c.args.tables c.requires.all c.marks.endpoint-index c.endpoint-item.result c.endpoint-item.result e (map entry_in c.marks.entries.items) (rows_in c.marks.places.items) c.marks.next_rows.items c.marks.events.items
    c.marks-test.true c.endpoint-item.is c.requires.tables c.marks.invariant.placing in
    let in_tables : t < c.args.tables = omega (arith, small, table) in
    let count = c.marks.invariant.placing.next_are t in_tables in
    let few = few_started (map entry_in c.args.entries.items) c.args.marks.now c.args.tables c.requires.all c.marks.endpoint-index t (omega (arith, c.marks-test.true)) in
    let value = c.index_mut-then-endpoint-2.ensures.value in
    let in_next : t < length c.marks.next_rows.items = omega (arith, in_tables, c.marks.invariant.placing.next_len) in
    let zero_default = get_or_default c.marks.next_rows.items t c.index_mut-then-endpoint-2.result.now 0 in_next in
    omega (arith, value, zero_default, count, few, c.requires.few, c.marks-test.true)

pub marks-preserved : goal.marks-preserved
marks-preserved c =
    let m = c.endpoint-item.result in
    let now = (map entry_in c.marks.entries.items) in
    let places = c.marks.places.items in
    let rows = rows_in c.marks.places.items in
    let next = c.marks.next_rows.items in
    let placing = c.marks.invariant.placing in
    let t = c.index.result.now.table in
    let in_places : c.endpoint-item.result.entry < length c.marks.places.items = omega (arith, within_by (map entry_in c.args.entries.items) c.args.marks.now c.args.tables c.requires.all c.marks.endpoint-index c.endpoint-item.result c.endpoint-item.result c.marks-test.true c.endpoint-item.is, c.marks.invariant.placing.rows_len, length-map c.marks.places.items (λ (p : RowId). p.row)) in
    let stood = table_in c.marks.places.items (map (λ (x : Entry). x.table) (map entry_in c.args.entries.items)) c.endpoint-item.result.entry c.index.result.now c.marks.invariant.tables in_places c.index.ensures in
    let (e, table) = table_by (map entry_in c.args.entries.items) c.args.marks.now c.args.tables c.requires.all c.marks.endpoint-index c.endpoint-item.result c.endpoint-item.result (map entry_in c.marks.entries.items) (rows_in c.marks.places.items) c.marks.next_rows.items c.marks.events.items t
    c.marks-test.true c.endpoint-item.is c.marks.invariant.placing stood in
    elim c.if-endpoint.branch [
      | then-endpoint w ↦
          let small = table_below_by (map entry_in c.args.entries.items) c.args.marks.now c.args.tables c.requires.all c.marks.endpoint-index m m e now rows next c.marks.events.items c.marks-test.true c.endpoint-item.is c.requires.tables placing in
          let in_now : m.entry < length c.marks.entries.items = omega (arith, in_places, length-map places (λ (p : RowId). p.row), placing.rows_len, placing.now_len, length-map c.marks.entries.items entry_in) in
          let in_next : t < length next = omega (arith, small, table, placing.next_len) in
          let whole : entry_in w.index_mut.result.now ≡ get_or now m.entry e = ap entry_in w.index_mut.ensures.value ∙ sym (get_or-map entry_in c.marks.entries.items m.entry w.index_mut.result.now e in_now) in
          let count : w.index_mut-then-endpoint-2.result.now ≡ get_or next t 0 = w.index_mut-then-endpoint-2.ensures.value ∙ get_or_default next t w.index_mut-then-endpoint-2.result.now 0 in_next in
          let e2 : Entry = entry_in (w.start_entry-event.new.values, w.index_mut.result.now.1) in
          let moved : c.if-endpoint.entries.items ≡ set c.marks.entries.items m.entry (w.start_entry-event.new.values, w.index_mut.result.now.1) = rw w.entries-is refl in
          let put : c.if-endpoint.places.items ≡ set places m.entry (record { table = w.index_mut-then-endpoint.result.now.table; row = w.start_entry-event.new.row }) = rw w.places-is refl in
          record {
            placing = start_by (map entry_in c.args.entries.items) c.args.marks.now c.args.tables c.requires.all c.marks.endpoint-index m c.marks-test.true now rows next c.marks.events.items placing m c.endpoint-item.is e
                (map entry_in c.if-endpoint.entries.items) (rows_in c.if-endpoint.places.items) c.if-endpoint.next_rows.items c.push.new.self.items e2
                w.if-endpoint.true small
                (ap (λ (x : Entry). x.table) whole)
                (ap (map entry_in) moved ∙ map-set entry_in c.marks.entries.items m.entry (w.start_entry-event.new.values, w.index_mut.result.now.1))
                (rows_put places c.if-endpoint.places.items m.entry w.index_mut-then-endpoint.result.now w.start_entry-event.new.row put ∙ ap (set rows m.entry) (w.start_entry-event.ensures.row ∙ count ∙ ap (λ n. get_or next n 0) table))
                (rw w.next_rows-is (ap (λ n. set next n w.start_entry-event.new.next_row) table ∙ ap (set next (get_or now m.entry e).table) (w.start_entry-event.ensures.next ∙ ap (λ n. n + 1) (count ∙ ap (λ n. get_or next n 0) table))))
                (c.in_ok-push.ensures.items ∙ ap (λ (x : Event). c.marks.events.items ++ x ∷ []) (w.event-is ∙ w.start_entry-event.ensures.event ∙ ap (λ n. Start n w.index_mut.result.now.0 m.at) table ∙ ap (λ (x : Entry). Start (get_or now m.entry e).table x.values m.at) whole));
            tables = tables_put places c.if-endpoint.places.items m.entry w.index_mut-then-endpoint.result.now w.start_entry-event.new.row put in_places w.index_mut-then-endpoint.ensures.value ∙ c.marks.invariant.tables;
          }
      | else-endpoint w ↦
          let row : w.index-else-endpoint.result.now.row ≡ get_or rows m.entry 0 = row_in places m.entry w.index-else-endpoint.result.now in_places w.index-else-endpoint.ensures in
          rw (w.entries-is, w.places-is, w.next_rows-is) (record {
            placing = end_by (map entry_in c.args.entries.items) c.args.marks.now c.args.tables c.requires.all c.marks.endpoint-index m c.marks-test.true now rows next c.marks.events.items placing m c.endpoint-item.is e
                c.push.new.self.items w.if-endpoint.false c.requires.ordered c.requires.periods
                (c.in_ok-push.ensures.items ∙ ap (λ (x : Event). c.marks.events.items ++ x ∷ []) (w.event-is ∙ ap (λ n. End n w.index-else-endpoint.result.now.row m.at) table ∙ ap (λ n. End (get_or now m.entry e).table n m.at) row));
            tables = c.marks.invariant.tables;
          })
    ]

pub marks-init : goal.marks-init
marks-init c =
    let fresh : List RowId = map place_of c.args.entries.items in
    let made : c.in_ok-places.places.items ≡ fresh = c.in_ok-places.ensures ∙ ap (map place_of) c.deref.ensures.value in
    record {
      placing = record {
        as_many = search rules;
        each = search rules;
        next_len = search rules;
        next_are = λ t below. grind (arith, common_steps);
        rows_len = ap (λ l. length (rows_in l)) made ∙ length-map fresh (λ (p : RowId). p.row) ∙ length-map c.args.entries.items place_of ∙ sym (length-map c.args.entries.items entry_in);
        rows_are = λ j below started. absurd (false≢true started);
        now_len = refl;
        tables_are = λ j d e stands. ap (λ (x : Entry). x.table) (get_or_from_slice_get (map entry_in c.args.entries.items) j e d stands);
        now_are = search rules;
      };
      tables = ap tables_in made ∙ tables_of_entries c.args.entries.items;
    }
