use Rattle.std.proofs.Common.{◌≡◌, ◌<◌, ◌∙◌, arith, map, length, ap, subst, sym}
use Rattle.std.specs.Prelude.{All}
use Rattle.std.proofs.lemmas.List.{length-map}
use Rattle.std.proofs.lemmas.List.Elements.{All-weaker}
use Rattle.tq_event.specs.Entries.{Entry, entry_in}
use Rattle.tq_event.specs.Tables.{entries_from}
use Rattle.tq_event.proofs.LoadedLemmas.{Placeable, contents_placeable, entries_within}
use Rattle.tq_event.proofs.TableLemmas.{as_many_read}
use Rattle.tq_event.proofs.loading.load.Goals as goal

pub entries_of-requires : goal.entries_of-requires
entries_of-requires c =
    omega (arith, c.deref.ensures.len, ap length c.deref.ensures.value, as_many_read c.in_ok-tables.tables.items c.in_ok-tables.rows.items c.in_ok-tables.ensures.read, c.in_ok-tables.ensures.few)

pub order_events-requires-clause-few : goal.order_events-requires-clause-few
order_events-requires-clause-few c =
    let parsed : map entry_in c.in_ok-entries.entries.items ≡ entries_from 0 c.in_ok-tables.rows.items = c.in_ok-entries.ensures ∙ ap (entries_from 0) c.deref.ensures.value in
    omega (arith, c.in_ok-entries.entries.ok.0, length-map c.in_ok-entries.entries.items entry_in, ap length parsed, entries_within (entries_from 0 c.in_ok-tables.rows.items), c.in_ok-tables.ensures.within, c.requires)

pub order_events-requires-clause-periods : goal.order_events-requires-clause-periods
order_events-requires-clause-periods c =
    let parsed : map entry_in c.in_ok-entries.entries.items ≡ entries_from 0 c.in_ok-tables.rows.items = c.in_ok-entries.ensures ∙ ap (entries_from 0) c.deref.ensures.value in
    let placed = contents_placeable c.args.form c.args.limit c.args.files.items (record { tables = c.in_ok-tables.tables.items; entries = entries_from 0 c.in_ok-tables.rows.items }) c.in_ok-tables.ensures.ok in
    subst (All (λ (e : Entry). e.from < e.to)) (sym parsed) (All-weaker (Placeable (length c.in_ok-tables.tables.items)) (λ (e : Entry). e.from < e.to) (λ e p. p.0) (entries_from 0 c.in_ok-tables.rows.items) placed)

pub order_events-requires-clause-tables : goal.order_events-requires-clause-tables
order_events-requires-clause-tables c =
    let parsed : map entry_in c.in_ok-entries.entries.items ≡ entries_from 0 c.in_ok-tables.rows.items = c.in_ok-entries.ensures ∙ ap (entries_from 0) c.deref.ensures.value in
    let placed = contents_placeable c.args.form c.args.limit c.args.files.items (record { tables = c.in_ok-tables.tables.items; entries = entries_from 0 c.in_ok-tables.rows.items }) c.in_ok-tables.ensures.ok in
    let many : c.len.result ≡ length c.in_ok-tables.tables.items = omega (arith, c.len.ensures, c.in_ok-tables.tables.ok.0) in
    subst (All (λ (e : Entry). e.table < c.len.result)) (sym parsed) (All-weaker (Placeable (length c.in_ok-tables.tables.items)) (λ (e : Entry). e.table < c.len.result) (λ e p. omega (arith, many, p.1)) (entries_from 0 c.in_ok-tables.rows.items) placed)
