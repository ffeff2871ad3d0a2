use Rattle.std.proofs.Common.{◌≡◌, ◌∙◌, ◌++◌, ◌∷◌, [], List, Ok, length, map, sum_by, ap, refl, arith, rules, true}
use Rattle.std.specs.Result.{is_ok}
use Rattle.std.proofs.lemmas.Result.{err_from_is_err_and}
use Rattle.std.proofs.lemmas.List.Sums.{sum_by-append}
use Rattle.tq_base.specs.RowLists.{RowList}
use Rattle.tq_base.specs.declared.catalogue.Column.{Column}
use Rattle.tq_base.specs.declared.catalogue.Schema.{Schema}
use Rattle.tq_event.specs.Projection.{projected_row, wanted_lists, wanted_of}
use Rattle.tq_event.specs.Loading.{event_count, next_name, table_contents}
use Rattle.tq_event.specs.Tables.{entries_from, row_entry}
use Rattle.tq_event.proofs.ProjectionLemmas.{events_before, rows_events, table_put, tables_many}
use Rattle.tq_event.proofs.TableLemmas.{as_many_read, entries_put}
use Rattle.tq_event.proofs.loading.load_file.Goals as goal

pub returns-in_err-columns-clause-fault : goal.returns-in_err-columns-clause-fault
returns-in_err-columns-clause-fault c whole kept =
    let p = err_from_is_err_and c.from_residual.result c.from_residual.ensures.1 in
    let number = c.len-number.result in
    let tables = c.args.tables.now.items in
    let named : next_name tables c.args.file.now.name ≡ Ok c.in-Ok.name = rw (c.deref.ensures.value, c.get.ensures) at c.in-Ok.ensures.ok in
    let place : length tables ≡ number = omega (arith, c.len-number.ensures, c.args.tables.now.ok.0) in
    let counted = events_before (wanted_lists c.args.wanted.now) whole c.args.rows.now.items c.args.events.now kept c.requires.counted in
    rw (p.1, p.2) (λ known.
    let contents = c.in_err-columns.ensures.fault (entries_from 0 whole) counted known in
    rw (named, place, contents) refl)

pub returns-clause-ok : goal.returns-clause-ok
returns-clause-ok c whole kept =
    let tables = c.args.tables.now.items in
    let rows = c.args.rows.now.items in
    let wanted = wanted_lists c.args.wanted.now in
    let number = c.len-number.result in
    let columns = c.in_ok-columns.columns.items in
    let read = c.in_ok-columns.read in
    let of_file = c.in_ok-columns.ensures.ok in
    let whole_read : RowList = record { width = read.width; items = of_file.whole } in
    let entries = entries_from 0 whole in
    let many : length rows ≡ number = omega (arith, as_many_read tables rows c.requires.read, c.len-number.ensures, c.args.tables.now.ok.0) in
    let as_many : length whole ≡ number = omega (arith, many, ap length kept, tables_many wanted 0 whole) in
    let good : is_ok c.push-2.result ≡ true = search rules in
    let pushed : c.push-2.new.self.items ≡ rows ++ read ∷ [] = rw good at c.push-2.ensures.items in
    let kept_read : read.items ≡ map (projected_row (wanted_of wanted number)) of_file.whole = rw c.wanted_columns-wanted.ensures at of_file.kept in
    let parsed : entries_from 0 (whole ++ whole_read ∷ []) ≡ entries ++ map (row_entry number) of_file.whole = entries_put whole (whole ++ whole_read ∷ []) whole_read number refl as_many in
    let contents : table_contents c.args.rules.form c.args.rules.limit number entries c.args.file.now.bytes ≡ Ok (columns, entries ++ map (row_entry number) of_file.whole) =
    of_file.parsed entries (events_before wanted whole rows c.args.events.now kept c.requires.counted) in
    let named : next_name tables c.args.file.now.name ≡ Ok c.in-Ok.name = rw (c.deref.ensures.value, c.get.ensures) at c.in-Ok.ensures.ok in
    let place : length tables ≡ number = omega (arith, c.len-number.ensures, c.args.tables.now.ok.0) in
    let fits : is_ok c.push.result ≡ true = search rules in
    let grown : c.push.new.self.items ≡ tables ++ record { name = c.in-Ok.name; columns = columns } ∷ [] =
    (rw fits at c.push.ensures.items) ∙ ap (λ (cs : List Column). let s : Schema = record { name = c.in-Ok.name; columns = cs } in tables ++ s ∷ []) c.of-columns.ensures in
    record {
      whole = whole ++ whole_read ∷ [];
      kept = table_put wanted whole rows c.push-2.new.self.items read whole_read number kept pushed many refl kept_read;
      parsed = rw (parsed, grown, named, place, contents) refl;
    }

pub returns-clause-counted : goal.returns-clause-counted
returns-clause-counted c =
    let tables = c.args.tables.now.items in
    let rows = c.args.rows.now.items in
    let read = c.in_ok-columns.read in
    let of_file = c.in_ok-columns.ensures.ok in
    let number = c.len-number.result in
    let parsed = map (row_entry number) read.items in
    let many : length rows ≡ number = omega (arith, as_many_read tables rows c.requires.read, c.len-number.ensures, c.args.tables.now.ok.0) in
    let good : is_ok c.push-2.result ≡ true = search rules in
    let pushed : c.push-2.new.self.items ≡ rows ++ read ∷ [] = rw good at c.push-2.ensures.items in
    let all : entries_from 0 c.push-2.new.self.items ≡ entries_from 0 rows ++ parsed = entries_put rows c.push-2.new.self.items read number pushed many in
    let same : sum_by event_count parsed ≡ sum_by event_count (map (row_entry number) of_file.whole) =
    ap (λ l. sum_by event_count (map (row_entry number) l)) of_file.kept ∙ rows_events c.wanted_columns-wanted.result.now number of_file.whole in
    omega (arith, ap (sum_by event_count) all, sum_by-append event_count (entries_from 0 rows) parsed, same, of_file.counted, c.requires.counted)
