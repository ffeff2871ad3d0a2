use Rattle.std.proofs.Common.{◌≡◌, ◌∙◌, Ok, Some, true, ap, length, arith, refl, slice_get, sym}
use Rattle.std.specs.Prelude.{slice_range}
use Rattle.std.proofs.lemmas.Option.{slice_get_read}
use Rattle.tq_base.specs.declared.catalogue.Schema.{Schema}
use Rattle.tq_event.specs.declared.file.TableFile.{TableFile}
use Rattle.tq_event.specs.Projection.{wanted_lists, wanted_of}
use Rattle.tq_event.specs.Loading.{csv_records}
use Rattle.tq_load.specs.Feeds.{ends_in_feed}
use Rattle.tq_load.specs.Parts.{EndsRecords, IsPart, PartParsesProjected}
use Rattle.tq_load.proofs.PartLemmas.{part_ends}
use Rattle.tq_load.proofs.work.part_rows.Goals as goal

pub bytes_between-requires : goal.bytes_between-requires
bytes_between-requires c =
    let files = c.args.files.now in
    let part = c.args.part in
    let file = c.index-files-part.result in
    let at : slice_get files part.table ≡ Some file = slice_get_read files (length files) part.table file refl c.requires.part.table c.index-files-part.is in
    (c.requires.part.of_file file at).ordered

pub returns-in-Some-2 : goal.returns-in-Some-2
returns-in-Some-2 c file schema is_file is_schema =
    let files = c.args.files.now in
    let schemas = c.args.schemas.now in
    let part = c.args.part in
    let rows = c.in-Some-2.rows in
    let own : IsPart file.bytes part = c.requires.part.of_file file is_file in
    let file_at : slice_get files part.table ≡ Some c.index-files-part.result = slice_get_read files (length files) part.table c.index-files-part.result refl c.requires.part.table c.index-files-part.is in
    let schema_at : slice_get schemas part.table ≡ Some c.index-schemas-part.result =
    slice_get_read schemas (length schemas) part.table c.index-schemas-part.result refl (omega (arith, c.requires.part.table, c.requires.many)) c.index-schemas-part.is in
    let found : Some c.index-files-part.result ≡ Some file = sym file_at ∙ is_file in
    let other : Some c.index-schemas-part.result ≡ Some schema = sym schema_at ∙ is_schema in
    let same : c.index-files-part.result ≡ file = cc found in
    let like : c.index-schemas-part.result ≡ schema = cc other in
    let bytes : c.in-Some.bytes.now ≡ slice_range file.bytes part.start part.end = c.in-Some.ensures ∙ ap (λ (f : TableFile). slice_range f.bytes part.start part.end) (sym c.index-files-part.is ∙ same) in
    let columns : c.get-columns.result.now ≡ schema.columns = c.get-columns.ensures ∙ ap (λ (s : Schema). s.columns) (sym c.index-schemas-part.is ∙ like) in
    let wanted : c.wanted_columns-wanted.result.now ≡ wanted_of (wanted_lists c.args.wanted.now) part.table = c.wanted_columns-wanted.ensures in
    let read : c.read_part-read.result ≡ Ok rows = rw c.in-Some-2.is at c.in_ok-rows.ensures.found in
    let ends : ends_in_feed (slice_range file.bytes part.start part.end) ≡ true → EndsRecords (slice_range file.bytes part.start part.end) = rw (read, bytes) at c.read_part-read.ensures.ends in
    let parsed : PartParsesProjected c.args.form part.start schema.columns (wanted_of (wanted_lists c.args.wanted.now) part.table) (csv_records (slice_range file.bytes part.start part.end)) rows.items =
    rw (read, columns, wanted, bytes) at c.read_part-read.ensures.parsed in
    record {
      whole = record { width = rows.width; items = parsed.whole };
      of_part = record {
        part_of = own;
        wide = rw (read, columns) at c.read_part-read.ensures.wide;
        parsed = parsed.parsed;
        ends = part_ends file.bytes part.start part.end own.ordered ends;
      };
      kept = λ i. record { width = rows.width; items = parsed.kept i };
    }
