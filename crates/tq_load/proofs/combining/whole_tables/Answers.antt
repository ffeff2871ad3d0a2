use Rattle.std.proofs.Common.{◌≡◌, ◌<◌, ◌++◌, ◌∷◌, [], Some, inl, inr, ap, ◌∙◌, arith, length, length-append, refl, slice_get, subst, sym}
use Rattle.std.specs.Prelude.{All, slice_index_or}
use Rattle.std.specs.Vec.Iter.{into_iter_items}
use Rattle.std.proofs.lemmas.List.Elements.{All-head, All-tail}
use Rattle.std.proofs.lemmas.Option.{none-some, slice_get_read}
use Rattle.tq_event.specs.declared.file.TableFile.{TableFile}
use Rattle.tq_event.specs.Projection.{projected_rows, wanted_of}
use Rattle.tq_load.specs.Parts.{AreProjectedOfTable, IsRead}
use Rattle.tq_load.specs.Combining.{IsWhole}
use Rattle.tq_load.proofs.PartLemmas.{whole_read}
use Rattle.tq_load.proofs.Pushed.{pushed_at}
use Rattle.tq_load.proofs.combining.whole_tables.Goals as goal

pub parts-init : goal.parts-init
parts-init c =
    let given : into_iter_items c.into_iter-part-iterator.result ≡ c.args.parts.items = c.into_iter-part-iterator.ensures.into_iter_gives.0 in
    rw c.in_ok-tables.ensures.items (record {
      many = omega (arith, ap length given, c.len.ensures, c.if-len-files.false, c.args.parts.ok.0);
      left = λ form wanted schemas all. subst (All (IsRead form c.args.files.now wanted schemas)) (sym given) all;
      parsed = λ form wanted schemas all table rows is. absurd (none-some rows is);
    })

pub parts-preserved : goal.parts-preserved
parts-preserved c =
    let i = c.parts.invariant in
    let files = c.args.files.now in
    let tables = c.parts.tables.items in
    let part = c.in-Some.part in
    let rest = into_iter_items c.next.new.self in
    let split : into_iter_items c.parts.part-iterator ≡ part ∷ rest = c.in-Some.ensures.steps.0 in
    let grown : c.push.new.self.items ≡ tables ++ part.rows ∷ [] = c.in_ok-push.ensures.items in
    let place : c.len-table.result ≡ length tables = omega (arith, c.len-table.ensures, c.parts.tables.ok.0) in
    let whole : IsWhole c.len-table.result (slice_index_or files c.len-table.result c.index-files-table.result).bytes part.part = c.is_whole.ensures c.if-not-is_whole.false in
    let here : c.len-table.result < length files = omega (arith, place, i.many, ap length split) in
    let file_at : slice_get files c.len-table.result ≡ Some c.index-files-table.result = slice_get_read files (length files) c.len-table.result c.index-files-table.result refl here c.index-files-table.is in
    record {
      many = omega (arith, ap length grown, length-append tables (part.rows ∷ []), ap length split, i.many);
      left = λ form wanted schemas all. All-tail (IsRead form files wanted schemas) part rest (subst (All (IsRead form files wanted schemas)) split (i.left form wanted schemas all));
      parsed = λ form wanted schemas all table rows is file schema is_file is_schema.
          let read = All-head (IsRead form files wanted schemas) part rest (subst (All (IsRead form files wanted schemas)) split (i.left form wanted schemas all)) in
          elim (pushed_at tables part.rows table rows (rw grown at is)) [
            | inl before ↦ i.parsed form wanted schemas all table rows before.1 file schema is_file is_schema
            | inr last ↦
                let at : part.part.table ≡ table = whole.same ∙ place ∙ sym last.0 in
                let found : Some c.index-files-table.result ≡ Some file = sym file_at ∙ ap (slice_get files) (place ∙ sym last.0) ∙ is_file in
                let same : c.index-files-table.result ≡ file = cc found in
                let end : part.part.end ≡ length file.bytes = whole.last ∙ ap length (ap (λ (f : TableFile). f.bytes) (sym c.index-files-table.is ∙ same)) in
                let one = read file schema (ap (slice_get files) at ∙ is_file) (ap (slice_get schemas) at ∙ is_schema) in
                subst (AreProjectedOfTable form schema.columns (wanted_of wanted table) file.bytes) last.1
                (record {
                  whole = one.whole;
                  of_table = whole_read form schema.columns file.bytes part.part one.whole whole.first end one.of_part;
                  kept = subst (λ t. part.rows ≡ projected_rows (wanted_of wanted t) one.whole) at one.kept;
                })
          ];
    }

pub returns : goal.returns
returns c form wanted schemas all =
    let none : length (into_iter_items c.parts.part-iterator) ≡ 0 = sym c.parts.part-iterator.rest.ok.0 ∙ c.in-None.ensures.steps.0 in
    record { many = omega (arith, none, c.parts.invariant.many); each = c.parts.invariant.parsed form wanted schemas all }
