use Rattle.std.proofs.Common.{◌≡◌, ◌∙◌, ◌++◌, ap, refl, slice_get, subst, sym}
use Rattle.tq_base.specs.RowLists.{RowList}
use Rattle.tq_event.specs.Projection.{projected_rows, wanted_of}
use Rattle.tq_load.specs.declared.part.Part.{Part}
use Rattle.tq_load.proofs.PartLemmas.{both_kept, both_read}
use Rattle.tq_load.proofs.combining.both.Goals as goal

pub returns : goal.returns
returns g c form files wanted schemas is_first is_second file schema is_file is_schema =
    let first = c.args.read.part in
    let second = c.args.other.part in
    let part : Part = record { table = first.table; start = first.start; end = second.end } in
    let one = is_first file schema is_file is_schema in
    let other = is_second file schema (ap (slice_get files) (sym c.requires.table) ∙ is_file) (ap (slice_get schemas) (sym c.requires.table) ∙ is_schema) in
    let all : RowList = record { width = one.whole.width; items = one.whole.items ++ other.whole.items } in
    record {
      whole = all;
      of_part = both_read form schema.columns file.bytes first second part one.whole other.whole all c.requires.next refl refl refl refl one.of_part other.of_part;
      kept = both_kept (wanted_of wanted first.table) one.whole other.whole c.args.read.rows c.args.other.rows c.in_ok-rows.rows c.in_ok-rows.ensures.width c.in_ok-rows.ensures.rows one.kept
          (subst (λ t. c.args.other.rows ≡ projected_rows (wanted_of wanted t) other.whole) (sym c.requires.table) other.kept);
    }
