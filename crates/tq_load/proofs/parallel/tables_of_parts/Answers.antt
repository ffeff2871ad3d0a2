use Rattle.std.proofs.Common.{◌≡◌, ◌≤◌, ◌∙◌, Ok, Option, ap, arith, map, subst, sum_by, sym}
use Rattle.std.specs.Prelude.{All, IfSome}
use Rattle.tq_base.specs.RowLists.{RowList}
use Rattle.tq_event.specs.Projection.{wanted_lists}
use Rattle.tq_event.specs.Loading.{event_count}
use Rattle.tq_event.specs.Tables.{AreRead, entries_from}
use Rattle.tq_event.proofs.ProjectionLemmas.{are_wanted, tables_events, tables_wide}
use Rattle.tq_load.specs.declared.part.PartRows.{PartRows}
use Rattle.tq_load.specs.Parts.{AreHeaded, HaveProjectedRows, IsRead}
use Rattle.tq_load.proofs.ToldLemmas.{all_contents, as_wide, whole_told}
use Rattle.tq_load.proofs.parallel.tables_of_parts.Goals as goal

pub returns : goal.returns
returns g c =
    let files = c.args.files.now in
    let wanted = wanted_lists c.args.wanted.now in
    let schemas = c.in-Some.schemas.items in
    let rows = c.in-Some-3.rows.items in
    let if_valid : c.read_schemas.result ≡ Ok c.in-Some.schemas = rw c.in-Some.is at c.in_ok-schemas.ensures.found in
    let headed : AreHeaded files schemas = rw if_valid at c.read_schemas.ensures.headed in
    let read : All (λ (one : Option PartRows). IfSome one (IsRead c.args.options.form files wanted schemas)) c.in_ok-read.read.items = rw c.deref.ensures.value at c.in_ok-read.ensures in
    let sides : All (IsRead c.args.options.form files wanted schemas) c.in-Some-2.read.items = rw c.in-Some-2.is at (c.in_ok-read-2.ensures c.args.options.form files wanted schemas read) in
    let kept_told : HaveProjectedRows c.args.options.form files wanted schemas rows = rw c.in-Some-3.is at (c.in_ok-rows.ensures c.args.options.form wanted schemas sides) in
    let within : sum_by event_count (entries_from 0 rows) ≤ c.args.options.limit = rw c.deref-3.ensures.value at (c.is_within.ensures c.if-not-is_within.false) in
    let (whole, kept, parsed) = whole_told c.args.options.form files wanted schemas rows headed.many kept_told in
    let few : sum_by event_count (entries_from 0 whole) ≤ c.args.options.limit = omega (arith, within, ap (λ l. sum_by event_count (entries_from 0 l)) kept, tables_events wanted 0 whole) in
    let contents = all_contents c.args.options.form files c.args.options.limit schemas whole headed parsed few in
    let wide : AreRead schemas rows = ap (map (λ (r : RowList). r.width)) kept ∙ tables_wide wanted 0 whole ∙ as_wide c.args.options.form files schemas whole headed parsed in
    let are_read = subst (AreRead schemas) (sym c.of-2.ensures) wide in
    record {
      tables = are_wanted c.args.options.form files c.args.options.limit wanted schemas whole _ contents c.of.ensures (c.of-2.ensures ∙ kept) are_read;
      read = subst (λ s. AreRead s c.of-2.result) (sym c.of.ensures) are_read;
    }
