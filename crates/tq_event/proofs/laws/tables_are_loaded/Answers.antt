use Rattle.std.proofs.Common.{◌<◌, length, refl, sym, subst}
use Rattle.std.specs.Prelude.{All}
use Rattle.std.proofs.lemmas.List.Elements.{All-weaker}
use Rattle.tq_event.specs.Entries.{Entry}
use Rattle.tq_event.specs.Tables.{lists_of}
use Rattle.tq_event.proofs.CatalogueLemmas.{Stored, contents_loaded}
use Rattle.tq_event.proofs.LoadedLemmas.{Placeable, contents_placeable}
use Rattle.tq_event.proofs.HeldLemmas.{entries_have_some, tables_hold}
use Rattle.tq_event.proofs.laws.tables_are_loaded.Goals as goal

pub returns : goal.returns
returns c = λ form files limit tables are.
    let entries = are.contents.entries in
    let some = entries_have_some entries in
    let good = contents_loaded form limit files are.contents are.is_contents in
    let placed = contents_placeable form limit files are.contents are.is_contents in
    let periods = All-weaker (Placeable (length are.contents.tables)) (λ (e : Entry). e.from < e.to) (λ e p. p.0) entries placed in
    let stored = subst (λ ts. All (Stored ts) entries) (sym are.catalogue) good.stored in
    record {
      loaded = record { catalogue = tables.catalogue; events = some.events };
      is_loaded = record { contents = are.contents; is_contents = are.is_contents; catalogue = are.catalogue; events = some.are };
      catalogue = refl;
      hold = λ table. tables_hold tables.catalogue entries some.events (lists_of tables.rows) table some.are are.rows periods stored;
    }
