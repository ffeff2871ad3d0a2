use Rattle.std.proofs.Common.{◌<◌, length, sym, subst}
use Rattle.std.specs.Prelude.{All}
use Rattle.std.proofs.lemmas.List.Elements.{All-weaker}
use Rattle.tq_event.specs.Entries.{Entry}
use Rattle.tq_event.proofs.CatalogueLemmas.{Stored, contents_loaded}
use Rattle.tq_event.proofs.HistoryLemmas.{is_history}
use Rattle.tq_event.proofs.LoadedLemmas.{Placeable, contents_placeable}
use Rattle.tq_event.proofs.laws.loaded_is_history.Goals as goal

pub returns : goal.returns
returns c = λ form files limit loaded is.
    let good = contents_loaded form limit files is.contents is.is_contents in
    let placed = contents_placeable form limit files is.contents is.is_contents in
    is_history loaded.catalogue is.contents.entries loaded.events is.events
    (All-weaker (Placeable (length is.contents.tables)) (λ (e : Entry). e.from < e.to) (λ e p. p.0) is.contents.entries placed)
    (subst (λ ts. All (Stored ts) is.contents.entries) (sym is.catalogue) good.stored)
