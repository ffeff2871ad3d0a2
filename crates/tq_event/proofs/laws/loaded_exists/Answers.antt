use Rattle.std.proofs.Common.{refl}
use Rattle.tq_event.proofs.CatalogueLemmas.{contents_loaded}
use Rattle.tq_event.proofs.HeldLemmas.{entries_have_some}
use Rattle.tq_event.proofs.laws.loaded_exists.Goals as goal

pub returns : goal.returns
returns c = λ form files limit contents is.
    let some = entries_have_some contents.entries in
    let good = contents_loaded form limit files contents is in (
      record { catalogue = record { tables = contents.tables; few = good.tables.few }; events = some.events },
      record { contents = contents; is_contents = is; catalogue = refl; events = some.are },
    )
