use Rattle.tq_event.proofs.CatalogueLemmas.{contents_loaded, is_catalogue}
use Rattle.tq_event.proofs.laws.loaded_is_catalogue.Goals as goal

pub returns : goal.returns
returns c = λ form files limit loaded is. is_catalogue loaded.catalogue is.contents.tables is.catalogue (contents_loaded form limit files is.contents is.is_contents).tables
