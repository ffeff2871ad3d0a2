use Rattle.tq_event.proofs.CatalogueLemmas.{are_folded, contents_loaded}
use Rattle.tq_event.proofs.laws.loaded_names_are_folded.Goals as goal

pub returns : goal.returns
returns c = λ form files limit loaded is. are_folded loaded.catalogue is.contents.tables is.catalogue (contents_loaded form limit files is.contents is.is_contents).tables
