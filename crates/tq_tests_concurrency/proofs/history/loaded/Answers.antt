use Rattle.tq_base.specs.declared.form.Form.TheVariants.{Numbers}
use Rattle.tq_tests_concurrency.proofs.history.loaded.Goals as goal

pub returns-clause-history : goal.returns-clause-history
returns-clause-history c = c.loaded_is_history.ensures Numbers _ 16777216 c.in_ok-loaded.loaded c.in_ok-loaded.ensures.loaded
