use Rattle.tq_session.proofs.SessionLemmas.{on_ok}
use Rattle.tq_session.proofs.transcript.session.Goals as goal

pub run-requires-clause-history : goal.run-requires-clause-history
run-requires-clause-history g c κs within = c.loaded_is_history.ensures c.args.form c.args.files.items 16777216 c.in_ok-loaded.loaded c.in_ok-loaded.ensures.loaded

pub returns-clause-all : goal.returns-clause-all
returns-clause-all g c =
    on_ok _ _ c.run.result (λ answers. record { loaded = c.in_ok-loaded.loaded; is_loaded = c.in_ok-loaded.ensures.loaded; answers = answers }) c.run.ensures.all

pub returns-clause-read : goal.returns-clause-read
returns-clause-read g c e = record { loaded = c.in_ok-loaded.loaded; is_loaded = c.in_ok-loaded.ensures.loaded; answers = c.run.ensures.read e }

pub returns-clause-write : goal.returns-clause-write
returns-clause-write g c e = record { loaded = c.in_ok-loaded.loaded; is_loaded = c.in_ok-loaded.ensures.loaded; answers = c.run.ensures.write e }
