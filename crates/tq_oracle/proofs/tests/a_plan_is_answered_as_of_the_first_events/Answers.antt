use Rattle.std.proofs.Common.{subst, sym}
use Rattle.tq_event.specs.History.{IsHistory}
use Rattle.tq_oracle.proofs.tests.a_plan_is_answered_as_of_the_first_events.Goals as goal

pub answered-requires-clause-history : goal.answered-requires-clause-history
answered-requires-clause-history g c =
    subst (IsHistory c.in_ok-loaded.loaded.catalogue) (sym c.get-events.ensures) (c.loaded_is_history.ensures _ _ _ _ c.in_ok-loaded.ensures.loaded)
