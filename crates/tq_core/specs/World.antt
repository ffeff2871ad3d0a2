-- The representation of the machine's state in a world, and its invariant.
use Rattle.std.specs.Prelude.{ℕ, ◌≤◌, ◌<◌, List, length, take, drop, All, slice_index}
use Rattle.tq_base.specs.Catalogues.{IsCatalogue}
use Rattle.tq_event.specs.Recorded.{Recorded}
use Rattle.tq_core.specs.Machine.{Machine, PieceRun}

-- the first events of the history are the published ones, and the others are pending
abbrev pub machine_of : Recorded → ℕ → List ℕ → List ℕ → List PieceRun → Machine
machine_of history published lengths seen runs =
    record { catalogue = history.catalogue; published = take published history.events; lengths = lengths; pending = drop published history.events; seen = seen; runs = runs }

-- numbers that never decrease
abbrev pub Rise : List ℕ → Type 0
Rise xs = (i j : ℕ) → i ≤ j → j < length xs → slice_index xs i ≤ slice_index xs j

-- at most 16,777,216 events, of which the first are published; no length, and no length that a reader has seen, is
-- greater than the number of published events
pub record IsWorld (history : Recorded) (published : ℕ) (lengths seen : List ℕ) : Type 0 where
  pub catalogue : IsCatalogue history.catalogue
  pub few : length history.events ≤ 16777216
  pub within : published ≤ length history.events
  pub rising : Rise lengths
  pub bounded : All (λ n. n ≤ published) lengths
  pub known : All (λ n. n ≤ published) seen
