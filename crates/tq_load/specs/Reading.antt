-- Reading past the header of a file. This project's own.
use Rattle.std.specs.Prelude.{◌≡◌, ℕ, zero, suc, false, List, ◌∷◌}
use Rattle.tq_load.specs.Feeds.{may_be_open}

-- the records of a part that remain after the header. Only the first part of a file has a header, and its last field
-- does not end with a line feed.
abbrev pub PassesHeader : ℕ → List (List (List ℕ)) → List (List (List ℕ)) → Type 0
PassesHeader zero records more = (header : List (List ℕ)) × (may_be_open header ≡ false) × (records ≡ header ∷ more)
PassesHeader (suc start) records more = records ≡ more
