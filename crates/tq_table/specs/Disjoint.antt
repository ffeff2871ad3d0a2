-- Rows that neither overlap nor meet, in order.
use Rattle.std.specs.Prelude.{ℕ, ◌+◌, ◌<◌, List, length, slice_index_or}
use Rattle.tq_base.specs.declared.fragment.Fragment.{Fragment}

-- each row ends before the next one begins
abbrev pub AreDisjoint : List Fragment → Type 0
AreDisjoint rows = (k : ℕ) (d : Fragment) → k + 1 < length rows → (slice_index_or rows k d).period.end < (slice_index_or rows (k + 1) d).period.start
