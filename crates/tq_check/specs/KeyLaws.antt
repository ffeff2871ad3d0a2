-- Laws of the rows of a table by key. This project's own.
use Rattle.std.specs.Prelude.{◌≡◌, ◌<◌, ◌≤◌, ◌==◌, ◌&&◌, ℕ, Bool, true, false, nat_le, nat_lt, All, List, length}
use Rattle.std.specs.List.{list_any}
use Rattle.tq_base.specs.declared.fragment.Fragment.{Fragment}
use Rattle.tq_check.specs.KeyRows.{count_of, is_earlier, keyed_rows, pairs_of, IsKeyOrder}
use Rattle.tq_check.specs.declared.findings.Finding.{Finding}
use Rattle.tq_check.specs.declared.findings.Finding.TheVariants.{Overlap, Gap}
use Rattle.tq_check.specs.declared.findings.KeyPair.{KeyPair}
use Rattle.tq_check.specs.declared.key_rows.KeyedRow.{KeyedRow}

-- the rows of a table have at most one order
abbrev pub KeyOrderIsUnique : Type 0
KeyOrderIsUnique = (rows : List Fragment) (one other : List KeyedRow) → IsKeyOrder rows one → IsKeyOrder rows other → one ≡ other

-- the list of all rows that overlap or that end a gap is as long as their number
abbrev pub AllAreListed : Type 0
AllAreListed = (finding : Finding) (rows : List Fragment) (order : List KeyedRow) → IsKeyOrder rows order → length (pairs_of finding order) ≡ count_of finding rows

-- of two rows that are listed as overlapping, the second is an earlier row of the key of the first, and ends after the
-- first one starts
abbrev pub OverlapsAreOverlaps : Type 0
OverlapsAreOverlaps = (order : List KeyedRow) → All (λ (pair : KeyPair). (is_earlier pair.earlier pair.row ≡ true) × (pair.row.start < pair.earlier.end)) (pairs_of Overlap order)

-- whether the row has the key and is valid at the instant
abbrev pub is_valid_at : ℕ → ℕ → KeyedRow → Bool
is_valid_at key at row = (row.key == key) && (nat_le row.start at && nat_lt at row.end)

-- in a gap that is listed no row of its key is valid
abbrev pub GapsAreGaps : Type 0
GapsAreGaps =
    (rows : List Fragment) (order : List KeyedRow) → IsKeyOrder rows order
    → All (λ (pair : KeyPair). (at : ℕ) → pair.earlier.end ≤ at → at < pair.row.start → list_any (is_valid_at pair.row.key at) (keyed_rows rows) ≡ false) (pairs_of Gap order)
