-- The open rows of a table, as a set of index keys. This project's own.
use Rattle.std.specs.Prelude.{◌≡◌, ℕ, ◌+◌, ◌*◌, ◌/◌, ◌%◌, Bool, false, List, length, slice_get}
use Rattle.std.specs.BTreeSet.{BTreeSet, contains}
use Rattle.std.specs.Option.{option_map_or}
use Rattle.std.specs.Ordering.{nat_cmp}
use Rattle.tq_base.specs.declared.value.Value.{Value}
use Rattle.tq_base.specs.KeyRanges.{key_of}
use Rattle.tq_snapshot.specs.declared.open_rows.OpenRows.{OpenRows}
use Rattle.tq_snapshot.specs.Digests.{digest_of}
use Rattle.tq_store.specs.Keys.{shifted}

-- the index key of an open row with these values and this number: the row's key, then a digest of its values, then its
-- number. So rows with the same values are consecutive and ascend by number
abbrev pub index_key : List Value → ℕ → ℕ
index_key values row = (shifted (key_of values) * 4294967296 + digest_of values) * 4294967296 + row

-- the number of the key's set among `sets` sets, from the row's key
abbrev pub set_index : ℕ → ℕ → ℕ
set_index sets key = key / 4294967296 / 4294967296 % 4294967296 % sets

-- whether the key is that of an open row
abbrev pub has : OpenRows → ℕ → Bool
has rows key = option_map_or (λ set. contains nat_cmp set key) (slice_get rows.sets.items (set_index (length rows.sets.items) key)) false

-- both have the same keys
abbrev pub HasSame : OpenRows → OpenRows → Type 0
HasSame old new = (key : ℕ) → has new key ≡ has old key

-- the set has all keys of open rows that differ from the values' keys only in the number of the row
abbrev pub IsNear : OpenRows → List Value → BTreeSet ℕ → Type 0
IsNear rows values set = (k : ℕ) → k / 4294967296 ≡ index_key values 0 / 4294967296 → has rows k ≡ contains nat_cmp set k
