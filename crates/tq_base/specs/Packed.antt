-- Sort keys that lie close together, with prefix and start packed into one number. This project's own.
use Rattle.std.specs.Prelude.{◌+◌, ◌-◌, ◌*◌, ◌/◌, ◌%◌, ◌^◌, ◌<◌, ◌≤◌}
use Rattle.tq_base.specs.declared.packed.Corner.{Corner}
use Rattle.tq_base.specs.declared.packed.Packed.{Packed}
use Rattle.tq_base.specs.declared.sort_input.SortKey.{SortKey}

-- neither the prefix nor the start of the key is below the corner
pub record IsAbove (corner : Corner) (k : SortKey) : Type 0 where
  pub prefix : corner.prefix ≤ k.prefix
  pub start : corner.start ≤ k.start

-- the same, and each is less than 2^32 above the corner
pub record IsNear (corner : Corner) (k : SortKey) : Type 0 where
  pub above : IsAbove corner k
  pub prefix : k.prefix - corner.prefix < 2 ^ 32
  pub start : k.start - corner.start < 2 ^ 32

-- the key packed: its distance in prefix from the corner, then its distance in start
abbrev pub pack : Corner → SortKey → Packed
pack corner k = record { order = (k.prefix - corner.prefix) * 2 ^ 32 + (k.start - corner.start); row = k.row; side = k.side; run_start = k.run_start }

-- the key that was packed
abbrev pub unpack : Corner → Packed → SortKey
unpack corner p = record { prefix = corner.prefix + p.order / 2 ^ 32; start = corner.start + p.order % 2 ^ 32; row = p.row; side = p.side; run_start = p.run_start }

-- the packed key unpacks to a prefix of 128 bits and a start of 64 bits
pub record IsOfKey (corner : Corner) (p : Packed) : Type 0 where
  pub prefix : (unpack corner p).prefix < 2 ^ 128
  pub start : (unpack corner p).start < 2 ^ 64
