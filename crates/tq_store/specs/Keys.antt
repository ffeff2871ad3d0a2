-- Tree keys: they are in the order of the rows' keys, then of the rows' numbers. This project's own.
use Rattle.std.specs.Prelude.{ℕ, ℤ, pos, negsuc, ◌+◌, ◌-◌, ◌*◌, ◌^◌, min, List}
use Rattle.tq_base.specs.declared.value.Value.{Value}
use Rattle.tq_base.specs.KeyRanges.{key_of}

-- a number, counted from the least number of 64 signed bits; a wider number counts as the nearest of these
abbrev pub shifted : ℤ → ℕ
shifted (pos n) = 2 ^ 63 + min n (2 ^ 63 - 1)
shifted (negsuc n) = 2 ^ 63 - 1 - n

-- the tree key of a row with these values and this number
abbrev pub tree_key : List Value → ℕ → ℕ
tree_key values row = shifted (key_of values) * 4294967296 + row
