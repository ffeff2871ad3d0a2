-- Every value belongs to one of the parts.
use Rattle.std.proofs.Common.{◌≤◌, ◌<◌, ◌+◌, ◌*◌, ◌/◌, ◌^◌, ℕ, arith}
use Rattle.std.proofs.lemmas.Nat.{div_below, mod_below, row_fits, shr_below}
use Rattle.tq_split.specs.declared.part_numbers.TheConstants.{GOLDEN}
use Rattle.tq_split.specs.PartNumbers.{PartNumbersAreBelow, scaled, spread, value_code}

scaled_below : (parts hash : ℕ) → hash < 2 ^ 64 → 1 ≤ parts → scaled parts hash < parts
scaled_below parts hash small some =
    let high : hash / 2 ^ 32 < 2 ^ 32 = shr_below hash 32 32 small in
    let most : hash / 2 ^ 32 * parts + parts ≤ 2 ^ 32 * parts = row_fits (hash / 2 ^ 32) parts (2 ^ 32) parts high (omega arith) in
    div_below (hash / 2 ^ 32 * parts) (2 ^ 32) parts (omega arith) (omega (arith, most, some))

pub numbers_below : PartNumbersAreBelow
numbers_below parts value some = scaled_below parts (spread (value_code value)) (mod_below (value_code value * GOLDEN) (2 ^ 64) (omega arith)) some
