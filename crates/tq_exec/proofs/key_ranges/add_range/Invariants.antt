-- No key is in two of the ranges so far, and they have the keys of the ranges that were united.
use Rattle.std.proofs.Common.{◌≤◌, ◌+◌, drop, take}
use Rattle.std.specs.Prelude.{ℤ}
use Rattle.tq_exec.specs.Reads.{is_key_in, ranges_with}
use Rattle.tq_exec.proofs.key_ranges.add_range.Given as goal

abbrev pub invariant-each : goal.invariant-each
invariant-each l = record {
  apart : (key : ℤ) → ranges_with l.others.items key + is_key_in key l.all ≤ 1;
  later : (key : ℤ) → ranges_with l.others.items key + ranges_with (drop l.next-index l.ranges) key ≤ 1;
  keys : (key : ℤ) → 1 ≤ is_key_in key l.fn.range + ranges_with (take l.next-index l.ranges) key → 1 ≤ ranges_with l.others.items key + is_key_in key l.all;
}
