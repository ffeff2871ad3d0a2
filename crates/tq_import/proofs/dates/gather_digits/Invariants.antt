-- The remaining marks and bytes, after the digits so far, make the digits of the date.
use Rattle.std.proofs.Common.{◌≡◌, drop, length}
use Rattle.tq_import.specs.Dates.{digits_in, gathered, no_digits}
use Rattle.tq_import.proofs.dates.gather_digits.Given as goal

abbrev pub invariant-marks : goal.invariant-marks
invariant-marks l = record {
  as_long : length l.format ≡ length l.bytes;
  rest : digits_in l.format no_digits l.bytes ≡ digits_in (drop l.place l.format) (gathered l.scratch) (drop l.place l.bytes);
}
