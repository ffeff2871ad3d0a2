-- The code so far and the remaining bytes make the code of all bytes.
use Rattle.std.proofs.Common.{◌≡◌, drop}
use Rattle.tq_split.specs.PartNumbers.{text_code}
use Rattle.tq_split.proofs.part_numbers.text_code.Given as goal

abbrev pub invariant-bytes : goal.invariant-bytes
invariant-bytes l = text_code l.code (drop l.byte-index l.text) ≡ text_code 0 l.text
