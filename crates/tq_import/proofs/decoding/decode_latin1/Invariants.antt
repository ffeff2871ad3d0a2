-- The bytes so far are the UTF-8 of the characters so far.
use Rattle.std.proofs.Common.{◌≡◌, ◌≤◌, ◌*◌, encode_utf8_all, take}
use Rattle.tq_import.proofs.decoding.decode_latin1.Given as goal

abbrev pub invariant-codes : goal.invariant-codes
invariant-codes l = record {
  within : l.end ≤ 2 * l.code-index;
  text : take l.end l.into ≡ encode_utf8_all (take l.code-index l.codes);
}
