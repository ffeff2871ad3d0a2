use Rattle.std.proofs.Common.{◌≡◌, ◌+◌, drop}
use Rattle.std.specs.List.{prefix_len}
use Rattle.tq_base.specs.Names.{is_name_byte}
use Rattle.tq_base.proofs.name.word_length.Given as goal

abbrev pub invariant-loop-place : goal.invariant-loop-place
invariant-loop-place l = l.place + prefix_len is_name_byte (drop l.place l.bytes) ≡ prefix_len is_name_byte l.bytes
