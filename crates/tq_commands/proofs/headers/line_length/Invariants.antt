use Rattle.std.proofs.Common.{◌≡◌, ◌+◌, drop}
use Rattle.std.specs.List.{prefix_len}
use Rattle.tq_commands.specs.HeaderLines.{is_in_line}
use Rattle.tq_commands.proofs.headers.line_length.Given as goal

abbrev pub invariant-loop-place : goal.invariant-loop-place
invariant-loop-place l = l.place + prefix_len is_in_line (drop l.place l.bytes) ≡ prefix_len is_in_line l.bytes
