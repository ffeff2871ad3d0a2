-- The text so far, and what is shown of the rest.
use Rattle.std.proofs.Common.{◌≡◌, ◌++◌, drop}
use Rattle.tq_draw.specs.Labels.{escaped_after}
use Rattle.tq_draw.proofs.labels.escaped.Given as goal

abbrev pub invariant-bytes : goal.invariant-bytes
invariant-bytes l = record { text : l.text.items ++ escaped_after l.has_lines l.hidden (drop l.place l.fn.bytes) ≡ escaped_after l.has_lines 0 l.fn.bytes }
