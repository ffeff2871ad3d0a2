-- The text so far, and what is shown of the rest.
use Rattle.std.proofs.Common.{◌≡◌, ◌++◌, drop}
use Rattle.tq_shown.specs.Printable.{printable_after, printable_text}
use Rattle.tq_shown.proofs.push_printable.Given as goal

abbrev pub invariant-bytes : goal.invariant-bytes
invariant-bytes l = record {
  text : l.text.items ++ printable_after l.hidden (drop l.place l.fn.bytes) ≡ l.fn.text.items ++ printable_text l.fn.bytes;
}
