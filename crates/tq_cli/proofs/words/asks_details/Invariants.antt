-- The words that are left ask for details exactly if all words do.
use Rattle.std.proofs.Common.{◌≡◌, length, map}
use Rattle.std.specs.String.{string_bytes}
use Rattle.tq_cli.specs.CommandLine.{asks_details}
use Rattle.tq_cli.proofs.words.asks_details.Given as goal

abbrev pub invariant-words : goal.invariant-words
invariant-words l = asks_details (map (λ w. string_bytes w) l.words) ≡ asks_details (map (λ w. string_bytes w) l.fn.words)

abbrev pub decreases-words : goal.decreases-words
decreases-words l = length l.words
