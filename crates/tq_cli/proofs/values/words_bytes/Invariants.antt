-- The bytes of each word so far.
use Rattle.std.proofs.Common.{◌≡◌, map, take}
use Rattle.tq_cli.specs.CommandLine.{bytes_in}
use Rattle.tq_cli.proofs.values.words_bytes.Given as goal

abbrev pub invariant-each : goal.invariant-each
invariant-each l = map (λ w. w.items) l.all.items ≡ map (λ w. bytes_in w.now) (take l.word-index l.words)
