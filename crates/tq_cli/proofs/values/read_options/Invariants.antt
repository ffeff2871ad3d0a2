-- The tables so far are those of the words so far.
use Rattle.std.proofs.Common.{map, take}
use Rattle.tq_cli.specs.CommandLine.{IsTablesOf, bytes_in}
use Rattle.tq_cli.proofs.values.read_options.Given as goal

abbrev pub invariant-words : goal.invariant-words
invariant-words l = IsTablesOf (map (λ w. bytes_in w.now) (take l.word-index l.words)) l.tables.items
