-- The columns so far are those of the words so far.
use Rattle.std.proofs.Common.{map, take}
use Rattle.tq_cli.specs.CommandLine.{AreDecimalsOf, bytes_in}
use Rattle.tq_cli.proofs.layouts.decimals_of.Given as goal

abbrev pub invariant-words : goal.invariant-words
invariant-words l = AreDecimalsOf (map (λ w. bytes_in w.now) (take l.word-index l.words)) l.all.items
